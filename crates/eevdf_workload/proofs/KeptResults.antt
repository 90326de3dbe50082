-- What is found by one way of reading is found by another: step by step.
use Rattle.std.proofs.Common.{◌≡◌, ℕ, ◌+◌, Bool, true, false, cond, List, ◌∷◌, Option, Some, None, Result, Ok, Err, option_map, option_and_then, refl, ap, ◌∙◌}
use Rattle.std.proofs.lemmas.Option.{none-some, option_and_then_some}
use Rattle.toml.specs.Data.{Data, Items, no_items, item}
use Rattle.eevdf_workload.specs.{declared.load_fault.Key.Key, declared.load_fault.LoadFault.LoadFault}
use Rattle.eevdf_workload.specs.MeaningSteps.{◌>>=◌, good_at, required, if_present, each}

-- what is found in the first is found in the second
abbrev pub KeepsSome : (A : Type 0) → Option A → Option A → Type 0
KeepsSome A o p = (a : A) → o ≡ Some a → p ≡ Some a

abbrev pub KeepsOk : (A : Type 0) → Result A LoadFault → Result A LoadFault → Type 0
KeepsOk A r s = (a : A) → r ≡ Ok a → s ≡ Ok a

pub kept_cond : (A : Type 0) (b : Bool) (x x' y y' : Option A) → KeepsSome A x x' → KeepsSome A y y' → KeepsSome A (cond b x y) (cond b x' y')
kept_cond A true x x' y y' first others = first
kept_cond A false x x' y y' first others = others

pub kept_then : (A B : Type 0) (f g : A → Option B) (o p : Option A) → KeepsSome A o p → ((a : A) → KeepsSome B (f a) (g a)) → KeepsSome B (option_and_then f o) (option_and_then g p)
kept_then A B f g o p here then_too b h =
    option_and_then_some f o b h (λ a found made. ap (option_and_then g) (here a found) ∙ then_too a b made)

pub kept_after : (A B : Type 0) (o : Option A) (f g : A → Option B) → ((a : A) → KeepsSome B (f a) (g a)) → KeepsSome B (option_and_then f o) (option_and_then g o)
kept_after A B o f g = kept_then A B f g o o (λ a h. h)

pub kept_map : (A B : Type 0) (f : A → B) (o p : Option A) → KeepsSome A o p → KeepsSome B (option_map f o) (option_map f p)
kept_map A B f None p here b h = absurd (none-some b h)
kept_map A B f (Some a) p here b h = ap (option_map f) (here a refl) ∙ h

pub kept_good : (A : Type 0) (key : Key) (o p : Option A) → KeepsSome A o p → KeepsOk A (good_at key o) (good_at key p)
kept_good A key None p here a h = cc
kept_good A key (Some x) p here a h = ap (good_at key) (here x refl) ∙ h

pub kept_bind : (A B : Type 0) (f g : A → Result B LoadFault) (r s : Result A LoadFault) → KeepsOk A r s → ((a : A) → KeepsOk B (f a) (g a)) → KeepsOk B (r >>= f) (s >>= g)
kept_bind A B f g (Ok a) s here then_too b h = ap (λ (t : Result A LoadFault). t >>= g) (here a refl) ∙ then_too a b h
kept_bind A B f g (Err e) s here then_too b h = cc

pub kept_behind : (A B : Type 0) (r : Result A LoadFault) (f g : A → Result B LoadFault) → ((a : A) → KeepsOk B (f a) (g a)) → KeepsOk B (r >>= f) (r >>= g)
kept_behind A B r f g = kept_bind A B f g r r (λ a h. h)

pub kept_each : (A : Type 0) (f g : ℕ → Data → Result A LoadFault) → ((place : ℕ) (d : Data) → KeepsOk A (f place d) (g place d)) → (place : ℕ) (ds : Items)
    → KeepsOk (List A) (each f place ds) (each g place ds)
kept_each A f g here place no_items = λ found h. h
kept_each A f g here place (item d ds) =
    kept_bind A (List A) (λ a. each f (place + 1) ds >>= (λ rest. Ok (a ∷ rest))) (λ a. each g (place + 1) ds >>= (λ rest. Ok (a ∷ rest))) (f place d) (g place d) (here place d)
    (λ a. kept_bind (List A) (List A) (λ rest. Ok (a ∷ rest)) (λ rest. Ok (a ∷ rest)) (each f (place + 1) ds) (each g (place + 1) ds) (kept_each A f g here (place + 1) ds) (λ rest found e. e))

pub kept_required : (A : Type 0) (key : Key) (o : Option Data) (f g : Data → Result A LoadFault) → ((d : Data) → KeepsOk A (f d) (g d)) → KeepsOk A (required key f o) (required key g o)
kept_required A key (Some d) f g here = here d
kept_required A key None f g here = λ a h. h

pub kept_present : (A : Type 0) (o : Option Data) (f g : Data → Result A LoadFault) → ((d : Data) → KeepsOk A (f d) (g d)) → KeepsOk (Option A) (if_present f o) (if_present g o)
kept_present A (Some d) f g here = kept_bind A (Option A) (λ a. Ok (Some a)) (λ a. Ok (Some a)) (f d) (g d) (here d) (λ a b e. e)
kept_present A None f g here = λ a h. h
