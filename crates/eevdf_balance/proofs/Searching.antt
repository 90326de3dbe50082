-- A sweep turn by turn.
use Rattle.std.proofs.Common.{◌≡◌, ◌≢◌, ℕ, zero, suc, ◌+◌, ◌<◌, ◌≤◌, Bool, true, false, cond, List, [], ◌∷◌, length, set, refl, sym, ap, subst, ◌∙◌, inl, inr, arith}
use Rattle.std.specs.Prelude.{◌⊎◌, nat_lt, None, Result, Ok, Err}
use Rattle.std.proofs.lemmas.Bool.{cases_lt, Decides.nat_tests}
use Rattle.eevdf_queue.specs.{State.Contents}
use Rattle.eevdf_ops.specs.{declared.deeds.Answer.Answer, declared.deeds.Deed.TheVariants.Pull, Numbers.cpu_limit}
use Rattle.eevdf_ops.specs.declared.deeds.Answer.TheVariants.{Pulled}
use Rattle.eevdf_ops.specs.{Machine.Machine, Machine.queue_at, Transfers.pulled, Whole.at_two, Whole.whole, WholePull.decision, WholePull.load_of, WholePull.offer}
use Rattle.eevdf_balance.specs.{Crowds.IsIdle, Sweeps.taken}
use Rattle.eevdf_balance.specs.FindWork.{answer_of_pull, turn_of, NoneGivesBefore, NoneGives, NoneIsCrowded}
use Rattle.eevdf_balance.proofs.Tries.{few-or-range}

-- a pull that takes none leaves the machine as it is
written_back : (m : Machine) (c : ℕ) → set m c (queue_at m c) ≡ m
written_back [] c = refl
written_back (q ∷ m) zero = refl
written_back (q ∷ m) (suc c) = ap (λ (n : Machine). q ∷ n) (written_back m c)

unmoved_by : (m : Machine) (cpu source : ℕ) (d : Result Contents Answer) → taken (pulled d (queue_at m cpu) (queue_at m source)).0 ≡ None
    → (at_two m cpu source (pulled d (queue_at m cpu) (queue_at m source))).1 ≡ m
unmoved_by m cpu source (Err why) none = ap (λ (n : Machine). set n source (queue_at m source)) (written_back m cpu) ∙ written_back m source
unmoved_by m cpu source (Ok p) none = cc

pub unmoved : (homes : List ℕ) (m : Machine) (cpu source : ℕ) → taken (answer_of_pull homes m cpu source) ≡ None → (whole homes (Pull cpu source) m).1 ≡ m
unmoved homes m cpu source none = unmoved_by m cpu source (decision (queue_at m cpu) (load_of (queue_at m source)) (offer (queue_at m source))) none

-- each turn is of one CPU
one_turn : (cpu a b : ℕ) (x y : Bool) → nat_lt cpu a ≡ x → nat_lt cpu b ≡ y → a < cpu_limit → b < cpu_limit → cond x a (cpu_limit + a) ≡ cond y b (cpu_limit + b) → a ≡ b
one_turn cpu a b true true e f h i same = same
one_turn cpu a b true false e f h i same = absurd (let no : ⊥ = omega (arith, same, h) in no)
one_turn cpu a b false true e f h i same = absurd (let no : ⊥ = omega (arith, same, i) in no)
one_turn cpu a b false false e f h i same = omega (arith, same)

same_cpu : (cpu a b : ℕ) → a < cpu_limit → b < cpu_limit → turn_of cpu a ≡ turn_of cpu b → a ≡ b
same_cpu cpu a b h i same = one_turn cpu a b (nat_lt cpu a) (nat_lt cpu b) refl refl h i same

-- one more turn, of a CPU that gives none if it is there
pub next-turn : (homes : List ℕ) (m : Machine) (cpu steps tried : ℕ) → tried < cpu_limit → turn_of cpu tried ≡ cpu + steps
    → (tried < length m → taken (answer_of_pull homes m cpu tried) ≡ None) → NoneGivesBefore homes m cpu (cpu + steps) → NoneGivesBefore homes m cpu (cpu + (steps + 1))
next-turn homes m cpu steps tried numbered turn none before source another less =
    by (cases_lt (turn_of cpu source) (cpu + steps))
  where
    by : (turn_of cpu source < cpu + steps) ⊎ (cpu + steps ≤ turn_of cpu source) → taken (answer_of_pull homes m cpu source) ≡ None
    by (inl h) = before source another h
    by (inr h) =
        let same : source ≡ tried = same_cpu cpu source tried another.numbered numbered (omega (arith, h, less, turn)) in
        subst (λ (c : ℕ). taken (answer_of_pull homes m cpu c) ≡ None) (sym same) (none (subst (λ (c : ℕ). c < length m) same another.there))

-- after the last turn nobody is crowded
pub none-is-crowded : (homes : List ℕ) (m : Machine) (cpu : ℕ) → NoneGives homes m cpu → IsIdle m cpu → NoneIsCrowded homes m cpu
none-is-crowded homes m cpu none idle source another = few-or-range homes m cpu source (answer_of_pull homes m cpu source) refl idle (none source another)

-- ---- the loop
untaken : (a : Answer) → ((t : ℕ) → a ≡ Pulled t → ⊥) → taken a ≡ None
untaken (Pulled t) none = absurd (none t refl)
untaken a none = refl

-- a pull that was tried, on the machine as it was at first
pub as-at-first : (homes first_homes : List ℕ) (m first after : Machine) (cpu source : ℕ) (a : Answer) → homes ≡ first_homes → m ≡ first → a ≡ answer_of_pull homes m cpu source
    → after ≡ (whole homes (Pull cpu source) m).1 → ((t : ℕ) → a ≡ Pulled t → ⊥) → (taken (answer_of_pull first_homes first cpu source) ≡ None) × (after ≡ first)
as-at-first homes first_homes m first after cpu source a hs ms is leaves none =
    let refused : taken (answer_of_pull homes m cpu source) ≡ None = ap taken (sym is) ∙ untaken a none in (
      ap (λ (h : List ℕ). taken (answer_of_pull h first cpu source)) (sym hs) ∙ ap (λ (n : Machine). taken (answer_of_pull homes n cpu source)) (sym ms) ∙ refused,
      leaves ∙ unmoved homes m cpu source refused ∙ ms,
    )

-- all turns are before the last number's of steps
turn_by : (cpu steps source : ℕ) (b : Bool) → nat_lt cpu source ≡ b → source < cpu_limit → source ≢ cpu → 64 ≤ steps → cond b source (cpu_limit + source) < cpu + steps
turn_by cpu steps source true e numbered apart many = omega (arith, numbered, many)
turn_by cpu steps source false e numbered apart many = let below : source < cpu = lower cpu source e apart in omega (arith, below, many)
  where
    lower : (cpu source : ℕ) → nat_lt cpu source ≡ false → source ≢ cpu → source < cpu
    lower cpu source e apart = grind (arith, nat_tests)

pub all-turns : (homes : List ℕ) (m : Machine) (cpu steps : ℕ) → 64 ≤ steps → NoneGivesBefore homes m cpu (cpu + steps) → NoneGives homes m cpu
all-turns homes m cpu steps many before source another =
    before source another (turn_by cpu steps source (nat_lt cpu source) refl another.numbered another.apart many)

-- a number that the machine hasn't
pub not-there : (b : Bool) (source n k : ℕ) → b ≡ false → b ≡ nat_lt source n → n ≡ k → source < k → ⊥
not-there b source n k none is same there = grind (arith, nat_tests)
