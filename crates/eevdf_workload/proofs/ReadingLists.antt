-- The members of an array, read one after another.
use Rattle.std.proofs.Common.{◌≡◌, ◌∙◌, ◌+◌, ◌<◌, List, [], ◌∷◌, ◌++◌, length, get_or, drop, ℕ, Result, Ok, Err, refl, sym, ap, append_assoc, arith}
use Rattle.std.proofs.lemmas.List.{at_drop_more}
use Rattle.toml.specs.{Data.Data, View.items_view, View.view, declared.value.Value.Value}
use Rattle.eevdf_workload.specs.{declared.load_fault.LoadFault.LoadFault, MeaningSteps.◌>>=◌, MeaningSteps.count, MeaningSteps.each}

-- what was found, and behind it what the rest is read as
abbrev pub behind : {A : Type 0} → List A → Result (List A) LoadFault → Result (List A) LoadFault
behind found r = r >>= (λ rest. Ok (found ++ rest))

-- what was found is read of the members before a place
abbrev pub IsReadSoFar : {A : Type 0} → (ℕ → Data → Result A LoadFault) → List Value → List A → ℕ → Type 0
IsReadSoFar read members found place = each read 0 (items_view members) ≡ behind found (each read place (items_view (drop place members)))

behind_one : {A : Type 0} (found : List A) (a : A) (r : Result (List A) LoadFault) → behind found (r >>= (λ rest. Ok (a ∷ rest))) ≡ behind (found ++ a ∷ []) r
behind_one found a (Ok rest) = rw append_assoc
behind_one found a (Err e) = refl

-- the member at a place is read, and what it is read as stands behind what was found
pub one_more : {A : Type 0} (read : ℕ → Data → Result A LoadFault) (members : List Value) (found now : List A) (place : ℕ) (member : Value) (a : A) → IsReadSoFar read members found place → place < length members
    → member ≡ get_or members place member → read place (view member) ≡ Ok a → now ≡ found ++ a ∷ [] → IsReadSoFar read members now (place + 1)
one_more {A} read members found now place member a so low here is grown =
    let later : Result (List A) LoadFault = each read (place + 1) (items_view (drop (place + 1) members)) in
    rw grown
    (so
    ∙ ap (behind found)
    (at_drop_more (λ (vs : List Value). each read place (items_view vs)) members place member low
    ∙ ap (λ (v : Value). each read place (items_view (v ∷ drop (place + 1) members))) (sym here)
    ∙ ap (λ (r : Result A LoadFault). r >>= (λ x. later >>= (λ rest. Ok (x ∷ rest)))) is)
    ∙ behind_one found a later)

-- the members are as many as the values
pub count_is_length : (values : List Value) → count (items_view values) ≡ length values
count_is_length [] = refl
count_is_length (v ∷ vs) = omega (arith, count_is_length vs)
