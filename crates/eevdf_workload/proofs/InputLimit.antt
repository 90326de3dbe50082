-- A workload that is cut one byte past its limit means what it meant.
use Rattle.std.proofs.Common.{◌≡◌, ℕ, ◌+◌, ◌≤◌, Bool, true, false, cond, List, length, take, refl, ap, ◌∙◌, arith}
use Rattle.std.specs.Prelude.{nat_lt, if◌then◌else◌, Err}
use Rattle.std.proofs.{lemmas.List.take_all, lemmas.List.length-take, lemmas.Bool.Decides.nat_tests}
use Rattle.eevdf_workload.specs.declared.load_fault.LoadFault.TheVariants as fault
use Rattle.eevdf_workload.specs.Meaning.{meaning, most_bytes, read_limit, document_of, workload_of}
use Rattle.eevdf_workload.specs.MeaningSteps.{◌>>=◌}

cut : {A : Type 0} (m n : ℕ) (e : A) (read : List ℕ → A) (bytes : List ℕ) (b : Bool) → n ≡ m + 1 → nat_lt m (length bytes) ≡ b
    → (if nat_lt m (length (take n bytes)) then e else read (take n bytes)) ≡ (if b then e else read bytes)
cut {A} m n e read bytes true one h =
    let longer : nat_lt m (length (take n bytes)) ≡ true = grind (arith, nat_tests, length-take n bytes) in
    ap (λ (t : Bool). cond t e (read (take n bytes))) longer
cut {A} m n e read bytes false one h =
    let short : length bytes ≤ n = grind (arith, nat_tests) in
    let same : take n bytes ≡ bytes = take_all n bytes short in
    ap (λ (bs : List ℕ). cond (nat_lt m (length bs)) e (read bs)) same ∙ ap (λ (t : Bool). cond t e (read bytes)) h

pub meaning_cut : (bytes : List ℕ) → meaning (take read_limit bytes) ≡ meaning bytes
unfolding meaning
meaning_cut bytes = cut most_bytes read_limit (Err fault.TooLarge) (λ (bs : List ℕ). document_of bs >>= workload_of) bytes (nat_lt most_bytes (length bytes)) refl refl
