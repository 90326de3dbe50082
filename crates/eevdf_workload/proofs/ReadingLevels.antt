-- A nice level that is written without a sign.
use Rattle.std.proofs.Common.{◌≡◌, ◌≢◌, ℕ, ◌^◌, true, eqb, ltb, List, [], ◌∷◌, Option, Some, None, option_map, option_and_then, refl, ap, inl, inr, arith}
use Rattle.std.specs.Prelude.{pos}
use Rattle.std.proofs.{lemmas.Bool.cases_Bool, lemmas.Bool.Decides.nat_tests, lemmas.Int.ints}
use Rattle.eevdf_weight.specs.Limits.{checked_level}
use Rattle.eevdf_workload.specs.Words.{number, fitting, signed_number}

pub is_sign : (c : ℕ) → eqb c 45 ≡ true → c ≡ 45
is_sign c h = grind (arith, nat_tests)

pub without_sign : (word : List ℕ) → ((rest : List ℕ) → word ≢ 45 ∷ rest) → signed_number word ≡ option_map pos (number word)
unfolding number
without_sign [] h = refl
without_sign (c ∷ cs) h =
    elim (cases_Bool (eqb c 45)) [
      | inl sign ↦ absurd (h cs (ap (λ (d : ℕ). d ∷ cs) (is_sign c sign)))
      | inr other ↦ rw other
    ]

pub fitting_level : (o : Option ℕ) → option_and_then checked_level (option_map pos o) ≡ option_and_then (λ n. checked_level (pos n)) (option_and_then fitting o)
fitting_level None = refl
fitting_level (Some n) =
    elim (cases_Bool (ltb n (2 ^ 64))) [
      | inl fits ↦ rw fits
      | inr over ↦ rw over (grind (arith, ints, nat_tests))
    ]
