-- The micro-steps of a drain by their places.
use Rattle.std.proofs.Common.{◌≡◌, ℕ, zero, suc, ◌+◌, ◌*◌, ◌<◌, List, [], ◌∷◌, ◌++◌, ap, ◌∙◌, arith}
use Rattle.std.specs.Prelude.{slice_get, Some, None}
use Rattle.eevdf_steps.specs.{declared.micro.Micro.Micro, MicroSteps.draining, MicroSteps.under_lock}
use Rattle.eevdf_steps.specs.declared.micro.Micro.TheVariants.{Take, Settle, Release}

-- a place that is given by an equation
at_place : (xs : List Micro) (k l : ℕ) → k ≡ l → slice_get xs k ≡ slice_get xs l
at_place xs k l e = ap (λ (i : ℕ). slice_get xs i) e

taken : (n s j : ℕ) (rest : List Micro) → j < n → slice_get (draining n s ++ rest) (2 * j) ≡ Some (Take (s + j))
taken zero s j rest h = absurd (omega arith)
taken (suc n) s zero rest h = ap (λ (q : ℕ). Some (Take q)) (let e : s ≡ s + 0 = omega arith in e)
taken (suc n) s (suc j) rest h =
    at_place (draining (suc n) s ++ rest) (2 * suc j) (suc (suc (2 * j))) (omega arith) ∙ taken n (s + 1) j rest (omega arith)
    ∙ ap (λ (q : ℕ). Some (Take q)) (let e : s + 1 + j ≡ s + suc j = omega arith in e)

settled : (n s j : ℕ) (rest : List Micro) → j < n → slice_get (draining n s ++ rest) (2 * j + 1) ≡ Some (Settle (s + j))
settled zero s j rest h = absurd (omega arith)
settled (suc n) s zero rest h = ap (λ (q : ℕ). Some (Settle q)) (let e : s ≡ s + 0 = omega arith in e)
settled (suc n) s (suc j) rest h =
    at_place (draining (suc n) s ++ rest) (2 * suc j + 1) (suc (suc (2 * j + 1))) (omega arith) ∙ settled n (s + 1) j rest (omega arith)
    ∙ ap (λ (q : ℕ). Some (Settle q)) (let e : s + 1 + j ≡ s + suc j = omega arith in e)

past : (n s k : ℕ) (rest : List Micro) → slice_get (draining n s ++ rest) (2 * n + k) ≡ slice_get rest k
past zero s k rest = at_place rest (2 * 0 + k) k (omega arith)
past (suc n) s k rest =
    at_place (draining (suc n) s ++ rest) (2 * suc n + k) (suc (suc (2 * n + k))) (omega arith) ∙ past n (s + 1) k rest

pub takes_at : (n cpu j at : ℕ) → j < n → at ≡ 2 * j + 1 → slice_get (under_lock cpu (draining n 0)) at ≡ Some (Take j)
takes_at n cpu j at h e =
    at_place (under_lock cpu (draining n 0)) at (suc (2 * j)) (omega arith) ∙ taken n 0 j (Release cpu ∷ []) h
    ∙ ap (λ (q : ℕ). Some (Take q)) (let e : 0 + j ≡ j = omega arith in e)

pub settles_at : (n cpu j at : ℕ) → j < n → at ≡ 2 * j + 2 → slice_get (under_lock cpu (draining n 0)) at ≡ Some (Settle j)
settles_at n cpu j at h e =
    at_place (under_lock cpu (draining n 0)) at (suc (2 * j + 1)) (omega arith) ∙ settled n 0 j (Release cpu ∷ []) h
    ∙ ap (λ (q : ℕ). Some (Settle q)) (let e : 0 + j ≡ j = omega arith in e)

pub releases_at : (n cpu at : ℕ) → at ≡ 2 * n + 1 → slice_get (under_lock cpu (draining n 0)) at ≡ Some (Release cpu)
releases_at n cpu at e = at_place (under_lock cpu (draining n 0)) at (suc (2 * n + 0)) (omega arith) ∙ past n 0 0 (Release cpu ∷ [])

pub ends_at : (n cpu at k : ℕ) → at ≡ 2 * n + 2 + k → slice_get (under_lock cpu (draining n 0)) at ≡ None
ends_at n cpu at k e = at_place (under_lock cpu (draining n 0)) at (suc (2 * n + suc k)) (omega arith) ∙ past n 0 (suc k) (Release cpu ∷ [])
