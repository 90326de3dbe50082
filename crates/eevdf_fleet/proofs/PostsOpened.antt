-- The claims of posts at the start, one sender's after the other's.
use Rattle.std.proofs.Common.{◌≡◌, ℕ, zero, suc, ◌+◌, ◌<◌, List, [], ◌∷◌, take, drop, replicate, refl, ap, ◌∙◌, arith}
use Rattle.eevdf_fleet.specs.declared.board.claims.PostClaim.TheVariants.{Posts}
use Rattle.eevdf_fleet.specs.PostClaims.{posts_from}

pub posts-at : (cpus from count k : ℕ) → k < count → take 1 (drop k (posts_from cpus from count)) ≡ Posts (from + k) (replicate cpus []) ∷ []
posts-at cpus from zero k less = absurd (omega arith)
posts-at cpus from (suc count) zero less = ap (λ (n : ℕ). Posts n (replicate cpus []) ∷ []) (let e : from ≡ from + 0 = omega arith in e)
posts-at cpus from (suc count) (suc k) less =
    posts-at cpus (from + 1) count k (omega arith) ∙ ap (λ (n : ℕ). Posts n (replicate cpus []) ∷ []) (let e : (from + 1) + k ≡ from + suc k = omega arith in e)

pub drop-next : {A : Type 0} (k : ℕ) (xs : List A) → drop 1 (drop k xs) ≡ drop (suc k) xs
drop-next zero xs = refl
drop-next (suc k) [] = refl
drop-next (suc k) (x ∷ xs) = drop-next k xs
