-- Bounds on weights, for the crates above too.
use Rattle.std.proofs.Common.{◌≡◌, ℕ, zero, suc, ◌≤◌, ◌<◌, Bool, true, ◌&&◌, leb, List, [], ◌∷◌, length, get_or, refl, ap, ◌∙◌, arith}
use Rattle.std.specs.Prelude.{ℤ}
use Rattle.std.specs.List.{list_all}
use Rattle.std.proofs.{lemmas.List.get_or_default, lemmas.Bool.and_parts, lemmas.Bool.Decides.nat_tests}
use Rattle.eevdf_weight.specs.Weight.{weights, place_of, weight_of}

abbrev is_weight : ℕ → Bool
is_weight w = leb 15 w && leb w 88761

bounded : (xs : List ℕ) → list_all is_weight xs ≡ true → (k : ℕ) → is_weight (get_or xs k 15) ≡ true
bounded [] h k = refl
bounded (x ∷ xs) h zero = (and_parts (is_weight x) (list_all is_weight xs) h).0
bounded (x ∷ xs) h (suc k) = bounded xs (and_parts (is_weight x) (list_all is_weight xs) h).1 k

is_weight_of : (z : ℤ) → is_weight (weight_of z) ≡ true
unfolding weight_of weights
is_weight_of z = bounded weights refl (place_of z)

least : (w : ℕ) → is_weight w ≡ true → 15 ≤ w
least w h = grind (arith, nat_tests)

greatest : (w : ℕ) → is_weight w ≡ true → w ≤ 88761
greatest w h = grind (arith, nat_tests)

pub weight_of-least : (z : ℤ) → 15 ≤ weight_of z
weight_of-least z = least (weight_of z) (is_weight_of z)

pub weight_of-greatest : (z : ℤ) → weight_of z ≤ 88761
weight_of-greatest z = greatest (weight_of z) (is_weight_of z)

few : (z : ℤ) (k : ℕ) → k ≡ place_of z → k < 40 → place_of z < length weights
unfolding weights
few z k e h = omega arith

-- what the table has at the place of a level is the level's weight
pub table_weight : (z : ℤ) (k : ℕ) → k ≡ place_of z → k < 40 → get_or weights k 0 ≡ weight_of z
unfolding weight_of
table_weight z k e h = ap (λ i. get_or weights i 0) e ∙ get_or_default weights (place_of z) 0 15 (few z k e h)
