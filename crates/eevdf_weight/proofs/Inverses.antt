-- A quotient by a weight is a product with its inverse, over 2^64.
use Rattle.std.proofs.Common.{◌≡◌, ℕ, zero, suc, ◌+◌, ◌-◌, ◌*◌, ◌/◌, ◌^◌, ◌≤◌, ◌<◌, Bool, true, ◌&&◌, leb, ltb, List, [], ◌∷◌, length, get_or, refl, ap, ◌∙◌, subst, sym, arith}
use Rattle.std.specs.Prelude.{ℤ}
use Rattle.std.proofs.Math.Nat.{add-mul, mul-add, mul_assoc, mul_comm, suc-mul, mul-le-mul_left, mul-le-mul_right, lt-div-mul-add, div-mul-le_self}
use Rattle.std.proofs.{lemmas.Nat.div-mul-add, lemmas.Bool.and_parts, lemmas.Bool.Decides.nat_tests}
use Rattle.eevdf_weight.specs.{Charge.charge_of, Inverse.IsInverse, Weight.weights, Weight.place_of, Weight.weight_of}
use Rattle.eevdf_weight.proofs.Weighing.{table_weight, weight_of-least, weight_of-greatest}

-- as level_charging.rt has them
unfoldable pub inverses : List ℕ
inverses =
    207824878873713 ∷ 257079563427073 ∷ 326589311362881 ∷ 398650272809405 ∷
    508300792860753 ∷ 632734584403841 ∷ 793271870375401 ∷ 986193214312193 ∷
    1233978465028401 ∷ 1548065128710101 ∷ 1932000845591701 ∷ 2420832555604929 ∷
    3024056405526157 ∷ 3761570977510105 ∷ 4722668733668601 ∷ 5910523573761472 ∷
    7375747330551601 ∷ 9265064828583402 ∷ 11630986175100601 ∷ 14445375155606541 ∷
    18014398509481984 ∷ 22496029358182381 ∷ 28162968051464965 ∷ 35069855653440213 ∷
    43609324051322818 ∷ 55064907682715080 ∷ 67818912035696881 ∷ 85798809645160706 ∷
    107248512056450882 ∷ 134647766961383589 ∷ 167697673397359561 ∷ 212031541077121283 ∷
    263524915338707881 ∷ 329406144173384851 ∷ 409927646082434481 ∷ 512409557603043101 ∷
    636094623231363849 ∷ 802032351030850071 ∷ 1024819115206086201 ∷ 1229782938247303442 ∷ []

is_inverse : ℕ → ℕ → Bool
is_inverse w m = leb (2 ^ 64) (m * w) && ltb (m * w) (2 ^ 64 + w)

are_inverses : List ℕ → List ℕ → Bool
are_inverses (w ∷ ws) (m ∷ ms) = is_inverse w m && are_inverses ws ms
are_inverses ws ms = true

inverse_at : (ws ms : List ℕ) → are_inverses ws ms ≡ true → length ws ≡ length ms → (k : ℕ) → k < length ws → is_inverse (get_or ws k 0) (get_or ms k 0) ≡ true
unfolding are_inverses
inverse_at [] ms h e k l = grind arith
inverse_at (w ∷ ws) [] h e k l = grind arith
inverse_at (w ∷ ws) (m ∷ ms) h e zero l = (and_parts (is_inverse w m) (are_inverses ws ms) h).0
inverse_at (w ∷ ws) (m ∷ ms) h e (suc k) l = inverse_at ws ms (and_parts (is_inverse w m) (are_inverses ws ms) h).1 (omega arith) k (omega arith)

IsInverse_of : (w m : ℕ) → is_inverse w m ≡ true → IsInverse w m
unfolding is_inverse
IsInverse_of w m h = record { enough = grind (arith, nat_tests); least = grind (arith, nat_tests) }

-- what the table has at the place of a level is the inverse of the level's weight
pub table_inverse : (z : ℤ) (k : ℕ) → k ≡ place_of z → k < 40 → IsInverse (weight_of z) (get_or inverses k 0)
unfolding weights inverses is_inverse are_inverses
table_inverse z k e h =
    subst (λ w. IsInverse w (get_or inverses k 0)) (table_weight z k e h)
    (IsInverse_of (get_or weights k 0) (get_or inverses k 0) (inverse_at weights inverses refl refl k h))

split : (q r w e m : ℕ) → m * w ≡ 2 ^ 64 + e → (q * w + r) * m ≡ q * 2 ^ 64 + (q * e + r * m)
split q r w e m is =
    let whole : q * w * m ≡ q * (2 ^ 64 + e) = mul_assoc q w m ∙ ap (λ (n : ℕ). q * n) (mul_comm w m ∙ is) in
    let parts : q * (2 ^ 64 + e) ≡ q * 2 ^ 64 + q * e = mul-add q (2 ^ 64) e in
    let all : (q * w + r) * m ≡ q * w * m + r * m = add-mul (q * w) r m in
    omega arith

-- q is the quotient by w and r the rest, and m times w is 2^64 and e more
divided : (q r w e m : ℕ) → m * w ≡ 2 ^ 64 + e → e < w → r < w → w ≤ 88761 → q * w + r ≤ 2 ^ 40 → (q * w + r) * m / 2 ^ 64 ≡ q
divided q r w e m is below rest light small =
    let qe : q * e ≤ q * w = mul-le-mul_left q (omega arith) in
    let rm : suc r * m ≤ w * m = mul-le-mul_right m (omega arith) in
    let one_more : suc r * m ≡ r * m + m = suc-mul r m in
    let turned : w * m ≡ m * w = mul_comm w m in
    let not_small : m ≤ 2 ^ 41 → m * w ≤ 2 ^ 41 * w = λ h. mul-le-mul_right w h in
    let large : 2 ^ 41 < m = grind arith in
    ap (λ (n : ℕ). n / 2 ^ 64) (split q r w e m is) ∙ div-mul-add q (2 ^ 64) (q * e + r * m) (omega arith)

-- the sum of a rest and a multiple, with the subtractions written out
pub multiplied : (x w m : ℕ) → x ≤ 2 ^ 40 → 1 ≤ w → w ≤ 88761 → IsInverse w m → x * m / 2 ^ 64 ≡ x / w
multiplied x w m small some light h =
    let q = x / w in
    let r = x - q * w in
    let e = m * w - 2 ^ 64 in
    let below : q * w ≤ x = div-mul-le_self x w in
    let above : x < q * w + w = lt-div-mul-add some in
    let enough = h.enough in
    let least = h.least in
    let whole : q * w + r ≡ x = omega arith in
    ap (λ (n : ℕ). n * m / 2 ^ 64) (sym whole)
    ∙ divided q r w e m (omega arith) (omega arith) (omega arith) light (subst (λ (n : ℕ). n ≤ 2 ^ 40) (sym whole) small)

pub charged : (ns m : ℕ) (nice : ℤ) → ns ≤ 1000000000 → IsInverse (weight_of nice) m → ns * 1024 * m / 2 ^ 64 ≡ charge_of ns (weight_of nice)
unfolding charge_of
charged ns m nice h i =
    multiplied (ns * 1024) (weight_of nice) m (omega arith) (let l = weight_of-least nice in omega arith) (weight_of-greatest nice) i
