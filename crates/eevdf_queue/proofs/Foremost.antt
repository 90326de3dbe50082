-- The foremost of some tasks by an order: what it is, and that it is the same in whatever order they are asked.
use Rattle.std.proofs.Common.{◌≡◌, ◌≢◌, ℕ, Bool, true, false, cond, List, [], ◌∷◌, Option, Some, None, refl, sym, subst, ap, ◌∙◌, arith}
use Rattle.std.specs.{Prelude.not, Ordering.nat_cmp, Ordering.eq_by_cmp, FinMap.find}
use Rattle.std.proofs.lemmas.Bool.Decides.{nat_tests}
use Rattle.eevdf_queue.specs.declared.entry.Entry.{Entry}
use Rattle.eevdf_queue.proofs.{ListMaps.same_number, MapFolds.AreDistinct}

abbrev pub foremost : (ℕ × Entry → ℕ × Entry → Bool) → ℕ × Entry → Option (ℕ × Entry) → ℕ × Entry
foremost before a None = a
foremost before a (Some b) = cond (before b a) b a

-- one more task that may pass
abbrev pub taken : (ℕ × Entry → ℕ × Entry → Bool) → (ℕ × Entry → Bool) → ℕ × Entry → Option (ℕ × Entry) → Option (ℕ × Entry)
taken before passes a x = cond (passes a) (Some (foremost before a x)) x

-- tasks of different numbers come one before the other
pub record IsOrder (before : ℕ × Entry → ℕ × Entry → Bool) : Type 0 where
  pub between : (a b c : ℕ × Entry) → before c b ≡ true → before c a ≡ false → before a b ≡ true
  pub either : (a b : ℕ × Entry) → a.0 ≢ b.0 → before a b ≡ not (before b a)
  pub one_way : (a b : ℕ × Entry) → before a b ≡ true → before b a ≡ false
  pub no_later : (a b c : ℕ × Entry) → before c b ≡ false → before b a ≡ false → before c a ≡ false
  pub itself : (a : ℕ × Entry) → before a a ≡ false

-- the foremost of a list: it stands there and passes, and none that passes comes before it
pub record IsFirst (before : ℕ × Entry → ℕ × Entry → Bool) (passes : ℕ × Entry → Bool) (es : List (ℕ × Entry)) (a : ℕ × Entry) : Type 0 where
  pub here : find nat_cmp a.0 es ≡ Some a.1
  pub passed : passes a ≡ true
  pub first : (u : ℕ) (f : Entry) → find nat_cmp u es ≡ Some f → passes (u, f) ≡ true → before (u, f) a ≡ false

-- where there is none, none passes
abbrev pub IsForemost : (ℕ × Entry → ℕ × Entry → Bool) → (ℕ × Entry → Bool) → List (ℕ × Entry) → Option (ℕ × Entry) → Type 0
IsForemost before passes es None = (u : ℕ) (f : Entry) → find nat_cmp u es ≡ Some f → passes (u, f) ≡ false
IsForemost before passes es (Some a) = IsFirst before passes es a

pub equal_number : (u x : ℕ) → eq_by_cmp nat_cmp u x ≡ true → u ≡ x
equal_number u x h = grind (arith, nat_tests, same_number u x)

pub itself : (x : ℕ) → eq_by_cmp nat_cmp x x ≡ true
itself x = grind (arith, nat_tests, same_number x x)

-- the head of a list is found there
pub head : {X : Type 0} (e : ℕ × X) (es : List (ℕ × X)) → find nat_cmp e.0 (e ∷ es) ≡ Some e.1
head e es = ap (λ b. cond b (Some e.1) (find nat_cmp e.0 es)) (itself e.0)

-- what is found in a list is its head or stands behind it
found_by : {X : Type 0} (P : ℕ × X → Type 0) (e : ℕ × X) (es : List (ℕ × X)) (u : ℕ) (f : X) → P e → (find nat_cmp u es ≡ Some f → P (u, f))
    → find nat_cmp u (e ∷ es) ≡ Some f → P (u, f)
found_by {X} P e es u f at behind =
    by (eq_by_cmp nat_cmp u e.0) refl
  where
    by : (b : Bool) → eq_by_cmp nat_cmp u e.0 ≡ b → cond b (Some e.1) (find nat_cmp u es) ≡ Some f → P (u, f)
    by true k h =
        let n : e.0 ≡ u = sym (equal_number u e.0 k) in
        let x : e.1 ≡ f = cc in
        subst (λ (z : X). P (u, z)) x (subst (λ (z : ℕ). P (z, e.1)) n at)
    by false k h = behind h

-- what is found behind a head that isn't found there has another number
pub behind : {X : Type 0} (e a : ℕ × X) (es : List (ℕ × X)) → find nat_cmp e.0 es ≡ None → find nat_cmp a.0 es ≡ Some a.1 → find nat_cmp a.0 (e ∷ es) ≡ Some a.1
behind e a es none here =
    by (eq_by_cmp nat_cmp a.0 e.0) refl
  where
    by : (b : Bool) → eq_by_cmp nat_cmp a.0 e.0 ≡ b → cond b (Some e.1) (find nat_cmp a.0 es) ≡ Some a.1
    by true k = let same : find nat_cmp a.0 es ≡ None = ap (λ n. find nat_cmp n es) (equal_number a.0 e.0 k) ∙ none in cc
    by false k = here

module _ (before : ℕ × Entry → ℕ × Entry → Bool) (o : IsOrder before) (passes : ℕ × Entry → Bool) where
  stays_first : (e a : ℕ × Entry) (es : List (ℕ × Entry)) → find nat_cmp e.0 es ≡ None → IsFirst before passes es a → (passes e ≡ true → before e a ≡ false)
      → IsFirst before passes (e ∷ es) a
  stays_first e a es none h k = record {
    here = behind e a es none h.here;
    passed = h.passed;
    first = λ u f. found_by (λ z. passes z ≡ true → before z a ≡ false) e es u f k (h.first u f);
  }

  comes_first : (e : ℕ × Entry) (es : List (ℕ × Entry)) → passes e ≡ true → ((u : ℕ) (f : Entry) → find nat_cmp u es ≡ Some f → passes (u, f) ≡ true → before (u, f) e ≡ false)
      → IsFirst before passes (e ∷ es) e
  comes_first e es is h = record {
    here = head e es;
    passed = is;
    first = λ u f. found_by (λ z. passes z ≡ true → before z e ≡ false) e es u f (λ also. o.itself e) (h u f);
  }

  foremost_by : (e : ℕ × Entry) (es : List (ℕ × Entry)) (x : Option (ℕ × Entry)) (v : Bool) → passes e ≡ v → find nat_cmp e.0 es ≡ None
      → IsForemost before passes es x → IsForemost before passes (e ∷ es) (cond v (Some (foremost before e x)) x)
  foremost_by e es None false is none h = λ u f. found_by (λ z. passes z ≡ false) e es u f is (h u f)
  foremost_by e es (Some a) false is none h = stays_first e a es none h (λ does. cc)
  foremost_by e es None true is none h = comes_first e es is (λ u f found does. let not : passes (u, f) ≡ false = h u f found in cc)
  foremost_by e es (Some a) true is none h =
      elim (before a e) as (λ w. before a e ≡ w → IsFirst before passes (e ∷ es) (cond w a e)) [
        | true ↦ λ w. stays_first e a es none h (λ does. o.one_way a e w)
        | false ↦ λ w. comes_first e es is (λ u f found does. o.no_later e a (u, f) (h.first u f found does) w)
      ] refl

  pub is_foremost : (F : List (ℕ × Entry) → Option (ℕ × Entry)) → F [] ≡ None → ((e : ℕ × Entry) (es : List (ℕ × Entry)) → F (e ∷ es) ≡ taken before passes e (F es))
      → (es : List (ℕ × Entry)) → AreDistinct es → IsForemost before passes es (F es)
  is_foremost F none more [] d = subst (IsForemost before passes []) (sym none) (λ u f found. cc)
  is_foremost F none more (e ∷ es) d =
      subst (IsForemost before passes (e ∷ es)) (sym (more e es)) (foremost_by e es (F es) (passes e) refl d.0 (is_foremost F none more es d.1))

  foremost-swap : (a b : ℕ × Entry) (x : Option (ℕ × Entry)) → a.0 ≢ b.0 → foremost before a (Some (foremost before b x)) ≡ foremost before b (Some (foremost before a x))
  foremost-swap a b None ne = grind (arith, nat_tests, o.either a b ne)
  foremost-swap a b (Some c) ne = grind (arith, nat_tests, o.either a b ne, o.between a b c, o.between b a c)

  pub taken-swap : (a b : ℕ × Entry) (x : Option (ℕ × Entry)) → a.0 ≢ b.0 → taken before passes a (taken before passes b x) ≡ taken before passes b (taken before passes a x)
  taken-swap a b x ne = grind (arith, nat_tests, foremost-swap a b x ne)
