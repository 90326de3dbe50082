-- What is asked of the maps of sleeping tasks, answered from their slots.
use Rattle.std.proofs.Common.{◌≡◌, ◌==◌, ℕ, zero, suc, ◌+◌, ◌<◌, Bool, true, false, cond, List, [], ◌∷◌, length, get_or, Option, Some, None, refl, sym, subst, ap, ◌∙◌, arith}
use Rattle.std.specs.{Prelude.is_some, Prelude.Box, Ordering.nat_cmp, Ordering.eq_by_cmp, Cmp.nat_cmp_total}
use Rattle.std.specs.FinMap.{FinMap, find, empty, insert, remove, get, nat_cmp-IsAntisymmetric, get-from_entries, get-insert, get-remove, get-empty, same_map}
use Rattle.std.proofs.lemmas.Bool.Decides.{nat_tests}
use Rattle.eevdf_queue.proofs.ListMaps.{same_number, turned}
use Rattle.eevdf_queue.specs.{State.Sleeper, Lag.is_lag, Kept.AreLimited, Kept.AreOfSleepers, TreeShape.Tree}
use Rattle.eevdf_queue.specs.Slots.{sleeper_of_node, place_of_node, read_slot, with_found, read_from, found_in, slot_at, IsSlot, AreSlots, IsWith}

abbrev pub Slot : Type 0 → Type 0
Slot Z = Option (Box Tree Z)

-- what is kept of the task of a node
abbrev pub sleeps : Tree → Option Sleeper
sleeps a = Some (sleeper_of_node a)

module _ {V : Type 0} where
  below_found : (n q : ℕ) (o : Option V) (found : List (ℕ × V)) → q < suc n → find nat_cmp q found ≡ None → q < n → find nat_cmp q (with_found n o found) ≡ None
  below_found n q None found h k l = k
  below_found n q (Some a) found h k l = grind (arith, nat_tests, same_number q n)

  here_found : (n q : ℕ) (o : Option V) (found : List (ℕ × V)) → q ≡ n → find nat_cmp q found ≡ None → find nat_cmp q (with_found n o found) ≡ o
  here_found n q None found e k = k
  here_found n q (Some a) found e k = grind (arith, nat_tests, same_number q n)

  later_found : (n q : ℕ) (o : Option V) (found : List (ℕ × V)) → n < q → find nat_cmp q (with_found n o found) ≡ find nat_cmp q found
  later_found n q None found h = refl
  later_found n q (Some a) found h = grind (arith, nat_tests, same_number q n)

module _ {Z V : Type 0} (read : Tree → Option V) where
  -- no slot from a number on is of a lower number
  find-below : (ss : List (Slot Z)) (n q : ℕ) → q < n → find nat_cmp q (read_from read n ss) ≡ None
  find-below [] n q h = refl
  find-below (s ∷ ss) n q h = below_found n q (read_slot read s) (read_from read (suc n) ss) (omega (arith, h)) (find-below ss (suc n) q (omega (arith, h))) h

  find-slots : (ss : List (Slot Z)) (n k : ℕ) → find nat_cmp (n + k) (read_from read n ss) ≡ read_slot read (get_or ss k None)
  find-slots [] n k = refl
  find-slots (s ∷ ss) n zero = here_found n (n + 0) (read_slot read s) (read_from read (suc n) ss) (omega arith) (find-below ss (suc n) (n + 0) (omega arith))
  find-slots (s ∷ ss) n (suc k) =
      later_found n (n + suc k) (read_slot read s) (read_from read (suc n) ss) (omega arith)
      ∙ ap (λ (x : ℕ). find nat_cmp x (read_from read (suc n) ss)) (let e : n + suc k ≡ suc n + k = omega arith in e)
      ∙ find-slots ss (suc n) k

  pub get-found_in : (ss : List (Slot Z)) (q : ℕ) → get (found_in read ss) q ≡ read_slot read (slot_at ss q)
  unfolding found_in
  get-found_in ss q =
      get-from_entries nat_cmp_total (read_from read 0 ss) q
      ∙ ap (λ (x : ℕ). find nat_cmp x (read_from read 0 ss)) (let e : q ≡ 0 + q = omega arith in e)
      ∙ find-slots ss 0 q

  pub found_in-none : (ss : List (Slot Z)) → ((q : ℕ) → slot_at ss q ≡ None) → found_in read ss ≡ empty
  found_in-none ss h =
      same_map nat_cmp_total nat_cmp-IsAntisymmetric _ _ (λ x. get-found_in ss x ∙ ap (read_slot read) (h x) ∙ sym (get-empty nat_cmp x))

  -- what is read of the slots, and of others that are the same but for one
  module _ (ss : List (Slot Z)) (m : FinMap nat_cmp V) (v : found_in read ss ≡ m) where
    pub found_is : (q : ℕ) → get m q ≡ read_slot read (slot_at ss q)
    found_is q = ap (λ (z : FinMap nat_cmp V). get z q) (sym v) ∙ get-found_in ss q

    get-changed : (rs : List (Slot Z)) (q x : ℕ) (o : Slot Z) → IsWith q o ss rs → get (found_in read rs) x ≡ cond (eq_by_cmp nat_cmp x q) (read_slot read o) (get m x)
    get-changed rs q x o w = grind (arith, nat_tests, get-found_in rs x, w x, found_is x, same_number x q, turned x q)

    pub found_more : (rs : List (Slot Z)) (q : ℕ) (o : Slot Z) (a : V) → IsWith q o ss rs → read_slot read o ≡ Some a → found_in read rs ≡ insert m q a
    found_more rs q o a w e =
        same_map nat_cmp_total nat_cmp-IsAntisymmetric _ _ (λ x.
        get-changed rs q x o w ∙ ap (λ (z : Option V). cond (eq_by_cmp nat_cmp x q) z (get m x)) e ∙ sym (get-insert nat_cmp_total m q a x))

    pub found_less : (rs : List (Slot Z)) (q : ℕ) (o : Slot Z) → IsWith q o ss rs → read_slot read o ≡ None → found_in read rs ≡ remove m q
    found_less rs q o w e =
        same_map nat_cmp_total nat_cmp-IsAntisymmetric _ _ (λ x.
        get-changed rs q x o w ∙ ap (λ (z : Option V). cond (eq_by_cmp nat_cmp x q) z (get m x)) e ∙ sym (get-remove nat_cmp_total m q x))

    kept_by : (q x : ℕ) (o : Slot Z) → read_slot read o ≡ get m q → cond (eq_by_cmp nat_cmp x q) (read_slot read o) (get m x) ≡ get m x
    kept_by q x o e = grind (arith, nat_tests, same_number x q, turned x q)

    pub found_same : (rs : List (Slot Z)) (q : ℕ) (o : Slot Z) → IsWith q o ss rs → read_slot read o ≡ get m q → found_in read rs ≡ m
    found_same rs q o w e = same_map nat_cmp_total nat_cmp-IsAntisymmetric _ _ (λ x. get-changed rs q x o w ∙ kept_by q x o e)

module _ {Z : Type 0} where
  limited_by : (q : ℕ) (o : Slot Z) (s : Sleeper) → IsSlot q o → read_slot sleeps o ≡ Some s → (q < 1024) × (is_lag s.lag s.nice s.slice ≡ true)
  limited_by q None s h e = cc
  limited_by q (Some b) s h e =
      let is : sleeper_of_node b.value ≡ s = cc in
      (h.below, subst (λ (x : Sleeper). is_lag x.lag x.nice x.slice ≡ true) is h.lone.limited)

  pub limited_in : (ss : List (Slot Z)) → AreSlots ss → AreLimited (found_in sleeps ss)
  limited_in ss h = λ q s e. limited_by q (slot_at ss q) s (h q) (sym (get-found_in sleeps ss q) ∙ e)

  pub is_filled : (o : Slot Z) → is_some (read_slot sleeps o) ≡ is_some o
  is_filled None = refl
  is_filled (Some b) = refl

  -- a slot with a place has a task
  has_task : (o : Slot Z) → is_some (read_slot place_of_node o) ≡ true → is_some (read_slot sleeps o) ≡ true
  has_task None h = h
  has_task (Some b) h = refl

  pub placed_in : (ss : List (Slot Z)) → AreOfSleepers (found_in place_of_node ss) (found_in sleeps ss)
  placed_in ss = λ q h.
      ap is_some (get-found_in sleeps ss q) ∙ has_task (slot_at ss q) (sym (ap is_some (get-found_in place_of_node ss q)) ∙ h)

  pub no_place : (o : Slot Z) → read_slot sleeps o ≡ None → read_slot place_of_node o ≡ None
  no_place None h = refl
  no_place (Some b) h = cc

  pub contains_is : (ss : List (Slot Z)) (m : FinMap nat_cmp Sleeper) → found_in sleeps ss ≡ m → (q : ℕ) → is_some (get m q) ≡ is_some (slot_at ss q)
  contains_is ss m v q = ap is_some (found_is sleeps ss m v q) ∙ is_filled (slot_at ss q)

  pub all_empty : (ss : List (Slot Z)) → ((i : ℕ) → i < length ss → slot_at ss i ≡ None) → (q : ℕ) → slot_at ss q ≡ None
  all_empty [] h q = refl
  all_empty (s ∷ ss) h zero = h 0 (omega arith)
  all_empty (s ∷ ss) h (suc q) = all_empty ss (λ i l. h (suc i) (omega arith)) q

  -- a slot that is emptied and filled again
  filled_by : (b : Bool) (o n x : Slot Z) → cond b n (cond b o x) ≡ cond b n x
  filled_by true o n x = refl
  filled_by false o n x = refl

  pub filled_again : (ss rs ts : List (Slot Z)) (q : ℕ) (o n : Slot Z) → IsWith q o ss rs → IsWith q n rs ts → IsWith q n ss ts
  filled_again ss rs ts q o n h k = λ x. k x ∙ ap (λ (z : Slot Z). cond (x == q) n z) (h x) ∙ filled_by (x == q) o n (slot_at ss x)

pub ruleset asleep_maps = (found_in-none, get-found_in, is_filled, limited_in, placed_in)
