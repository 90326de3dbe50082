-- One turn keeps what is asked of the tasks, and so does a task that leaves.
use Rattle.std.proofs.Common.{◌≡◌, ℕ, ◌+◌, ◌-◌, ◌*◌, ◌≤◌, Bool, true, false, cond, Some, None, refl, sym, ap, ◌∙◌, subst, inl, inr, arith}
use Rattle.std.specs.Prelude.{ℤ, pos, ◌+ℤ◌, ◌*ℤ◌, ◌≤ℤ◌, int_le}
use Rattle.std.specs.{Ordering.nat_cmp, Ordering.eq_by_cmp, Cmp.nat_cmp_total}
use Rattle.std.specs.FinMap.{get, insert, remove, get-remove}
use Rattle.std.proofs.{lemmas.Int.ints, lemmas.Nat.le-div}
use Rattle.eevdf_weight.specs.{Weight.weight_of, Charge.charge_of}
use Rattle.eevdf_weight.proofs.Weighing.{weight_of-least}
use Rattle.eevdf_queue.specs.{declared.entry.Entry.Entry, Sums.Tasks, Sums.total_weight, Sums.total_moment}
use Rattle.eevdf_queue.specs.Pick.{Eligible, IsNoLater, is_eligible}
use Rattle.eevdf_queue.proofs.{Floors.no_more as at_most, Scaled.sum_scaled}
use Rattle.eevdf_fairness.proofs.Inequalities.{le_then, no_more}
use Rattle.eevdf_fairness.proofs.EntrySums.{same_weight, sum_over, sum_insert, weight, moment, weights, moments, no_heavier}
use Rattle.eevdf_fairness.proofs.{Growing.Grown, Growing.found_after, Growing.found_at_after, Rules.Rule, Rules.IsWithin, Rules.IsLittleAhead, Rules.NoneIsPastBy}

-- ---- who is picked isn't past a time that some task is due by
no_later : (p u : ℕ) (e f : Entry) → IsNoLater p e u f → e.d ≤ℤ f.d
no_later p u e f (inl h) = omega (arith, ints, h)
no_later p u e f (inr h) = omega (arith, ints, h.0)

-- one that is eligible isn't past one that isn't
pub not_past_one : (a b S : ℤ) (W : ℕ) → int_le (a *ℤ pos W) S ≡ true → int_le (b *ℤ pos W) S ≡ false → a ≤ℤ b
not_past_one a b S W h k = at_most a b S W (omega (arith, ints, h)) (omega (arith, ints, k))

picked_by : (tasks : Tasks) (p : ℕ) (e : Entry) (owed : is_eligible tasks e ≡ true) (first : (u : ℕ) (f : Entry) → Eligible tasks u f → IsNoLater p e u f)
    (u : ℕ) (f : Entry) → get tasks u ≡ Some f → (time : ℤ) → (e.d ≤ℤ time → e.v ≤ℤ time) → f.v ≤ℤ time → f.d ≤ℤ time → (b : Bool) → is_eligible tasks f ≡ b → e.v ≤ℤ time
picked_by tasks p e owed first u f found time within there due true is =
    within (le_then e.d f.d time (no_later p u e f (first u f (record { here = found; owed = is }))) due)
picked_by tasks p e owed first u f found time within there due false is =
    le_then e.v f.v time (not_past_one e.v f.v (total_moment tasks) (total_weight tasks) owed is) there

-- ---- the sums after a turn
grown_moment : (a b : ℤ) (i w x : ℕ) → b ≡ a +ℤ pos i → x ≡ w → b *ℤ pos x ≡ (a *ℤ pos w) +ℤ pos (i * w)
grown_moment a b i w x h k =
    ap (λ (n : ℕ). b *ℤ pos n) k ∙ ap (λ (z : ℤ). z *ℤ pos w) h ∙ sum_scaled a (pos i) w

same_moment : (A B S T a b : ℤ) (i : ℕ) → A ≡ S → B ≡ T → A +ℤ a ≡ B +ℤ b → b ≡ a +ℤ pos i → S ≡ T +ℤ pos i
same_moment A B S T a b i h k l e = omega (arith, ints, h, k, l, e)

-- ---- no task is ahead
products : (a w i m : ℕ) → a * (w + m) + w * (a + i) ≤ a * w + (w + m) * (a + i)
products a w i m = omega arith

pub crossed : (a c w W : ℕ) → a ≤ c → w ≤ W → a * W + w * c ≤ a * w + W * c
crossed a c w W h l =
    let all : w + (W - w) ≡ W = omega arith in
    let whole : a + (c - a) ≡ c = omega arith in
    subst (λ (x : ℕ). a * x + w * c ≤ a * w + x * c) all
    (subst (λ (y : ℕ). a * (w + (W - w)) + w * y ≤ a * w + (w + (W - w)) * y) whole (products a w (c - a) (W - w)))

runner_ahead : (v u S T : ℤ) (i c w W : ℕ) → (v *ℤ pos W) ≤ℤ S → u ≡ v +ℤ pos i → T ≡ S +ℤ pos (i * w) → i ≤ c → w ≤ W
    → ((u *ℤ pos W) +ℤ pos (w * c)) ≤ℤ (T +ℤ pos (W * c))
runner_ahead v u S T i c w W owed grown more h l =
    let runtime : u *ℤ pos W ≡ (v *ℤ pos W) +ℤ pos (i * W) = ap (λ (z : ℤ). z *ℤ pos W) grown ∙ sum_scaled v (pos i) W in
    omega (arith, ints, owed, more, runtime, crossed i c w W h l)

other_ahead : (a S T : ℤ) (i x y : ℕ) → T ≡ S +ℤ pos i → (a +ℤ pos x) ≤ℤ (S +ℤ pos y) → (a +ℤ pos x) ≤ℤ (T +ℤ pos y)
other_ahead a S T i x y h k = omega (arith, ints, h, k)

eligible : (v S : ℤ) (W : ℕ) → int_le (v *ℤ pos W) S ≡ true → (v *ℤ pos W) ≤ℤ S
eligible v S W h = omega (arith, ints, h)

pub little_charge : (i w m ns : ℕ) → 15 ≤ w → i * w ≤ 1024 * m → m ≤ ns → i ≤ charge_of ns w
unfolding charge_of
little_charge i w m ns some h l = le-div i (ns * 1024) w (omega arith) (omega arith)

runner_past : (v u time : ℤ) (i c : ℕ) → v ≤ℤ time → u ≡ v +ℤ pos i → i ≤ c → u ≤ℤ (time +ℤ pos c)
runner_past v u time i c h grown l = omega (arith, ints, h, grown, l)

module _ (r : Rule) (m : ℕ) (tasks : Tasks) (p : ℕ) (e f : Entry) (at : get tasks p ≡ Some e) (owed : is_eligible tasks e ≡ true)
    (first : (u : ℕ) (h : Entry) → Eligible tasks u h → IsNoLater p e u h) (g : Grown e m f) (brief : m ≤ r.ns) (w : IsWithin r tasks) where
  same_share : weight_of f.nice ≡ weight_of e.nice
  same_share = ap weight_of g.same_nice

  weight_after : total_weight (insert tasks p f) ≡ total_weight tasks
  weight_after =
      same_weight (total_weight (insert tasks p f)) (total_weight tasks) (weight_of e.nice) (weight_of f.nice) (sum_over weight (insert tasks p f)) (sum_over weight tasks)
      (weights (insert tasks p f)) (weights tasks) (sum_insert weight tasks p e f at) same_share

  moment_of_runner : moment f ≡ moment e +ℤ pos (g.by * weight_of e.nice)
  moment_of_runner = grown_moment e.v f.v g.by (weight_of e.nice) (weight_of f.nice) g.grown same_share

  pub moment_after : total_moment (insert tasks p f) ≡ total_moment tasks +ℤ pos (g.by * weight_of e.nice)
  moment_after =
      same_moment (sum_over moment (insert tasks p f)) (sum_over moment tasks) (total_moment (insert tasks p f)) (total_moment tasks) (moment e) (moment f) (g.by * weight_of e.nice)
      (moments (insert tasks p f)) (moments tasks) (sum_insert moment tasks p e f at) moment_of_runner

  little : g.by ≤ charge_of r.ns (weight_of e.nice)
  little = little_charge g.by (weight_of e.nice) m r.ns (weight_of-least e.nice) g.little brief

  within_after : (time : ℤ) → r.front ≤ℤ time → (u : ℕ) (h : Entry) → get (insert tasks p f) u ≡ Some h → h.d ≤ℤ time → h.v ≤ℤ time
  within_after time later = found_after (λ h. h.d ≤ℤ time → h.v ≤ℤ time) tasks p f (g.within time (w.within time later p e at)) (w.within time later)

  ahead_of : (W : ℕ) (S : ℤ) → W ≡ total_weight tasks → S ≡ total_moment tasks +ℤ pos (g.by * weight_of e.nice)
      → (u : ℕ) (h : Entry) → get (insert tasks p f) u ≡ Some h → r.Guard h → IsLittleAhead r.ns W S h
  ahead_of W S weighs moves =
      subst (λ (n : ℕ). (u : ℕ) (h : Entry) → get (insert tasks p f) u ≡ Some h → r.Guard h → IsLittleAhead r.ns n S h) (sym weighs)
      (found_after (λ h. r.Guard h → IsLittleAhead r.ns (total_weight tasks) S h) tasks p f
      (λ so. subst (λ (z : ℕ). ((f.v *ℤ pos (total_weight tasks)) +ℤ pos (z * charge_of r.ns z)) ≤ℤ (S +ℤ pos (total_weight tasks * charge_of r.ns z))) (sym same_share)
      (runner_ahead e.v f.v (total_moment tasks) S g.by (charge_of r.ns (weight_of e.nice)) (weight_of e.nice) (total_weight tasks)
      (eligible e.v (total_moment tasks) (total_weight tasks) owed) g.grown moves little (no_heavier tasks p e at)))
      (λ u h here so. other_ahead (h.v *ℤ pos (total_weight tasks)) (total_moment tasks) S (g.by * weight_of e.nice)
      (weight_of h.nice * charge_of r.ns (weight_of h.nice)) (total_weight tasks * charge_of r.ns (weight_of h.nice)) moves (w.ahead u h here so)))

  -- by a time that some task was due by before the turn
  past_by : (time : ℤ) → r.front ≤ℤ time → (u : ℕ) (h : Entry) → get tasks u ≡ Some h → r.Counts u → h.d ≤ℤ time → NoneIsPastBy r.allowed (insert tasks p f) time
  past_by time later u h found counts due =
      found_at_after (λ y x. x.v ≤ℤ (time +ℤ pos (r.allowed y x.nice))) tasks p f
      (subst (λ (z : ℤ). f.v ≤ℤ (time +ℤ pos (r.allowed p z))) (sym g.same_nice)
      (runner_past e.v f.v time g.by (r.allowed p e.nice)
      (picked_by tasks p e owed first u h found time (w.within time later p e at) (w.within time later u h found due) due (is_eligible tasks h) refl) g.grown
      (no_more g.by (charge_of r.ns (weight_of e.nice)) (r.allowed p e.nice) little (r.enough p e.nice))))
      (w.past time later u h found counts due)

  past_after : (time : ℤ) → r.front ≤ℤ time → (u : ℕ) (h : Entry) → get (insert tasks p f) u ≡ Some h → r.Counts u → h.d ≤ℤ time
      → NoneIsPastBy r.allowed (insert tasks p f) time
  past_after time later =
      found_at_after (λ y x. r.Counts y → x.d ≤ℤ time → NoneIsPastBy r.allowed (insert tasks p f) time) tasks p f
      (λ counts due. past_by time later p e at counts (le_then e.d f.d time g.later due)) (past_by time later)

  pub turn_within : IsWithin r (insert tasks p f)
  turn_within = record {
    within = within_after;
    past = past_after;
    ahead = ahead_of (total_weight (insert tasks p f)) (total_moment (insert tasks p f)) weight_after moment_after;
    kept = found_at_after r.Kept tasks p f (r.keeps p e f m g (w.kept p e at)) w.kept;
  }

-- ---- a task leaves
pub found_before : (P : ℕ → Entry → Type 0) (tasks : Tasks) (t u : ℕ) (f : Entry) → ((u : ℕ) (f : Entry) → get tasks u ≡ Some f → P u f)
    → get (remove tasks t) u ≡ Some f → P u f
found_before P tasks t u f h found =
    by (eq_by_cmp nat_cmp u t) (sym (get-remove nat_cmp_total tasks t u) ∙ found)
  where
    by : (b : Bool) → cond b None (get tasks u) ≡ Some f → P u f
    by true is = cc
    by false is = h u f is

-- where nothing is asked of who is ahead, since the mean can fall
pub leaving_within : (r : Rule) (tasks : Tasks) (t : ℕ) → ((e : Entry) → r.Guard e → ⊥) → IsWithin r tasks → IsWithin r (remove tasks t)
leaving_within r tasks t nobody w = record {
  within = λ time later u f. found_before (λ y x. x.d ≤ℤ time → x.v ≤ℤ time) tasks t u f (w.within time later);
  past = λ time later u f found counts due.
      let none : NoneIsPastBy r.allowed tasks time =
      found_before (λ y x. r.Counts y → x.d ≤ℤ time → NoneIsPastBy r.allowed tasks time) tasks t u f (w.past time later) found counts due in
      λ y h there. found_before (λ z x. x.v ≤ℤ (time +ℤ pos (r.allowed z x.nice))) tasks t y h none there;
  ahead = λ u f found so. absurd (nobody f so);
  kept = λ u f. found_before r.Kept tasks t u f w.kept;
}
