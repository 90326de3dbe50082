-- What joins leave of the bound of a late request.
use Rattle.std.proofs.Common.{◌≡◌, ℕ, suc, zero, ◌+◌, ◌-◌, ◌*◌, ◌≤◌, Bool, true, false, cond, List, [], ◌∷◌, Option, Some, None, refl, sym, ap, ◌∙◌, subst, arith, leb-true}
use Rattle.std.specs.Prelude.{ℤ, pos, ◌+ℤ◌, ◌-ℤ◌, ◌*ℤ◌, ◌≤ℤ◌, nat_le}
use Rattle.std.specs.{Ordering.nat_cmp, Ordering.eq_by_cmp, Cmp.nat_cmp_total}
use Rattle.std.specs.FinMap.{get, insert, remove, len, get-insert, get-remove}
use Rattle.std.proofs.{lemmas.Int.ints, lemmas.Bool.Decides.nat_tests}
use Rattle.eevdf_weight.specs.{Weight.weight_of, Charge.charge_of}
use Rattle.eevdf_queue.specs.{declared.entry.Entry.Entry, Sums.Tasks, Sums.total_weight, Sums.total_moment, Rebase.lowered_entry}
use Rattle.eevdf_queue.proofs.Scaled.{scaled_sum, sum_scaled, scaled_le}
use Rattle.eevdf_queue.proofs.{Foremost.itself, Sound.gone}
use Rattle.eevdf_fairness.specs.Fair.{turns_of_others}
use Rattle.eevdf_fairness.proofs.{Inequalities.le_then, Growing.rounded_down, Growing.not_itself, Growing.found_at_after, Growing.found_after, Rooms.has_room}
use Rattle.eevdf_fairness.proofs.Removing.{weight_removed, moment_removed, one_fewer, some_there}
use Rattle.eevdf_fairness.proofs.Rules.{Rule, IsWithin, Keeps, NoneIsPastBy, rule_of, After, keeps_after, Nobody}
use Rattle.eevdf_fairness.proofs.{Turning.found_before, Steps.IsRuleOfSteps, Bounds.itself as no_later, Bounds.rest_by, Bounds.late_by}
use Rattle.eevdf_fairness.proofs.Falling.{Falls, front_down}

-- ---- who has joined
-- a task that has, with its nice level, and by how much it may have joined past a deadline
pub record Joiner : Type 0 where
  pub task : ℕ
  pub nice : ℤ
  pub reach : ℕ

-- the last ones come first
abbrev pub reach_of : List Joiner → ℕ → ℕ
reach_of [] u = 0
reach_of (j ∷ js) u = cond (eq_by_cmp nat_cmp u j.task) j.reach (reach_of js u)

abbrev pub IsOther : List Joiner → ℕ → Type 0
IsOther [] t = Unit {0}
IsOther (j ∷ js) t = (t ≡ j.task → ⊥) × IsOther js t

abbrev pub HasLevel : List Joiner → ℕ → ℤ → Type 0
HasLevel [] t nice = Unit {0}
HasLevel (j ∷ js) t nice = (t ≡ j.task → nice ≡ j.nice) × ((t ≡ j.task → ⊥) → HasLevel js t nice)

-- how late all of them can make the others, beyond turns
abbrev pub beyond_turns : ℕ → List Joiner → ℕ
beyond_turns ns [] = 0
beyond_turns ns (j ∷ js) = beyond_turns ns js + (weight_of j.nice * j.reach - 1024 * ns)

-- ---- what is asked of the tasks from then on
pub no_less : (c x : ℕ) → c ≤ c + x
no_less c x = omega arith

-- besides, the others' deadlines don't lie before the front, and who has joined keeps its nice level
abbrev pub Stays : ℤ → (ℕ → Entry → Type 0) → List Joiner → ℕ → Entry → Type 0
Stays front Kept js t e = (IsOther js t → (front ≤ℤ e.d) × Kept t e) × HasLevel js t e.nice

pub keeps_stays : (front : ℤ) (Kept : ℕ → Entry → Type 0) (keeps : Keeps Kept) (js : List Joiner) → Keeps (Stays front Kept js)
keeps_stays front Kept keeps js t e f m g k =
    ((λ other. (le_then front e.d f.d (k.0 other).0 g.later, keeps t e f m g (k.0 other).1)), subst (HasLevel js t) (sym g.same_nice) k.1)

abbrev pub joined : (ns : ℕ) → ℤ → (Kept : ℕ → Entry → Type 0) → Keeps Kept → List Joiner → Rule
joined ns front Kept keeps js = record {
  ns = ns;
  front = front;
  allowed = λ u nice. charge_of ns (weight_of nice) + (reach_of js u - charge_of ns (weight_of nice));
  enough = λ u nice. no_less (charge_of ns (weight_of nice)) (reach_of js u - charge_of ns (weight_of nice));
  Counts = IsOther js;
  Guard = Nobody;
  Kept = Stays front Kept js;
  keeps = keeps_stays front Kept keeps js;
}

due_later : (v d time : ℤ) (c : ℕ) → d ≡ v +ℤ pos c → d ≤ℤ time → v ≤ℤ time
due_later v d time c h k = omega (arith, ints, h, k)

by_reach : (v d time : ℤ) (c most x : ℕ) (b : Bool) → b ≡ true → v ≤ℤ (d +ℤ pos most) → d ≤ℤ time → v ≤ℤ (time +ℤ pos (c + (cond b most x - c)))
by_reach v d time c most x true is h k = omega (arith, ints, h, k)
by_reach v d time c most x false is h k = cc

by_turn : (v time : ℤ) (c x : ℕ) → v ≤ℤ (time +ℤ pos c) → v ≤ℤ (time +ℤ pos (c + x))
by_turn v time c x h = omega (arith, ints, h)

by_other : (v time : ℤ) (c most x : ℕ) (b : Bool) → b ≡ false → v ≤ℤ (time +ℤ pos (c + (x - c))) → v ≤ℤ (time +ℤ pos (c + (cond b most x - c)))
by_other v time c most x true is h = cc
by_other v time c most x false is h = h

other_again : (v time : ℤ) (c most x : ℕ) (b : Bool) → b ≡ false → v ≤ℤ (time +ℤ pos (c + (cond b most x - c))) → v ≤ℤ (time +ℤ pos (c + (x - c)))
other_again v time c most x true is h = cc
other_again v time c most x false is h = h

found_other : (tasks : Tasks) (task t : ℕ) (a e : Entry) → (t ≡ task → ⊥) → get (insert tasks task a) t ≡ Some e → get tasks t ≡ Some e
found_other tasks task t a e other found =
    ap (λ (b : Bool). cond b (Some a) (get tasks t)) (sym (not_itself t task (eq_by_cmp nat_cmp t task) other refl))
    ∙ sym (get-insert nat_cmp_total tasks task a t) ∙ found

no_entry : (tasks : Tasks) (task u : ℕ) (f : Entry) → get tasks task ≡ None → u ≡ task → get tasks u ≡ Some f → ⊥
no_entry tasks task u f none same found =
    let nothing : get tasks u ≡ None = ap (get tasks) same ∙ none in
    cc

module _ (ns : ℕ) (front : ℤ) (Kept : ℕ → Entry → Type 0) (keeps : Keeps Kept) where
  -- before the first join
  pub nobody_joined : (tasks : Tasks) → IsWithin (rule_of ns front Nobody (After front Kept) (keeps_after front Kept keeps)) tasks
      → IsWithin (joined ns front Kept keeps []) tasks
  nobody_joined tasks w = record {
    within = w.within;
    past = λ time later t e here counts due u f found.
        by_turn f.v time (charge_of ns (weight_of f.nice)) (0 - charge_of ns (weight_of f.nice)) (w.past time later t e here tt due u f found);
    ahead = w.ahead;
    kept = λ t e here. ((λ other. w.kept t e here), tt);
  }

  -- one joins more
  module _ (js : List Joiner) (task most : ℕ) (tasks : Tasks) (a : Entry) (w : IsWithin (joined ns front Kept keeps js) tasks) (c : ℕ) (request : a.d ≡ a.v +ℤ pos c)
      (absent : get tasks task ≡ None) (near : (t : ℕ) (e : Entry) → IsOther js t → get tasks t ≡ Some e → a.v ≤ℤ (e.d +ℤ pos most)) where
    abbrev more : List Joiner
    more = record { task = task; nice = a.nice; reach = most } ∷ js

    past_joined : (time : ℤ) → front ≤ℤ time → (t : ℕ) (e : Entry) → get (insert tasks task a) t ≡ Some e → IsOther more t → e.d ≤ℤ time
        → NoneIsPastBy (joined ns front Kept keeps more).allowed (insert tasks task a) time
    past_joined time later t e found counts due =
        let there : get tasks t ≡ Some e = found_other tasks task t a e counts.0 found in
        found_at_after (λ u f. f.v ≤ℤ (time +ℤ pos (charge_of ns (weight_of f.nice) + (reach_of more u - charge_of ns (weight_of f.nice))))) tasks task a
        (by_reach a.v e.d time (charge_of ns (weight_of a.nice)) most (reach_of js task) (eq_by_cmp nat_cmp task task) (itself task) (near t e counts.1 there) due)
        (λ u f at. by_other f.v time (charge_of ns (weight_of f.nice)) most (reach_of js u) (eq_by_cmp nat_cmp u task)
        (not_itself u task (eq_by_cmp nat_cmp u task) (λ same. no_entry tasks task u f absent same at) refl) (w.past time later t e there counts.1 due u f at))

    stays_before : (t : ℕ) (e : Entry) → get tasks t ≡ Some e → Stays front Kept more t e
    stays_before t e here =
        let k = w.kept t e here in
        ((λ other. k.0 other.1), ((λ same. absurd (no_entry tasks task t e absent same here)), (λ other. k.1)))

    pub joined_within : IsWithin (joined ns front Kept keeps more) (insert tasks task a)
    joined_within = record {
      within = λ time later. found_after (λ h. h.d ≤ℤ time → h.v ≤ℤ time) tasks task a (due_later a.v a.d time c request) (w.within time later);
      past = past_joined;
      ahead = λ t e found so. absurd so;
      kept = found_at_after (Stays front Kept more) tasks task a ((λ other. absurd (other.0 refl)), ((λ same. refl), (λ other. absurd (other refl)))) stays_before;
    }

-- ---- the bound, where a task that joined is still there and where it has left
others_alone : (v time S : ℤ) (w W n k : ℕ) → (pos k -ℤ ((v *ℤ pos w) -ℤ (time *ℤ pos w))) ≤ℤ (pos (n * k) -ℤ (S -ℤ (time *ℤ pos W))) → v ≤ℤ time
    → S ≤ℤ ((time *ℤ pos W) +ℤ pos ((n - 1) * k))
others_alone v time S w W n k room within = late_by v time S w W ((n - 1) * k) within (rest_by v time S w W n k room)

nothing_more : (S d : ℤ) (W x : ℕ) → S ≤ℤ ((d *ℤ pos W) +ℤ pos x) → S ≤ℤ ((d *ℤ pos W) +ℤ pos (x + 0))
nothing_more S d W x h = omega (arith, ints, h)

left_by : (S d : ℤ) (W x y z : ℕ) → S ≤ℤ ((d *ℤ pos W) +ℤ pos (x + y)) → S ≤ℤ ((d *ℤ pos W) +ℤ pos (x + (y + z)))
left_by S d W x y z h = omega (arith, ints, h)

fewer_turns : (m n k : ℕ) → 1 ≤ m → m ≡ n - 1 → (m - 1) * k + k ≤ (n - 1) * k
fewer_turns zero n k some is = absurd (omega (arith, some))
fewer_turns (suc m) n k some is =
    let whole : n - 1 ≡ suc m = sym is in
    let less : suc m - 1 ≡ m = omega arith in
    rw whole (rw less (omega arith))

longest : (c most w k : ℕ) → c * w ≤ k → (c + (most - c)) * w ≤ k + (w * most - k)
longest c most w k turn =
    by (nat_le most c) refl
  where
    by : (b : Bool) → nat_le most c ≡ b → (c + (most - c)) * w ≤ k + (w * most - k)
    by true is =
        let small : most ≤ c = leb-true most c is in
        let whole : c + (most - c) ≡ c = omega (arith, small) in
        rw whole (omega (arith, turn))
    by false is =
        let great : c ≤ most = grind (arith, nat_tests) in
        let whole : c + (most - c) ≡ most = omega (arith, great) in
        rw whole (omega arith)

with_it : (S R v d : ℤ) (W X w m n k c most x : ℕ) → 1 ≤ m → m ≡ n - 1 → S ≡ R +ℤ (v *ℤ pos w) → W ≡ X + w → R ≤ℤ ((d *ℤ pos X) +ℤ pos ((m - 1) * k + x))
    → v ≤ℤ (d +ℤ pos (c + (most - c))) → c * w ≤ k → S ≤ℤ ((d *ℤ pos W) +ℤ pos ((n - 1) * k + (x + (w * most - k))))
with_it S R v d W X w m n k c most x some count moment weight others near turn =
    subst (λ (y : ℕ). S ≤ℤ ((d *ℤ pos y) +ℤ pos ((n - 1) * k + (x + (w * most - k))))) (sym weight)
    (omega (
      arith,
      ints,
      moment,
      others,
      scaled_sum d X w,
      scaled_le v (d +ℤ pos (c + (most - c))) w near,
      sum_scaled d (pos (c + (most - c))) w,
      longest c most w k turn,
      fewer_turns m n k some count,
    ))

removed_other : (tasks : Tasks) (task t : ℕ) (e : Entry) → (t ≡ task → ⊥) → get tasks t ≡ Some e → get (remove tasks task) t ≡ Some e
removed_other tasks task t e other here =
    get-remove nat_cmp_total tasks task t
    ∙ ap (λ (b : Bool). cond b None (get tasks t)) (not_itself t task (eq_by_cmp nat_cmp t task) other refl) ∙ here

module _ (ns t : ℕ) (e : Entry) (due : e.v ≤ℤ e.d) where
  abbrev ArePast : List Joiner → Tasks → Type 0
  ArePast js tasks = (u : ℕ) (f : Entry) → get tasks u ≡ Some f → f.v ≤ℤ (e.d +ℤ pos (charge_of ns (weight_of f.nice) + (reach_of js u - charge_of ns (weight_of f.nice))))

  abbrev HaveLevels : List Joiner → Tasks → Type 0
  HaveLevels js tasks = (u : ℕ) (f : Entry) → get tasks u ≡ Some f → HasLevel js u f.nice

  abbrev IsLateBy : ℕ → Tasks → Type 0
  IsLateBy x tasks = total_moment tasks ≤ℤ ((e.d *ℤ pos (total_weight tasks)) +ℤ pos (turns_of_others ns tasks + x))

  no_further : (v : ℤ) (c : ℕ) → v ≤ℤ (e.d +ℤ pos (c + (0 - c))) → v ≤ℤ (e.d +ℤ pos c)
  no_further v c h = omega (arith, ints, h)

  alone : (tasks : Tasks) → get tasks t ≡ Some e → ArePast [] tasks → IsLateBy 0 tasks
  alone tasks here past =
      nothing_more (total_moment tasks) e.d (total_weight tasks) (turns_of_others ns tasks)
      (others_alone e.v e.d (total_moment tasks) (weight_of e.nice) (total_weight tasks) (len tasks) (1024 * ns)
      (has_room ns e.d tasks t e (λ u f found. no_further f.v (charge_of ns (weight_of f.nice)) (past u f found)) here) due)

  module _ (j : Joiner) (js : List Joiner) (tasks : Tasks) (here : get tasks t ≡ Some e) (other : t ≡ j.task → ⊥) (past : ArePast (j ∷ js) tasks)
      (levels : HaveLevels (j ∷ js) tasks) (again : (some : Tasks) → get some t ≡ Some e → ArePast js some → HaveLevels js some → IsLateBy (beyond_turns ns js) some) where
    past_other : (u : ℕ) (f : Entry) → (u ≡ j.task → ⊥) → get tasks u ≡ Some f
        → f.v ≤ℤ (e.d +ℤ pos (charge_of ns (weight_of f.nice) + (reach_of js u - charge_of ns (weight_of f.nice))))
    past_other u f another found =
        other_again f.v e.d (charge_of ns (weight_of f.nice)) j.reach (reach_of js u) (eq_by_cmp nat_cmp u j.task)
        (not_itself u j.task (eq_by_cmp nat_cmp u j.task) another refl) (past u f found)

    apart : (u : ℕ) (f : Entry) → get (remove tasks j.task) u ≡ Some f → u ≡ j.task → ⊥
    apart u f found same = no_entry (remove tasks j.task) j.task u f (gone tasks j.task) same found

    rest : IsLateBy (beyond_turns ns js) (remove tasks j.task)
    rest =
        again (remove tasks j.task) (removed_other tasks j.task t e other here)
        (λ u f found. found_before (λ y x. (y ≡ j.task → ⊥) → x.v ≤ℤ (e.d +ℤ pos (charge_of ns (weight_of x.nice) + (reach_of js y - charge_of ns (weight_of x.nice)))))
        tasks j.task u f (λ y x at another. past_other y x another at) found (apart u f found))
        (λ u f found. found_before (λ y x. (y ≡ j.task → ⊥) → HasLevel js y x.nice) tasks j.task u f (λ y x at another. (levels y x at).1 another) found (apart u f found))

    itself_past : (a : Entry) → get tasks j.task ≡ Some a → a.v ≤ℤ (e.d +ℤ pos (charge_of ns (weight_of a.nice) + (j.reach - charge_of ns (weight_of a.nice))))
    itself_past a there =
        subst (λ (b : Bool). a.v ≤ℤ (e.d +ℤ pos (charge_of ns (weight_of a.nice) + (cond b j.reach (reach_of js j.task) - charge_of ns (weight_of a.nice))))) (itself j.task)
        (past j.task a there)

    bound_by : (o : Option Entry) → get tasks j.task ≡ o → IsLateBy (beyond_turns ns js + (weight_of j.nice * j.reach - 1024 * ns)) tasks
    bound_by None none =
        left_by (total_moment tasks) e.d (total_weight tasks) (turns_of_others ns tasks) (beyond_turns ns js) (weight_of j.nice * j.reach - 1024 * ns)
        (again tasks here (λ u f found. past_other u f (λ same. no_entry tasks j.task u f none same found) found)
        (λ u f found. (levels u f found).1 (λ same. no_entry tasks j.task u f none same found)))
    bound_by (Some a) there =
        let level : weight_of a.nice ≡ weight_of j.nice = ap weight_of ((levels j.task a there).0 refl) in
        subst (λ (x : ℕ). IsLateBy (beyond_turns ns js + (x * j.reach - 1024 * ns)) tasks) level
        (with_it (total_moment tasks) (total_moment (remove tasks j.task)) a.v e.d (total_weight tasks) (total_weight (remove tasks j.task)) (weight_of a.nice)
        (len (remove tasks j.task)) (len tasks) (1024 * ns) (charge_of ns (weight_of a.nice)) j.reach (beyond_turns ns js)
        (some_there (remove tasks j.task) t e (removed_other tasks j.task t e other here)) (one_fewer tasks j.task a there) (moment_removed tasks j.task a there)
        (weight_removed tasks j.task a there) rest (itself_past a there) (rounded_down ns (weight_of a.nice)))

  bound : (js : List Joiner) (tasks : Tasks) → IsOther js t → get tasks t ≡ Some e → ArePast js tasks → HaveLevels js tasks → IsLateBy (beyond_turns ns js) tasks
  bound [] tasks others here past levels = alone tasks here past
  bound (j ∷ js) tasks others here past levels =
      bound_by j js tasks here others.0 past levels (λ some. bound js some others.1) (get tasks j.task) refl

-- how late a request of the others is
pub late_beyond : (ns : ℕ) (front : ℤ) (Kept : ℕ → Entry → Type 0) (keeps : Keeps Kept) (js : List Joiner) (tasks : Tasks)
    → IsWithin (joined ns front Kept keeps js) tasks → (t : ℕ) (e : Entry) → IsOther js t → get tasks t ≡ Some e
    → total_moment tasks ≤ℤ ((e.d *ℤ pos (total_weight tasks)) +ℤ pos (turns_of_others ns tasks + beyond_turns ns js))
late_beyond ns front Kept keeps js tasks w t e other here =
    let later : front ≤ℤ e.d = ((w.kept t e here).0 other).0 in
    bound ns t e (w.within e.d later t e here (no_later e.d)) js tasks other here (w.past e.d later t e here other (no_later e.d)) (λ u f found. (w.kept u f found).1)

-- ---- rebases
stays_lower : (front : ℤ) (Kept : ℕ → Entry → Type 0) (falls : Falls Kept) (js : List Joiner) (by : ℤ) (t : ℕ) (e : Entry)
    → Stays front Kept js t e → Stays (front -ℤ by) Kept js t (lowered_entry by e)
stays_lower front Kept falls js by t e k = ((λ other. (front_down front e.d by (k.0 other).0, falls by t e (k.0 other).1)), k.1)

pub joined_steps : (ns : ℕ) (Kept : ℕ → Entry → Type 0) (keeps : Keeps Kept) → Falls Kept → (js : List Joiner) → IsRuleOfSteps ns (λ front. joined ns front Kept keeps js)
joined_steps ns Kept keeps falls js = record {
  same_ns = λ front. refl;
  guarded = λ front e so. so;
  falls = λ front by. record {
    ns = refl;
    front = refl;
    allowed = λ u level. refl;
    counts = λ t counts. counts;
    guard = λ e so. so;
    kept = stays_lower front Kept falls js by;
  };
}
