-- What is asked of tasks from a front on is asked of the lowered tasks from a front that is lower by as much.
use Rattle.std.proofs.Common.{◌≡◌, ℕ, ◌*◌, Bool, true, false, cond, Option, Some, None, refl, sym, ◌∙◌, subst, arith}
use Rattle.std.specs.Prelude.{ℤ, pos, ◌+ℤ◌, ◌-ℤ◌, ◌*ℤ◌, ◌≤ℤ◌}
use Rattle.std.specs.{Option.option_map, FinMap.get}
use Rattle.std.proofs.lemmas.Int.{ints}
use Rattle.eevdf_weight.specs.{Weight.weight_of, Charge.charge_of}
use Rattle.eevdf_queue.specs.{declared.entry.Entry.Entry, State.State, Moves.request_of, Sums.virtual_time}
use Rattle.eevdf_queue.specs.{Sums.Tasks, Sums.total_weight, Sums.total_moment}
use Rattle.eevdf_queue.specs.Rebase.{lowered_entry, lowered_tasks, can_rebase, rebased, rebase}
use Rattle.eevdf_queue.proofs.{Scaled.difference_scaled, LoweredMaps.get-lowered, LoweredMaps.weight-lowered, LoweredMaps.moment-lowered}
use Rattle.eevdf_fairness.proofs.LoweredAgain.{tasks_same}
use Rattle.eevdf_fairness.proofs.Rules.{Rule, IsWithin, IsLittleAhead, NoneIsPastBy, Keeps, After, Nothing, Short, rule_of}

-- ---- times that are lower
up_again : (d time by : ℤ) → (d -ℤ by) ≤ℤ time → d ≤ℤ (time +ℤ by)
up_again d time by h = omega (arith, ints, h)

down_again : (v time by : ℤ) → v ≤ℤ (time +ℤ by) → (v -ℤ by) ≤ℤ time
down_again v time by h = omega (arith, ints, h)

past_down : (v time by : ℤ) (c : ℕ) → v ≤ℤ ((time +ℤ by) +ℤ pos c) → (v -ℤ by) ≤ℤ (time +ℤ pos c)
past_down v time by c h = omega (arith, ints, h)

pub front_down : (front d by : ℤ) → front ≤ℤ d → (front -ℤ by) ≤ℤ (d -ℤ by)
front_down front d by h = omega (arith, ints, h)

pub short_down : (d v by : ℤ) (c : ℕ) → d ≤ℤ (v +ℤ pos c) → (d -ℤ by) ≤ℤ ((v -ℤ by) +ℤ pos c)
short_down d v by c h = omega (arith, ints, h)

ahead_down : (v S T by : ℤ) (W x y : ℕ) → T ≡ S -ℤ (by *ℤ pos W) → ((v *ℤ pos W) +ℤ pos x) ≤ℤ (S +ℤ pos y) → (((v -ℤ by) *ℤ pos W) +ℤ pos x) ≤ℤ (T +ℤ pos y)
ahead_down v S T by W x y e h = omega (arith, ints, h, e, difference_scaled v by W)

-- ---- entries that are lower
pub found_lower : (P : Entry → Type 0) (by : ℤ) (o : Option Entry) (f : Entry) → option_map (lowered_entry by) o ≡ Some f → ((e : Entry) → o ≡ Some e → P (lowered_entry by e)) → P f
found_lower P by None f h k = cc
found_lower P by (Some e) f h k = let same : lowered_entry by e ≡ f = cc in subst P same (k e refl)

-- what holds of each task lowered holds of each lowered task
pub found_lowered : (P : ℕ → Entry → Type 0) (by : ℤ) (tasks : Tasks) → ((t : ℕ) (e : Entry) → get tasks t ≡ Some e → P t (lowered_entry by e))
    → (t : ℕ) (f : Entry) → get (lowered_tasks by tasks) t ≡ Some f → P t f
found_lowered P by tasks h t f here = found_lower (P t) by (get tasks t) f (sym (get-lowered by tasks t) ∙ here) (h t)

-- ---- rules
-- a rule `s` asks of lowered tasks what `r` asks of the tasks
pub record IsLowerRule (by : ℤ) (r s : Rule) : Type 0 where
  pub ns : s.ns ≡ r.ns
  pub front : s.front ≡ r.front -ℤ by
  pub allowed : (u : ℕ) (nice : ℤ) → s.allowed u nice ≡ r.allowed u nice
  pub counts : (t : ℕ) → s.Counts t → r.Counts t
  pub guard : (e : Entry) → s.Guard (lowered_entry by e) → r.Guard e
  pub kept : (t : ℕ) (e : Entry) → r.Kept t e → s.Kept t (lowered_entry by e)

module _ (by : ℤ) (r s : Rule) (lower : IsLowerRule by r s) (tasks : Tasks) (w : IsWithin r tasks) where
  later_front : (time : ℤ) → s.front ≤ℤ time → r.front ≤ℤ (time +ℤ by)
  later_front time later = up_again r.front time by (subst (λ (z : ℤ). z ≤ℤ time) lower.front later)

  past_lowered : (time : ℤ) → s.front ≤ℤ time → (t : ℕ) (e : Entry) → get tasks t ≡ Some e → s.Counts t → (e.d -ℤ by) ≤ℤ time
      → NoneIsPastBy s.allowed (lowered_tasks by tasks) time
  past_lowered time later t e here counts due =
      found_lowered (λ u x. x.v ≤ℤ (time +ℤ pos (s.allowed u x.nice))) by tasks (λ u g there.
      past_down g.v time by (s.allowed u g.nice) (subst (λ (n : ℕ). g.v ≤ℤ ((time +ℤ by) +ℤ pos n)) (sym (lower.allowed u g.nice))
      (w.past (time +ℤ by) (later_front time later) t e here (lower.counts t counts) (up_again e.d time by due) u g there)))

  ahead_lowered : (t : ℕ) (e : Entry) → get tasks t ≡ Some e → s.Guard (lowered_entry by e)
      → IsLittleAhead s.ns (total_weight (lowered_tasks by tasks)) (total_moment (lowered_tasks by tasks)) (lowered_entry by e)
  ahead_lowered t e here so =
      subst (λ (n : ℕ). IsLittleAhead s.ns n (total_moment (lowered_tasks by tasks)) (lowered_entry by e)) (sym (weight-lowered by tasks))
      (subst (λ (n : ℕ). IsLittleAhead n (total_weight tasks) (total_moment (lowered_tasks by tasks)) (lowered_entry by e)) (sym lower.ns)
      (ahead_down e.v (total_moment tasks) (total_moment (lowered_tasks by tasks)) by (total_weight tasks)
      (weight_of e.nice * charge_of r.ns (weight_of e.nice)) (total_weight tasks * charge_of r.ns (weight_of e.nice)) (moment-lowered by tasks)
      (w.ahead t e here (lower.guard e so))))

  pub lowered_within : IsWithin s (lowered_tasks by tasks)
  lowered_within = record {
    within = λ time later. found_lowered (λ t x. x.d ≤ℤ time → x.v ≤ℤ time) by tasks
        (λ t e here due. down_again e.v time by (w.within (time +ℤ by) (later_front time later) t e here (up_again e.d time by due)));
    past = λ time later. found_lowered (λ t x. s.Counts t → x.d ≤ℤ time → NoneIsPastBy s.allowed (lowered_tasks by tasks) time) by tasks (past_lowered time later);
    ahead = found_lowered (λ t x. s.Guard x → IsLittleAhead s.ns (total_weight (lowered_tasks by tasks)) (total_moment (lowered_tasks by tasks)) x) by tasks ahead_lowered;
    kept = found_lowered s.Kept by tasks (λ t e here. lower.kept t e (w.kept t e here));
  }

-- what stays true of a task that is lowered
abbrev pub Falls : (ℕ → Entry → Type 0) → Type 0
Falls Kept = (by : ℤ) (t : ℕ) (e : Entry) → Kept t e → Kept t (lowered_entry by e)

pub falls_nothing : Falls Nothing
falls_nothing by t e k = k

pub falls_short : Falls Short
falls_short by t e k = short_down e.d e.v by (request_of e.nice e.slice) k

pub falls_after : (front : ℤ) (Kept : ℕ → Entry → Type 0) → Falls Kept → (by : ℤ) (t : ℕ) (e : Entry) → After front Kept t e → After (front -ℤ by) Kept t (lowered_entry by e)
falls_after front Kept falls by t e k = (front_down front e.d by k.0, falls by t e k.1)

-- the rules where all tasks count
pub lower_rule_of : (ns : ℕ) (front by : ℤ) (Guard Then : Entry → Type 0) (Kept Still : ℕ → Entry → Type 0) (keeps : Keeps Kept) (again : Keeps Still)
    → ((e : Entry) → Then (lowered_entry by e) → Guard e) → ((t : ℕ) (e : Entry) → Kept t e → Still t (lowered_entry by e))
    → IsLowerRule by (rule_of ns front Guard Kept keeps) (rule_of ns (front -ℤ by) Then Still again)
lower_rule_of ns front by Guard Then Kept Still keeps again guard kept = record {
  ns = refl;
  front = refl;
  allowed = λ u nice. refl;
  counts = λ t counts. counts;
  guard = guard;
  kept = kept;
}

-- ---- a rebase
pub rebase_runnable : (q : State) → (rebase q).1.runnable ≡ lowered_tasks ((rebase q).0) q.runnable
rebase_runnable q = by_can (can_rebase q)
  where
    by_can : (b : Bool) → (cond {A = ℤ × State} b (virtual_time q, rebased q) (pos 0, q)).1.runnable
        ≡ lowered_tasks ((cond {A = ℤ × State} b (virtual_time q, rebased q) (pos 0, q)).0) q.runnable
    by_can true = refl
    by_can false = sym (tasks_same q.runnable)

pub rebase_running : (q : State) → (rebase q).1.running ≡ q.running
rebase_running q = by_can (can_rebase q)
  where
    by_can : (b : Bool) → (cond {A = ℤ × State} b (virtual_time q, rebased q) (pos 0, q)).1.running ≡ q.running
    by_can true = refl
    by_can false = refl

pub rebase_within : (q : State) (r s : Rule) → IsLowerRule ((rebase q).0) r s → IsWithin r q.runnable → IsWithin s (rebase q).1.runnable
rebase_within q r s lower w = subst (IsWithin s) (sym (rebase_runnable q)) (lowered_within ((rebase q).0) r s lower q.runnable w)
