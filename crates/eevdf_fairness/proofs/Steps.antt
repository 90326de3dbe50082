-- Turns, leavings and rebases, one after the other, keep what is asked of the tasks.
use Rattle.std.proofs.Common.{◌≡◌, ℕ, ◌≤◌, List, [], ◌∷◌, Option, Some, None, refl, sym, ap, ◌∙◌, subst, arith}
use Rattle.std.proofs.lemmas.Int.{ints}
use Rattle.std.specs.Prelude.{ℤ, pos, ◌+ℤ◌, ◌-ℤ◌, is_some}
use Rattle.std.specs.{Ordering.nat_cmp, FinMap.get, FinMap.empty, FinMap.get-empty}
use Rattle.eevdf_queue.specs.{declared.entry.Entry.Entry, State.State, Laws.PickIsFirst, Laws.PickOfNobody, Leaving.leave, Leaving.without_entry, Rebase.rebase}
use Rattle.eevdf_queue.specs.{Sums.Tasks, Pick.IsPick, Pick.pick_of, Pick.picked_by, Tick.tick, Tick.tick_running, Tick.tick_entry}
use Rattle.eevdf_fairness.specs.{Turns.Turn, Turns.turn_length, Turns.AreNoLonger, Turns.after_ticks, Turns.after_turn, Turns.after_turns}
use Rattle.eevdf_fairness.specs.Leavings.{Step, Takes, Leaves, Rebases, after_steps, lowered_by, HaveNoLongerTurns}
use Rattle.eevdf_fairness.proofs.{Growing.HasRun, Growing.has_run, Turning.turn_within, Turning.leaving_within}
use Rattle.eevdf_fairness.proofs.Rules.{Rule, IsWithin, Keeps, After, Nobody, Nothing, rule_of, keeps_after, keeps_nothing}
use Rattle.eevdf_fairness.proofs.Falling.{IsLowerRule, Falls, falls_nothing, falls_after, lower_rule_of, rebase_within}

-- ---- ticks of nobody
idle_by : (q : State) (ns : ℕ) (o : Option ℕ) → q.runnable ≡ empty → ((tick_running q o ns).1).runnable ≡ empty
idle_by q ns None h = h
idle_by q ns (Some t) h =
    let none : get q.runnable t ≡ None = ap (λ (m : Tasks). get m t) h ∙ get-empty nat_cmp t in
    ap (λ (o : Option Entry). ((tick_entry q t o ns).1).runnable) none ∙ h

pub idle : (q : State) (turn : Turn) → q.runnable ≡ empty → (after_ticks q turn).runnable ≡ empty
idle q [] h = h
idle q (ns ∷ turn) h = idle ((tick q ns).1) turn (idle_by q ns q.running h)

-- ---- one turn and all turns
module _ (first : PickIsFirst) (nobody : PickOfNobody) (r : Rule) where
  pub turn_by : (q : State) (turn : Turn) (o : Option ℕ) → pick_of q.runnable ≡ o → turn_length turn ≤ r.ns → IsWithin r q.runnable
      → IsWithin r (after_ticks (picked_by q o) turn).runnable
  turn_by q turn None is short w =
      let none : q.runnable ≡ empty = (nobody q.runnable).0 (ap (λ (o : Option ℕ). is_some o) is) in
      subst (IsWithin r) (none ∙ sym (idle q turn none)) w
  turn_by q turn (Some p) is short w =
      let pick : IsPick q.runnable p = first q.runnable p is in
      let run : HasRun (record q { running = Some p }) p pick.entry (turn_length turn) (after_ticks (record q { running = Some p }) turn) =
      has_run (record q { running = Some p }) p pick.entry turn refl pick.eligible.here in
      subst (IsWithin r) (sym run.runnable)
      (turn_within r (turn_length turn) q.runnable p pick.entry run.entry pick.eligible.here pick.eligible.owed pick.first run.grown short w)

  pub turns_within : (q : State) (turns : List Turn) → AreNoLonger r.ns turns → IsWithin r q.runnable → IsWithin r (after_turns q turns).runnable
  turns_within q [] h w = w
  turns_within q (turn ∷ turns) h w =
      turns_within (after_turn q turn) turns h.1 (turn_by q turn (pick_of q.runnable) refl h.0 w)

-- ---- while tasks leave
pub leave_by : (r : Rule) (q : State) (task : ℕ) (o : Option Entry) → ((e : Entry) → r.Guard e → ⊥) → IsWithin r q.runnable
    → IsWithin r (without_entry q task o).runnable
leave_by r q task None guarded w = w
leave_by r q task (Some e) guarded w = leaving_within r q.runnable task guarded w

-- a rule for each front, by which a task may be ahead, and which holds of lowered tasks from a lower front on
pub record IsRuleOfSteps (ns : ℕ) (by_front : ℤ → Rule) : Type 0 where
  pub same_ns : (front : ℤ) → (by_front front).ns ≡ ns
  pub guarded : (front : ℤ) (e : Entry) → (by_front front).Guard e → ⊥
  pub falls : (front by : ℤ) → IsLowerRule by (by_front front) (by_front (front -ℤ by))

pub lower_again : (front a b : ℤ) → (front -ℤ a) -ℤ b ≡ front -ℤ (a +ℤ b)
lower_again front a b = omega (arith, ints)

pub no_lower : (front : ℤ) → front ≡ front -ℤ pos 0
no_lower front = omega (arith, ints)

module _ (first : PickIsFirst) (nobody : PickOfNobody) (ns : ℕ) (by_front : ℤ → Rule) (rule : IsRuleOfSteps ns by_front) where
  pub steps_within : (q : State) (front : ℤ) (steps : List Step) → HaveNoLongerTurns ns steps → IsWithin (by_front front) q.runnable
      → IsWithin (by_front (front -ℤ lowered_by q steps)) (after_steps q steps).runnable
  steps_within q front [] h w = subst (λ (z : ℤ). IsWithin (by_front z) q.runnable) (no_lower front) w
  steps_within q front (Takes turn ∷ steps) h w =
      steps_within (after_turn q turn) front steps h.1
      (turn_by first nobody (by_front front) q turn (pick_of q.runnable) refl (subst (λ (n : ℕ). turn_length turn ≤ n) (sym (rule.same_ns front)) h.0) w)
  steps_within q front (Leaves task ∷ steps) h w =
      steps_within (leave q task) front steps h (leave_by (by_front front) q task (get q.runnable task) (rule.guarded front) w)
  steps_within q front (Rebases ∷ steps) h w =
      subst (λ (z : ℤ). IsWithin (by_front z) (after_steps (rebase q).1 steps).runnable) (lower_again front ((rebase q).0) (lowered_by (rebase q).1 steps))
      (steps_within (rebase q).1 (front -ℤ (rebase q).0) steps h
      (rebase_within q (by_front front) (by_front (front -ℤ (rebase q).0)) (rule.falls front ((rebase q).0)) w))

-- the rules that are asked while tasks leave
pub nothing_steps : (ns : ℕ) → IsRuleOfSteps ns (λ front. rule_of ns front Nobody Nothing keeps_nothing)
nothing_steps ns = record {
  same_ns = λ front. refl;
  guarded = λ front e so. so;
  falls = λ front by. lower_rule_of ns front by Nobody Nobody Nothing Nothing keeps_nothing keeps_nothing (λ e so. so) (falls_nothing by);
}

pub settled_steps : (ns : ℕ) (Kept : ℕ → Entry → Type 0) (keeps : Keeps Kept) → Falls Kept
    → IsRuleOfSteps ns (λ front. rule_of ns front Nobody (After front Kept) (keeps_after front Kept keeps))
settled_steps ns Kept keeps falls = record {
  same_ns = λ front. refl;
  guarded = λ front e so. so;
  falls = λ front by. lower_rule_of ns front by Nobody Nobody (After front Kept) (After (front -ℤ by) Kept) (keeps_after front Kept keeps)
      (keeps_after (front -ℤ by) Kept keeps) (λ e so. so) (falls_after front Kept falls by);
}
