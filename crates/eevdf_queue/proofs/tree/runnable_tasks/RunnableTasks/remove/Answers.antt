use Rattle.std.proofs.Common.{◌≡◌, ◌∙◌, ℕ, true, ◌≤◌, Some, ap, sym, subst, rules, arith}
use Rattle.std.specs.Prelude.{ℤ, ◌-ℤ◌}
use Rattle.std.specs.Option.{option_map}
use Rattle.std.proofs.lemmas.Int.{to_z-of_z}
use mir.Syntax.{w64}
use mir.Val.{SFits}
use Rattle.eevdf_queue.specs.{declared.entry.Entry.Entry, State.Contents, Lag.cut, Lag.limit_of, TaskLists.first_task}
use Rattle.eevdf_queue.specs.Leaving.{leaving, leaving_at}
use Rattle.eevdf_weight.specs.Limits.{is_in_range}
use Rattle.eevdf_queue.proofs.{Bounds.range_v, TreeSearch.found_number}
use Rattle.eevdf_queue.proofs.TreeMaps.{taken_stored, taken_missed, taken_seen, found_entry, forgotten_stored}
use Rattle.eevdf_queue.proofs.TreeTotals.{totals-without, totals_part}
use Rattle.eevdf_queue.specs.State.{TasksInTree}
use Rattle.eevdf_queue.proofs.tree.runnable_tasks.RunnableTasks.remove.Goals as goal

pub kept_lag-requires-clause-placed : goal.kept_lag-requires-clause-placed
kept_lag-requires-clause-placed c =
    let g = found_entry c.self.inside.tree.tasks c.args.self.now.tasks c.args.task (first_task c.take-node.result.value.tasks) (ap (λ (w : TasksInTree). w.tasks) c.self.view_is) c.take-node.ensures.task in
    let x : (first_task c.take-node.result.value.tasks).entry ≡ c.task-entry.result.entry = cc in
    subst (λ (e : Entry). is_in_range e.v ≡ true) x
    (range_v (first_task c.take-node.result.value.tasks).entry (c.keeps.ensures c.args.task (first_task c.take-node.result.value.tasks).entry g).1)

pub invariant_of-self : goal.invariant_of-self
invariant_of-self c =
    let x : (first_task c.take-node.result.value.tasks).entry ≡ c.task-entry.result.entry = cc in
    record {
      store =
          forgotten_stored c.self.inside.deadlines c.take-node.new.deadlines c.args.task c.take-node.new.tree.tasks
          (taken_stored c.self.inside.deadlines c.args.task (first_task c.take-node.result.value.tasks) c.self.inside.tree.tasks c.take-node.new.tree.tasks c.self.invariant.store c.take-node.ensures.task c.take-node.ensures.rest)
          (taken_missed c.self.inside.deadlines c.args.task (first_task c.take-node.result.value.tasks) c.self.inside.tree.tasks c.take-node.new.tree.tasks c.self.invariant.store c.take-node.ensures.task c.take-node.ensures.rest)
          c.take-node.ensures.table;
      totals =
          totals-without c.args.task (first_task c.take-node.result.value.tasks) c.task-entry.result.entry c.self.inside.tree.tasks c.take-node.new.tree.tasks c.self.inside.totals c.without_share-self-inside.result
          c.share.result.weight c.share.result.moment c.self.invariant.totals c.take-node.ensures.task x c.take-node.ensures.rest c.share.ensures.weight c.share.ensures.moment
          c.without_share-self-inside.ensures.weight c.without_share-self-inside.ensures.moment;
      picked = λ k. absurd (omega (arith, c.forget.ensures.number));
      pick = λ k. absurd (omega (arith, c.forget.ensures.number));
    }

pub returns-clause-rest : goal.returns-clause-rest
returns-clause-rest c =
    taken_seen c.self.inside.deadlines c.args.task (first_task c.take-node.result.value.tasks) c.self.inside.tree.tasks c.take-node.new.tree.tasks c.self.invariant.store c.take-node.ensures.task c.take-node.ensures.rest c.args.self.now.tasks (ap (λ (w : TasksInTree). w.tasks) c.self.view_is)

pub returns-clause-parcel : goal.returns-clause-parcel
returns-clause-parcel c =
    let t = first_task c.take-node.result.value.tasks in
    let x : t.entry ≡ c.task-entry.result.entry = cc in
    let lag : c.kept_lag.result ≡ cut (c.args.time -ℤ t.entry.v) (limit_of t.entry) =
    c.kept_lag.ensures.value
    ∙ ap (λ (z : ℤ). cut (z -ℤ c.task-entry.result.entry.v) (limit_of c.task-entry.result.entry)) (to_z-of_z w64 c.args.time c.ranges.time)
    ∙ ap (λ (e : Entry). cut (c.args.time -ℤ e.v) (limit_of e)) (sym x) in
    let fits : SFits w64 c.kept_lag.result = search rules in
    ap (option_map (leaving_at c.args.time c.args.task)) (found_entry c.self.inside.tree.tasks c.args.self.now.tasks c.args.task t (ap (λ (w : TasksInTree). w.tasks) c.self.view_is) c.take-node.ensures.task)
    ∙ ap (λ (q : ℕ). Some (leaving_at c.args.time q t.entry)) (sym (found_number c.args.task c.self.inside.tree.tasks t c.take-node.ensures.task))
    ∙ ap (λ (z : ℤ). Some (leaving t.number z t.entry)) (sym lag ∙ sym (to_z-of_z w64 c.kept_lag.result fits))
    ∙ ap (λ (p : Contents). Some p) (sym c.leave.ensures)

pub without_share-self-inside-requires-clause-part : goal.without_share-self-inside-requires-clause-part
without_share-self-inside-requires-clause-part c =
    let x : (first_task c.take-node.result.value.tasks).entry ≡ c.task-entry.result.entry = cc in
    subst (λ (z : ℕ). z ≤ c.self.inside.totals.weight) (sym c.share.ensures.weight)
    (totals_part c.args.task (first_task c.take-node.result.value.tasks) c.task-entry.result.entry c.self.inside.totals c.self.inside.tree.tasks c.self.invariant.totals c.take-node.ensures.task x)

pub leave-requires-clause-limited : goal.leave-requires-clause-limited
leave-requires-clause-limited c = search rules
