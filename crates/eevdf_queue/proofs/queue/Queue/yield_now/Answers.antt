use Rattle.std.proofs.Common.{◌≡◌, ℕ, Bool, true, cond, Some, sym, ap, ◌∙◌}
use Rattle.std.specs.{Prelude.is_some, FinMap.get, FinMap.insert}
use Rattle.eevdf_queue.specs.{declared.answers.YieldAnswer.YieldAnswer, declared.entry.Entry.Entry, State.State, State.View}
use Rattle.eevdf_queue.specs.{Moves.is_entry_in_range, Yield.yielded, Yield.yield_now, Yield.yield_entry, Yield.yield_running}
use Rattle.eevdf_queue.specs.declared.answers.YieldAnswer.TheVariants.{Yielded, Range}
use Rattle.eevdf_weight.specs.Limits.{is_in_range}
use Rattle.eevdf_queue.proofs.{Bounds.range_d, Bounds.range_with, DueTasks.yielded_in_time, DueTasks.due_written, Sound.entry_written, Sound.sound_change}
use Rattle.eevdf_queue.proofs.queue.Queue.yield_now.Goals as goal

later : (q : State) (task : ℕ) (e : Entry) → Some task ≡ q.running → get q.runnable task ≡ Some e → is_in_range (yielded e).d ≡ true
    → yield_now q ≡ (Yielded, record q { runnable = insert q.runnable task (yielded e) })
later q task e runs here is =
    ap (yield_running q) (sym runs) ∙ ap (yield_entry q task) here
    ∙ ap (λ (b : Bool). cond b (Yielded, record q { runnable = insert q.runnable task (yielded e) }) (Range, q)) is

pub yielded-yielded-requires : goal.yielded-yielded-requires
yielded-yielded-requires c = range_d c.in-Some.runner.entry c.in-Some.ensures.in_range

pub renew-requires-clause-in_range : goal.renew-requires-clause-in_range
renew-requires-clause-in_range c =
    let e : c.yielded-yielded.result ≡ yielded c.in-Some.runner.entry = c.yielded-yielded.ensures in
    let d : is_in_range (yielded c.in-Some.runner.entry).d ≡ true = cc in
    ap is_entry_in_range e
    ∙ range_with c.in-Some.runner.entry (yielded c.in-Some.runner.entry).d c.in-Some.ensures.in_range d

pub invariant_of-self : goal.invariant_of-self
invariant_of-self c =
    let e : Entry = c.in-Some.runner.entry in
    let here : get c.self.inside.runnable.tasks c.in-Some.runner.task ≡ Some e = ap (λ (v : View). get v.state.runnable c.in-Some.runner.task) c.self.view_is ∙ c.in-Some.ensures.entry in
    let timely = yielded_in_time e c.yielded-yielded.result c.yielded-yielded.ensures (c.self.invariant.3 c.in-Some.runner.task e here) in
    (sound_change _ _ _ _ _ _ _ c.renew.ensures (ap is_some here) c.self.invariant.0, c.self.invariant.1, c.self.invariant.2, due_written _ _ _ _ c.renew.ensures timely c.self.invariant.3)

pub returns-clause-after : goal.returns-clause-after
returns-clause-after c =
    let task = c.in-Some.runner.task in
    let e = c.in-Some.runner.entry in
    let is : is_in_range (yielded e).d ≡ true =
    ap (λ (x : Entry). is_in_range x.d) (sym c.yielded-yielded.ensures) ∙ sym c.is_deadline_in_range.ensures ∙ c.if-not-is_deadline_in_range.false in
    entry_written _ _ _ _ _ _ _ task (yielded e) _ _ c.renew.ensures c.yielded-yielded.ensures (ap (λ (w : View). w.state) c.self.view_is)
    ∙ sym (ap (λ (p : YieldAnswer × State). p.1) (later c.args.self.now.state task e c.in-Some.ensures.task c.in-Some.ensures.entry is))
