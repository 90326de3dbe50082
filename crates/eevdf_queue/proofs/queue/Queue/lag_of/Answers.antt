use Rattle.std.proofs.Common.{◌≤◌, sym, subst}
use Rattle.std.specs.Prelude.{IfSome, unsigned_abs}
use Rattle.eevdf_queue.specs.{State.State, State.View, Lag.limit_at}
use Rattle.eevdf_queue.proofs.{SleepingLag.sleeping_limited}
use Rattle.eevdf_queue.proofs.queue.Queue.lag_of.Goals as goal

pub returns-in-None-clause-limited : goal.returns-in-None-clause-limited
returns-in-None-clause-limited c =
    let inside = c.self.inside in
    let q : State = record { runnable = inside.runnable.tasks; running = inside.running; asleep = inside.asleep.tasks; base = inside.base; places = inside.asleep.places; shift = inside.shift } in
    subst (λ (w : View). IfSome c.lag.result (λ lag. unsigned_abs lag ≤ limit_at w.state c.args.task)) c.self.view_is
    (sleeping_limited q c.args.task c.lag.result (sym c.in-None.ensures) c.keeps-2.ensures.limited c.lag.ensures)
