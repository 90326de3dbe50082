use Rattle.std.proofs.Common.{ap}
use Rattle.std.specs.Prelude.{is_some}
use Rattle.eevdf_queue.proofs.Closing.{fewer_runnable}
use Rattle.eevdf_queue.proofs.queue.Queue.take_any.Goals as goal

pub returns-in-Some-clause-fewer : goal.returns-in-Some-clause-fewer
returns-in-Some-clause-fewer c =
    fewer_runnable c.args.self.now.state c.take.new.self.state c.in-Some.task (ap is_some c.in-Some.ensures.picked.eligible.here) c.take.ensures.after
