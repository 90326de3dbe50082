use Rattle.std.proofs.Common.{◌∙◌, ap}
use Rattle.eevdf_queue.specs.{State.View, Candidate.candidate_of}
use Rattle.eevdf_queue.proofs.Waiting.{candidate_none}
use Rattle.eevdf_queue.proofs.queue.Queue.candidate.Goals as goal

pub returns-clause-none : goal.returns-clause-none
returns-clause-none c =
    candidate_none _ _ _ (c.candidate.ensures ∙ ap (λ (w : View). candidate_of w.state.runnable w.state.running) c.self.view_is)
