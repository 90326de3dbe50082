use Rattle.eevdf_queue.proofs.LoweredQueues as lowered
use Rattle.eevdf_queue.proofs.laws.lowered_queue_answers_alike.Goals as goal

pub returns : goal.returns
returns c = lowered.lowered_queue_answers_alike
