use Rattle.measures.proofs.ApartQueues.{apart_left}
use Rattle.measures.proofs.queue.pull_queues.pull.Goals as goal

pub settle-requires-clause-apart : goal.settle-requires-clause-apart
settle-requires-clause-apart c =
    apart_left c.args.from.now.state c.detach-parcel.new.self.state c.args.to.now.state _ _ c.requires c.detach-parcel.ensures.parcel c.detach-parcel.ensures.after c.detach-parcel.ensures.nowhere
