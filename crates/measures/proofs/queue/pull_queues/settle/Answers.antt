use Rattle.measures.proofs.ApartQueues.{apart_put, apart_asleep}
use Rattle.measures.proofs.queue.pull_queues.settle.Goals as goal

pub returns-then-can_place : goal.returns-then-can_place
returns-then-can_place c = apart_put c.args.from.now.state c.args.to.now.state c.attach.new.self.state _ _ c.requires.apart c.requires.left c.attach.ensures.after

pub returns-else-can_place : goal.returns-else-can_place
returns-else-can_place c = rw c.put_asleep.ensures.after (apart_asleep c.args.from.now.state c.args.to.now.state c.args.parcel c.requires.apart c.requires.new)
