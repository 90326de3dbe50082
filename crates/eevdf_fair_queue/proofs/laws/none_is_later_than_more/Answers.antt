use Rattle.eevdf_fair_queue.proofs.Late.{none_later_than_more}
use Rattle.eevdf_fair_queue.proofs.laws.none_is_later_than_more.Goals as goal

pub returns : goal.returns
returns c = none_later_than_more c.args.queue.now.queue.state _ _ c.requires.late c.requires.more
