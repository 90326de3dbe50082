use Rattle.std.proofs.Common.{arith}
use Rattle.eevdf_free_tasks.proofs.{Openings.joined-more, Parts.fresh-joined}
use Rattle.eevdf_free_tasks.proofs.opening.connect.Goals as goal

pub returns-clause-fresh : goal.returns-clause-fresh
returns-clause-fresh c =
    fresh-joined c.args.sender c.args.home _ c.index_mut.result.now c.add_producer.new.self c.index_mut-2.result.now c.add_consumer.new.self c.requires.fresh c.requires.sender c.requires.home
    c.index_mut.ensures.value c.in_ok-add_producer.ensures c.index_mut-2.ensures.value c.in_ok-add_consumer.ensures

pub returns-clause-joined : goal.returns-clause-joined
returns-clause-joined c =
    joined-more c.args.sender c.args.home _ c.index_mut.result.now c.add_producer.new.self c.index_mut-2.result.now c.add_consumer.new.self c.requires.joined
    (omega (arith, c.requires.sender, c.requires.fresh.count)) (omega (arith, c.requires.home, c.requires.fresh.count))
    c.index_mut.ensures.value c.in_ok-add_producer.ensures c.index_mut-2.ensures.value c.in_ok-add_consumer.ensures
