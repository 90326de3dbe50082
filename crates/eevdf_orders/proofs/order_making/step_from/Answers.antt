use Rattle.eevdf_orders.proofs.GoingAround.{found_above, found_below, nobody_around}
use Rattle.eevdf_orders.proofs.order_making.step_from.Goals as goal

pub returns-in-Some : goal.returns-in-Some
returns-in-Some c =
    found_above c.args.player.now c.step_among.new.player c.args.first c.args.count c.in-Some.caller c.in-Some.ensures c.requires.count c.requires.first

pub unreachable-requires : goal.unreachable-requires
unreachable-requires c =
    nobody_around c.args.player.now c.step_among.new.player c.step_among-2.new.player c.args.first c.args.count c.in_default.ensures c.in-None.ensures
    c.requires.count c.requires.first c.requires.some

pub returns : goal.returns
returns c =
    found_below c.args.player.now c.step_among.new.player c.step_among-2.new.player c.args.first c.args.count c.in-Some-step_among.caller c.in_default.ensures
    c.in-Some-step_among.ensures c.requires.count c.requires.first
