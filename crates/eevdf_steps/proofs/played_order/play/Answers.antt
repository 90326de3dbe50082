use Rattle.std.proofs.Common.{subst}
use Rattle.eevdf_steps.specs.{Players.Player, Players.player_start, PlayedSteps.IsPlayedOut}
use Rattle.eevdf_steps.proofs.PlayedOrders.{play_allowed, play_follows, play_is, play_one_thread, play_placed, play_whole}
use Rattle.eevdf_steps.proofs.played_order.play.Goals as goal
use Rattle.eevdf_steps.proofs.played_order.play.Goals.{After-play_with}

played : (c : After-play_with) → IsPlayedOut (player_start c.args.setup.now) c.args.order.now c.play_with.result
played c = subst (λ (a : Player). IsPlayedOut a c.args.order.now c.play_with.result) c.in_ok-player.ensures c.play_with.ensures

pub returns : goal.returns
returns c = record {
  play = play_is c.args.setup.now c.args.order.now c.play_with.result c.if-order-gt-MOST_PLACES.false (played c);
  whole = play_whole c.args.setup.now c.args.order.now c.play_with.result (played c);
  one_thread = play_one_thread c.args.setup.now c.args.order.now c.play_with.result (played c);
  allowed = play_allowed c.args.setup.now c.args.order.now c.play_with.result (played c);
  programs = play_follows c.args.setup.now c.args.order.now c.play_with.result (played c);
  places = play_placed c.args.setup.now c.args.order.now c.play_with.result (played c) c.start_is_placed.ensures.cpus c.start_is_placed.ensures.placed;
}
