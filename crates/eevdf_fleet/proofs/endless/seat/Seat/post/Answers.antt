use Rattle.std.proofs.Common.{subst}
use Rattle.std.proofs.lemmas.Result.{on_ok_weaker}
use Rattle.eevdf_ops.specs.Setup.{home_of, homes_of}
use Rattle.eevdf_fleet.specs.Endless.{HasPosted, Seat, seat_of_parts}
use Rattle.eevdf_fleet.specs.Fleets.{setup_of}
use Rattle.eevdf_fleet.proofs.EndlessSeats.{has-posted}
use Rattle.eevdf_fleet.proofs.endless.seat.Seat.post.Goals as goal

pub returns-clause-accepted : goal.returns-clause-accepted
returns-clause-accepted g c =
    on_ok_weaker c.post.result
    (λ posted. subst (λ (s : Seat). HasPosted (home_of (homes_of (setup_of g.N.Names.kit)) c.args.task) c.args.task s (seat_of_parts c.post.new.self)) c.self.view_is
    (has-posted (home_of (homes_of (setup_of g.N.Names.kit)) c.args.task) c.args.task c.self.inside.parts c.post.new.self posted))
    c.post.ensures.accepted
