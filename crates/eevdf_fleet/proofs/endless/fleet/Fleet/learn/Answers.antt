use Rattle.std.proofs.Common.{subst}
use mathlib.Core.List.{IsPrefix}
use Rattle.eevdf_ops.specs.{Programs.lines_by}
use Rattle.eevdf_fleet.specs.Endless.{HasSeenMore, Seat, seat_of_parts}
use Rattle.eevdf_fleet.specs.Fleets.{setup_of}
use Rattle.eevdf_fleet.proofs.EndlessSeats.{has-seen-more, own-lines-begin}
use Rattle.eevdf_fleet.proofs.endless.fleet.Fleet.learn.Goals as goal

pub returns-clause-seat : goal.returns-clause-seat
returns-clause-seat g c =
    subst (λ (s : Seat). HasSeenMore (setup_of g.N.Names.kit) s (seat_of_parts c.learn.new.seat)) c.seat.view_is
    (has-seen-more g.N.Names.kit.terms c.seat.inside.parts c.learn.new.seat c.learn.ensures.seat c.learn.ensures.known)

pub returns-clause-own : goal.returns-clause-own
returns-clause-own g c =
    subst (λ (s : Seat). IsPrefix (lines_by s.cpu c.args.seen.now) s.log) c.seat.view_is
    (own-lines-begin g.N.Names.kit.terms c.args.seen.now c.seat.inside.parts c.learn.new.seat c.learn.ensures.seat c.learn.ensures.known c.learn.ensures.after)
