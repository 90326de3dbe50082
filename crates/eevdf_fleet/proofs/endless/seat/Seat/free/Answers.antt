use Rattle.std.proofs.Common.{◌≡◌, ◌+◌, length, sym, ap, subst, ◌∙◌}
use Rattle.eevdf_ops.specs.Programs.{wakes_from}
use Rattle.eevdf_fleet.specs.Fleets.{capacity_of}
use Rattle.eevdf_fleet.specs.Endless.{HasFound, Seat, posted_to, seat_of_parts}
use Rattle.eevdf_fleet.proofs.EndlessSeats.{has-found}
use Rattle.eevdf_fleet.proofs.endless.seat.Seat.free.Goals as goal

pub returns-clause-seat : goal.returns-clause-seat
returns-clause-seat g c =
    subst (λ (s : Seat). HasFound s (seat_of_parts c.free.new.self)) c.self.view_is (has-found c.self.inside.parts c.free.new.self c.free.ensures.looked)

pub returns-clause-own : goal.returns-clause-own
returns-clause-own g c = λ some here.
    subst (λ (s : Seat). c.free.result + length (posted_to s c.args.home) ≡ capacity_of g.N.Names.kit + length (wakes_from c.args.home s.log)) c.self.view_is
    (c.free.ensures.own some (here ∙ ap (λ (s : Seat). s.cpu) (sym c.self.view_is)))
