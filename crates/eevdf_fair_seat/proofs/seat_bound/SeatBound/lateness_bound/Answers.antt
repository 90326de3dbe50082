use Rattle.std.proofs.Common.{sym, subst}
use Rattle.eevdf_fair_seat.specs.Lateness.{NoneIsLater}
use Rattle.eevdf_fair_seat.proofs.Lateness.{none_is_later}
use Rattle.eevdf_fair_seat.proofs.seat_bound.SeatBound.lateness_bound.Goals as goal

pub returns-clause-late : goal.returns-clause-late
returns-clause-late c =
    subst (NoneIsLater c.args.self c.args.lightest) (sym c.charged_for.ensures)
    (none_is_later c.requests_stay_punctual_on_cpu.ensures c.args.self c.args.lightest c.in_ok-longest.longest c.in_ok-longest.ensures.turns)
