use Rattle.eevdf_fleet.specs.Fleets.{setup_of}
use Rattle.eevdf_fair_seat.specs.Lateness.{NoneIsLater}
use Rattle.measures.specs.BesideSeats.{NoneIsLaterHere}
use Rattle.measures.proofs.BesideSeats.{if_some, none_later_here}
use Rattle.measures.proofs.fair_seats.rounds.run_rounds.Goals as goal

pub returns-clause-late : goal.returns-clause-late
returns-clause-late g c =
    let s = setup_of g.N.Names.kit in
    if_some c.lateness_bound.result (NoneIsLater c.loop-round.bound c.args.lightest) (NoneIsLaterHere s c.loop-round.seat c.args.lightest)
    (λ most late. none_later_here s c.loop-round.seat c.loop-round.bound c.args.lightest most c.loop-round.invariant.beside late) c.lateness_bound.ensures.late
