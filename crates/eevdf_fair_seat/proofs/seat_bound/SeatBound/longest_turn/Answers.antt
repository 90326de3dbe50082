use Rattle.eevdf_fair_seat.proofs.Turns.{turns_are_no_longer}
use Rattle.eevdf_fair_seat.proofs.seat_bound.SeatBound.longest_turn.Goals as goal

pub returns-then-self-lt18446744073709551615-clause-turns : goal.returns-then-self-lt18446744073709551615-clause-turns
returns-then-self-lt18446744073709551615-clause-turns c = turns_are_no_longer c.args.self c.if-self-lt18446744073709551615.true
