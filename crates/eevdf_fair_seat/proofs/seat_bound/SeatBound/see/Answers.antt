use Rattle.std.proofs.Common.{◌≡◌, rules}
use Rattle.eevdf_fair_seat.specs.Turns.{after}
use Rattle.eevdf_fair_seat.proofs.Turns.{goes_on, unchanged}
use Rattle.eevdf_fair_seat.proofs.seat_bound.SeatBound.see.Goals as goal

pub returns-in-Tick-clause-goes_on : goal.returns-in-Tick-clause-goes_on
returns-in-Tick-clause-goes_on c = goes_on c.args.self.now c.grow.new.self c.args.deed (search rules)

pub returns-in-Pick-clause-goes_on : goal.returns-in-Pick-clause-goes_on
returns-in-Pick-clause-goes_on c = goes_on c.args.self.now _ c.args.deed (search rules)

pub returns-in_default : goal.returns-in_default
returns-in_default c =
    let same : c.args.self.now ≡ after c.args.self.now c.args.deed = unchanged c.args.self.now c.args.deed c.in_default.not-Tick c.in_default.not-Pick in
    record {
      turns = same;
      begins = λ cpu answer pick. absurd (c.in_default.not-Pick cpu pick);
      goes_on = goes_on c.args.self.now c.args.self.now c.args.deed same;
    }
