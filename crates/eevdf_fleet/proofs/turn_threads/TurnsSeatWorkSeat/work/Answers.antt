use Rattle.std.proofs.Common.{sym, ap, subst, refl, ◌∙◌, true, false}
use Rattle.eevdf_fleet.specs.{Fleets.Seat, Turns.HasTurned}
use Rattle.eevdf_fleet.proofs.SeatTurns.{turned-on}
use Rattle.eevdf_fleet.proofs.turn_threads.TurnsSeatWorkSeat.work.Goals as goal

pub loop-turn-preserved : goal.loop-turn-preserved
loop-turn-preserved g c =
    let kit = g.N.Names.kit in let Gives = g.T.SeatTurn.turn_gives c.args.self.now.each.now kit in
    let before = c.loop-turn.seat in let next = c.turn.new.seat in
    let gives : Gives c.loop-turn.turn before next false = subst (Gives c.loop-turn.turn before next) (sym c.is_break.ensures ∙ c.if-is_break.false) c.turn.ensures.gives in
    record {
      cpu = c.turn.ensures.cpu ∙ c.loop-turn.invariant.cpu;
      turned = λ after others. c.loop-turn.invariant.turned after (turned-on Gives c.loop-turn.turn c.args.self.now.turns false before next after c.loop-turn-test.true gives others);
    }

pub returns-then-is_break : goal.returns-then-is_break
returns-then-is_break g c =
    let kit = g.N.Names.kit in let Gives = g.T.SeatTurn.turn_gives c.args.self.now.each.now kit in
    let before = c.loop-turn.seat in let next = c.turn.new.seat in
    let gives : Gives c.loop-turn.turn before next true = subst (Gives c.loop-turn.turn before next) (sym c.is_break.ensures ∙ c.if-is_break.true) c.turn.ensures.gives in (
      c.turn.ensures.cpu ∙ c.loop-turn.invariant.cpu ∙ ap (λ (s : Seat). s.cpu) c.requires,
      subst (λ (s : Seat). HasTurned Gives 0 c.args.self.now.turns s next) c.requires
          (c.loop-turn.invariant.turned next (turned-on Gives c.loop-turn.turn c.args.self.now.turns true before next next c.loop-turn-test.true gives refl)),
    )
