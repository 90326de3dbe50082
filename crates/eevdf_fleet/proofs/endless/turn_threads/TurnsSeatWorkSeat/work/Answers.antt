use Rattle.std.proofs.Common.{suc, sym, ap, subst, ◌∙◌, true, false}
use Rattle.eevdf_fleet.specs.{Endless.Seat, EndlessTurns.HasTurned}
use Rattle.eevdf_fleet.proofs.endless.turn_threads.TurnsSeatWorkSeat.work.Goals as goal

pub loop-preserved : goal.loop-preserved
loop-preserved g c =
    let Gives = g.T.ExchangeTurn.turn_gives c.args.self.now.each.now g.N.Names.kit in
    let before = c.loop.seat in let next = c.turn-turned.new.seat in
    let gives : Gives before next false = subst (Gives before next) (sym c.is_break.ensures ∙ c.if-is_break.false) c.turn-turned.ensures.gives in
    record {
      cpu = c.turn-turned.ensures.cpu ∙ c.loop.invariant.cpu;
      turned = λ after rest. c.loop.invariant.turned after (record { others = suc rest.others; turns = (next, gives, rest.turns) });
    }

pub returns-then-is_break : goal.returns-then-is_break
returns-then-is_break g c =
    let Gives = g.T.ExchangeTurn.turn_gives c.args.self.now.each.now g.N.Names.kit in
    let before = c.loop.seat in let next = c.turn-turned.new.seat in
    let gives : Gives before next true = subst (Gives before next) (sym c.is_break.ensures ∙ c.if-is_break.true) c.turn-turned.ensures.gives in (
      c.turn-turned.ensures.cpu ∙ c.loop.invariant.cpu ∙ ap (λ (s : Seat). s.cpu) c.requires,
      subst (λ (s : Seat). HasTurned Gives s next) c.requires (c.loop.invariant.turned next (record { others = 0; turns = gives })),
    )
