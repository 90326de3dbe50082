use Rattle.std.proofs.Common.{ℕ, inr, refl, subst}
use Rattle.eevdf_ops.specs.declared.deeds.Answer.TheVariants.{Begun}
use Rattle.eevdf_ops.specs.declared.deeds.Deed.TheVariants as deed
use Rattle.eevdf_fleet.specs.Endless.{HasDone}
use Rattle.eevdf_fleet.specs.Fleets.{setup_of}
use Rattle.eevdf_live_tasks.specs.Lives.{IsBack}
use Rattle.eevdf_live_tasks.proofs.live_tasks.LiveTasks.begin.Goals as goal

pub returns-in-Err-clause-none : goal.returns-in-Err-clause-none
returns-in-Err-clause-none g c = inr (record {
  task = c.in_ok-taken.taken;
  between = c.take.new.self;
  taken = c.in_ok-taken.ensures.some;
  back = subst (λ (t : ℕ). IsBack t c.take.new.self c.give_back-in-Err.new.free) c.in-Err.ensures c.give_back-in-Err.ensures;
  seat = inr (subst (λ (t : ℕ). HasDone (setup_of g.N.Names.kit) (deed.Begin c.args.seat.now.cpu t c.args.nice c.args.slice) Begun c.args.seat.now c.begins.new.seat)
      c.task-task.ensures (c.if-not-begins.ensures.begun refl));
})
