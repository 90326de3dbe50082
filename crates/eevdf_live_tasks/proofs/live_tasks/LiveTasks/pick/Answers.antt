use Rattle.std.proofs.Common.{◌∙◌, refl}
use Rattle.eevdf_live_tasks.proofs.Lives.{idle, picked, stray-ended}
use Rattle.eevdf_live_tasks.proofs.live_tasks.LiveTasks.pick.Goals as goal

pub returns-in_default : goal.returns-in_default
returns-in_default g c = record {
  cpu = c.pick.ensures.cpu ∙ c.loop.invariant.lines.cpu;
  picked = tt;
  none = picked c.loop.invariant c.pick.ensures (idle c.loop.seat.cpu c.pick.ensures c.in_default.not-Picked) refl;
}

pub loop-preserved : goal.loop-preserved
loop-preserved g c =
    stray-ended c.loop.invariant c.pick.ensures c.in-Picked.is (c.if-not-end_stray.ensures.ended refl).1
