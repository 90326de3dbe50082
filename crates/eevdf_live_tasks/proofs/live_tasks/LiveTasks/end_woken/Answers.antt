use Rattle.std.proofs.Common.{refl, sym, arith}
use Rattle.eevdf_live_tasks.proofs.Lives.{ended-now, ended-still}
use Rattle.eevdf_live_tasks.proofs.live_tasks.LiveTasks.end_woken.Goals.{then-end_if_woken, else-end_if_woken}
use Rattle.eevdf_live_tasks.proofs.live_tasks.LiveTasks.end_woken.Goals as goal

pub loop-place-preserved : goal.loop-place-preserved
loop-place-preserved g c = elim c.if-end_if_woken.branch [
  | then-end_if_woken w ↦ ended-now c.loop-place.invariant (w.if-end_if_woken.ensures.ended refl).1 (record {
    place = c.loop-place.place;
    wake = c.index-wake.result.now;
    behind = c.loop-place.auto.place;
    within = omega (arith, c.loop-place-test.true, c.len-place-end.ensures, c.args.wakes.now.ok.0);
    there = sym c.index-wake.ensures;
    task_is = refl;
    woken = w.if-end_if_woken.ensures.woken refl;
  }) refl w.ended-is
  | else-end_if_woken w ↦ ended-still c.loop-place.invariant (w.if-end_if_woken.ensures.unchanged refl) w.ended-is
]
