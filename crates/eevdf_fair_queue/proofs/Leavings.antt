-- Calls that leave the bounds as they are.
use Rattle.eevdf_fair_queue.specs.Leavings.{LeavingsKeepBounds}
use Rattle.eevdf_fair_queue.proofs.{Running.yield_keeps, Slices.slice_keeps}
use Rattle.eevdf_fair_queue.proofs.Keeping.{begin_keeps, asleep_keeps, taken_asleep_keeps, leave_keeps, leave_running_keeps, doze_keeps, dozing_keeps, stop_keeps}

pub leavings_keep_bounds : LeavingsKeepBounds
leavings_keep_bounds q b fair = record {
  dozes = λ task. doze_keeps q b task fair;
  yields = yield_keeps q b fair;
  begins = λ task nice slice. begin_keeps q b task nice slice fair;
  slices = λ task slice. slice_keeps q b task slice fair;
  leaves = λ task. leave_keeps q b task fair;
  leaves_running = λ task. leave_running_keeps q b task fair;
  leaves_asleep = λ task. taken_asleep_keeps q b task fair;
  put_asleep = λ p. asleep_keeps q b p fair;
  put_dozing = λ p. dozing_keeps q b p fair;
  stops = stop_keeps q b fair;
}
