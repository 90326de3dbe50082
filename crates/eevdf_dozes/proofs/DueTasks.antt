-- Whatever is called, no runnable task is past its own deadline where none was at first.
use Rattle.std.proofs.Common.{[], ◌∷◌, sym, subst}
use Rattle.eevdf_queue.specs.{Pick.pick_of, Doze.doze, Wake.wake}
use Rattle.eevdf_dozes.specs.Stretches.{NoneIsPastDue, picked, ticked}
use Rattle.eevdf_dozes.specs.Histories.{Pick, Tick, Doze, Wake, Touch, after_call, NoneIsEverPastDue}
use Rattle.eevdf_dozes.proofs.{PicksInTime.same_tasks, Ticking.tick_due, Touching.doze_touches, Touching.wake_touches}
use Rattle.eevdf_dozes.proofs.{Standing.due_by_standing, StandingCalls.stands}

pub none_is_ever_past_due : NoneIsEverPastDue
none_is_ever_past_due q [] are due = due
none_is_ever_past_due q (Pick ∷ calls) are due =
    none_is_ever_past_due (picked q) calls are (subst NoneIsPastDue (sym (same_tasks q (pick_of q.runnable))) due)
none_is_ever_past_due q (Tick ns ∷ calls) are due = none_is_ever_past_due (ticked q ns) calls are (tick_due q ns due)
none_is_ever_past_due q (Doze task ∷ calls) are due = none_is_ever_past_due (doze q task) calls are ((doze_touches q task).due due)
none_is_ever_past_due q (Wake task ∷ calls) are due = none_is_ever_past_due (wake q task).1 calls are ((wake_touches q task).due due)
none_is_ever_past_due q (Touch task r ∷ calls) are due = none_is_ever_past_due r calls are.1 (are.0.due due)
none_is_ever_past_due q (call ∷ calls) are due =
    none_is_ever_past_due (after_call q call) calls are
    (due_by_standing q (after_call q call) (stands q call).by (stands q call).all due)
