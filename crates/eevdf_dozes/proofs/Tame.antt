-- Calls one after the other put no task far behind.
use Rattle.std.proofs.Common.{◌≡◌, ℕ, ◌+◌, ◌++◌, true, List, [], ◌∷◌, refl, ap}
use Rattle.eevdf_queue.specs.{State.State, Laws.PickIsFirst}
use Rattle.eevdf_dozes.specs.Stretches.{Event, Watch, picked, ticked, after_events}
use Rattle.eevdf_dozes.specs.Histories.{Call, Pick, Tick, Doze, Wake, Touch, after_call, after_calls, event_of, events_of, IsAllowed, AreAllowed}
use Rattle.eevdf_dozes.specs.{Ahead.setback, Bounds.Bounds, Bounds.IsWithin, Bounds.IsWithinAlong}
use Rattle.eevdf_dozes.proofs.{StandingCalls.stands, Histories.IsReady, Histories.ready_after, Near.IsTame, Near.PutsNoneFarBehind}
use Rattle.eevdf_dozes.proofs.Behind.{stand_behind, others_behind, dozes_behind, wakes_behind}

module _ (first : PickIsFirst) (w : Watch) (b : Bounds) (stays : w.counts w.stays ≡ true) where
  -- so it is of each call that is neither a pick nor a tick
  abbrev IsTameCall : State → Call → Type 0
  IsTameCall q Pick = Unit {0}
  IsTameCall q (Tick ns) = Unit {0}
  IsTameCall q call = PutsNoneFarBehind w (setback w b) q (after_call q call)

  tame_call : (ran : ℕ) (q : State) (call : Call) → IsReady first w q → IsAllowed w ran q call → IsWithin w b q → IsTameCall q call
  tame_call ran q Pick ready allowed within = tt
  tame_call ran q (Tick ns) ready allowed within = tt
  tame_call ran q (Doze task) ready other within = dozes_behind w (setback w b) q task
  tame_call ran q (Wake task) ready other within = wakes_behind w b q task ready.watched stays within (ready.doze task)
  tame_call ran q (Touch task r) ready allowed within = others_behind w (setback w b) q r task allowed.0 allowed.1.1
  tame_call ran q call ready allowed within =
      stand_behind w (setback w b) q (after_call q call) (stands q call).by (stands q call).all

  pub are_tame : (ran : ℕ) (q : State) (calls : List Call) → IsReady first w q → AreAllowed w ran q calls → IsWithinAlong w b q calls
      → IsTame w b q (events_of q calls)
  are_tame ran q [] ready allowed within = within
  are_tame ran q (Pick ∷ calls) ready allowed within =
      (within.0, are_tame 0 (picked q) calls (ready_after first w ran q Pick ready allowed.0) allowed.1 within.1)
  are_tame ran q (Tick ns ∷ calls) ready allowed within =
      (within.0, are_tame (ran + ns) (ticked q ns) calls (ready_after first w ran q (Tick ns) ready allowed.0) allowed.1 within.1)
  are_tame ran q (call ∷ calls) ready allowed within = (
    (within.0, tame_call ran q call ready allowed.0 within.0),
    are_tame ran (after_call q call) calls (ready_after first w ran q call ready allowed.0) allowed.1 within.1,
  )

-- ---- the events of calls
pub events_appended : (q : State) (before calls : List Call) → events_of q (before ++ calls) ≡ events_of q before ++ events_of (after_calls q before) calls
events_appended q [] calls = refl
events_appended q (call ∷ before) calls = ap (λ (events : List Event). event_of q call ∷ events) (events_appended (after_call q call) before calls)

pub after_same : (q : State) (calls : List Call) → after_events q (events_of q calls) ≡ after_calls q calls
after_same q [] = refl
after_same q (Pick ∷ calls) = after_same (picked q) calls
after_same q (call ∷ calls) = after_same (after_call q call) calls
