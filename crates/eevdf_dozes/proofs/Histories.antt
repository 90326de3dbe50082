-- Calls one after the other, of which those of the tasks that count are dozes and wakes, are a stretch.
use Rattle.std.proofs.Common.{ℕ, ◌+◌, List, [], ◌∷◌}
use Rattle.eevdf_queue.specs.{State.State, Laws.PickIsFirst}
use Rattle.eevdf_dozes.specs.Stretches.{Watch, IsWatched, IsChange, picked, ticked}
use Rattle.eevdf_dozes.specs.{Punctual.AllCount, Calls.PutsNonePast}
use Rattle.eevdf_dozes.specs.Histories.{Call, Pick, Tick, Doze, Wake, Touch, after_call, IsAllowed, AreAllowed, SleepersDoze, AreStretch, CallsAreStretch, CallsBeginWithPick}
use Rattle.eevdf_dozes.proofs.{Steps.pick_watched, Steps.tick_watched, Steps.change_watched, Standing.standing_is_change, StandingCalls.stands}
use Rattle.eevdf_dozes.proofs.{Changes.others_may_be_touched, Changes.calls_are_changes, PutPast.by_stand, PutPast.calls_put_none_past}
use Rattle.eevdf_dozes.proofs.Sleepers.{others_doze, pick_dozes, tick_dozes, doze_dozes, wake_dozes}

-- ---- one call
module _ (first : PickIsFirst) (w : Watch) where
  -- what is kept along the calls
  pub record IsReady (q : State) : Type 0 where
    pub watched : IsWatched w q
    pub doze : SleepersDoze w q

  -- what a call is that is neither a pick nor a tick
  pub record IsSuch (q r : State) : Type 0 where
    pub change : IsChange w q r
    pub puts : AllCount w q.runnable → PutsNonePast w q r
    pub doze : SleepersDoze w r

  abbrev pub IsSuchCall : State → Call → Type 0
  IsSuchCall q Pick = Unit {0}
  IsSuchCall q (Tick ns) = Unit {0}
  IsSuchCall q call = IsSuch q (after_call q call)

  such_call : (ran : ℕ) (q : State) (call : Call) → IsReady q → IsAllowed w ran q call → IsSuchCall q call
  such_call ran q Pick ready allowed = tt
  such_call ran q (Tick ns) ready allowed = tt
  such_call ran q (Doze task) ready other = record {
    change = calls_are_changes.dozes w q task other;
    puts = λ all. calls_put_none_past.dozes w q task;
    doze = doze_dozes w q task ready.watched.levels ready.doze;
  }
  such_call ran q (Wake task) ready other = record {
    change = calls_are_changes.wakes w q task other (ready.doze task);
    puts = λ all. calls_put_none_past.wakes w q task ready.watched.here all (ready.doze task);
    doze = wake_dozes w q task ready.doze;
  }
  such_call ran q (Touch task r) ready allowed = record {
    change = others_may_be_touched w q r task allowed.0 allowed.1.0 allowed.1.1;
    puts = λ all. calls_put_none_past.others w q r task allowed.0 allowed.1.1;
    doze = others_doze w task q r allowed.0 allowed.1.1 ready.doze;
  }
  such_call ran q call ready allowed = record {
    change = standing_is_change w q (after_call q call) (stands q call).by (stands q call).all;
    puts = λ all. by_stand w q (after_call q call) (stands q call).by (stands q call).all;
    doze = (stands q call).doze w ready.doze;
  }

  pub ready_after : (ran : ℕ) (q : State) (call : Call) → IsReady q → IsAllowed w ran q call → IsReady (after_call q call)
  ready_after ran q Pick ready allowed = record { watched = pick_watched w q ready.watched; doze = pick_dozes first w q ready.doze }
  ready_after ran q (Tick ns) ready allowed = record { watched = tick_watched w ns q ready.watched; doze = tick_dozes w ns q ready.doze }
  ready_after ran q call ready allowed =
      let such : IsSuch q (after_call q call) = such_call ran q call ready allowed in
      record { watched = change_watched w q (after_call q call) such.change ready.watched; doze = such.doze }

  -- ---- all calls
  are_stretch : (ran : ℕ) (q : State) (calls : List Call) → IsReady q → AreAllowed w ran q calls → AreStretch w ran q calls
  are_stretch ran q [] ready allowed = record { stretch = tt; none_past = λ all. tt }
  are_stretch ran q (Pick ∷ calls) ready allowed =
      let rest : AreStretch w 0 (picked q) calls = are_stretch 0 (picked q) calls (ready_after ran q Pick ready allowed.0) allowed.1 in
      record { stretch = rest.stretch; none_past = λ all. rest.none_past all.1 }
  are_stretch ran q (Tick ns ∷ calls) ready allowed =
      let rest : AreStretch w (ran + ns) (ticked q ns) calls =
      are_stretch (ran + ns) (ticked q ns) calls (ready_after ran q (Tick ns) ready allowed.0) allowed.1 in
      record { stretch = (allowed.0, rest.stretch); none_past = λ all. rest.none_past all.1 }
  are_stretch ran q (call ∷ calls) ready allowed =
      let r : State = after_call q call in
      let such : IsSuch q r = such_call ran q call ready allowed.0 in
      let rest : AreStretch w ran r calls = are_stretch ran r calls (ready_after ran q call ready allowed.0) allowed.1 in
      record { stretch = (such.change, rest.stretch); none_past = λ all. (such.puts all.0, rest.none_past all.1) }

pub calls_are_stretch : PickIsFirst → CallsAreStretch
calls_are_stretch first w ran q calls watched doze allowed = are_stretch first w ran q calls (record { watched = watched; doze = doze }) allowed

pub calls_begin_with_pick : PickIsFirst → CallsBeginWithPick
calls_begin_with_pick first w q calls watched doze allowed =
    let all : AreStretch w 0 q (Pick ∷ calls) = calls_are_stretch first w 0 q (Pick ∷ calls) watched doze (tt, allowed) in
    record {
      begins = record { watched = watched; stretch = all.stretch };
      none_past = λ here along. all.none_past (here, along);
    }
