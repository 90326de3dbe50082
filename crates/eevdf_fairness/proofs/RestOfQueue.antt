-- Turns change nothing of who sleeps, and of the times that stand.
use Rattle.std.proofs.Common.{◌≡◌, ℕ, Bool, true, false, cond, List, [], ◌∷◌, Option, Some, None, refl, ◌∙◌}
use Rattle.std.specs.FinMap.{get, insert}
use Rattle.eevdf_queue.specs.{declared.entry.Entry.Entry, declared.answers.TickAnswer.TickAnswer, State.State, Moves.is_entry_in_range, Pick.pick_of, Pick.picked_by, Pick.after_pick}
use Rattle.eevdf_queue.specs.{Tick.tick, Tick.tick_running, Tick.tick_entry, Tick.is_used_up, Tick.charged as charged_entry}
use Rattle.eevdf_queue.specs.declared.answers.TickAnswer.TheVariants as ticked
use Rattle.eevdf_fairness.specs.Turns.{Turn, after_ticks, after_turn, after_turns}

pub record KeepsRest (q r : State) : Type 0 where
  pub asleep : r.asleep ≡ q.asleep
  pub base : r.base ≡ q.base
  pub places : r.places ≡ q.places
  pub shift : r.shift ≡ q.shift

rest_stays : (q : State) → KeepsRest q q
rest_stays q = record { asleep = refl; base = refl; places = refl; shift = refl }

rest_then : (a b c : State) → KeepsRest a b → KeepsRest b c → KeepsRest a c
rest_then a b c h k = record { asleep = k.asleep ∙ h.asleep; base = k.base ∙ h.base; places = k.places ∙ h.places; shift = k.shift ∙ h.shift }

tick_to_rest : (q : State) (t : ℕ) (e : Entry) (resched b : Bool)
    → KeepsRest q (cond {A = TickAnswer × State} b (ticked.Charged t resched, record q { runnable = insert q.runnable t e }) (ticked.Range, q)).1
tick_to_rest q t e resched true = record { asleep = refl; base = refl; places = refl; shift = refl }
tick_to_rest q t e resched false = rest_stays q

tick_entry_rest : (q : State) (t ns : ℕ) (o : Option Entry) → KeepsRest q (tick_entry q t o ns).1
tick_entry_rest q t ns None = rest_stays q
tick_entry_rest q t ns (Some e) = tick_to_rest q t (charged_entry e ns) (is_used_up e ns) (is_entry_in_range (charged_entry e ns))

pub tick_rest : (q : State) (ns : ℕ) (o : Option ℕ) → KeepsRest q (tick_running q o ns).1
tick_rest q ns None = rest_stays q
tick_rest q ns (Some t) = tick_entry_rest q t ns (get q.runnable t)

pub pick_rest : (q : State) (o : Option ℕ) → KeepsRest q (picked_by q o)
pick_rest q None = rest_stays q
pick_rest q (Some t) = record { asleep = refl; base = refl; places = refl; shift = refl }

ticks_rest : (q : State) (turn : Turn) → KeepsRest q (after_ticks q turn)
ticks_rest q [] = rest_stays q
ticks_rest q (ns ∷ turn) = rest_then q (tick q ns).1 (after_ticks (tick q ns).1 turn) (tick_rest q ns q.running) (ticks_rest (tick q ns).1 turn)

pub turns_rest : (q : State) (turns : List Turn) → KeepsRest q (after_turns q turns)
turns_rest q [] = rest_stays q
turns_rest q (turn ∷ turns) =
    rest_then q (after_pick q) _ (pick_rest q (pick_of q.runnable))
    (rest_then (after_pick q) (after_turn q turn) (after_turns (after_turn q turn) turns) (ticks_rest (after_pick q) turn) (turns_rest (after_turn q turn) turns))
