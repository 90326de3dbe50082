-- What a queue offers: the latest of the tasks that don't run, with what it would carry.
use Rattle.std.proofs.Common.{◌≡◌, ℕ, Option, Some, sym, ap, subst, ◌∙◌}
use Rattle.std.specs.{Prelude.IfSome, Option.option_map, Option.option_and_then, FinMap.get, FinMap.entries}
use Rattle.eevdf_queue.specs.{declared.entry.Entry.Entry, State.State, Candidate.latest_waiting}
use Rattle.eevdf_queue.specs.{Lag.kept_lag, Leaving.leaving, Leaving.carried, Offers.offer}
use Rattle.eevdf_queue.proofs.Waiting.{latest_here}

pub found_here : (q : State) (t : ℕ) (e : Entry) → Some (t, e) ≡ latest_waiting q.running (entries q.runnable) → get q.runnable t ≡ Some e
found_here q t e h = subst (λ (o : Option (ℕ × Entry)). IfSome o (λ a. get q.runnable a.0 ≡ Some a.1)) (sym h) (latest_here q.runnable q.running)

pub carried_of : (q : State) (t : ℕ) (e : Entry) → Some (t, e) ≡ latest_waiting q.running (entries q.runnable) → carried q t ≡ Some (leaving t (kept_lag q e) e)
carried_of q t e h = ap (option_map (λ (x : Entry). leaving t (kept_lag q x) x)) (found_here q t e h)

pub offer_of : (q : State) (t : ℕ) (e : Entry) → Some (t, e) ≡ latest_waiting q.running (entries q.runnable) → Some (leaving t (kept_lag q e) e) ≡ offer q
offer_of q t e h =
    sym (carried_of q t e h) ∙ ap (λ (o : Option (ℕ × Entry)). option_and_then (carried q) (option_map (λ a. a.0) o)) h
