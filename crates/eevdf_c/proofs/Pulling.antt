-- What comes of a task that is offered: it can't be placed, or it comes.
use Rattle.std.proofs.Common.{◌≡◌, ℕ, ℤ, Bool, true, false, cond, Option, Some, None, pos, sym, ap, ◌∙◌}
use Rattle.std.specs.{Prelude.Err, Option.option_map, FinMap.get}
use Rattle.eevdf_queue.specs.{State.State, State.Contents, declared.entry.Entry.Entry, declared.sleeper.Sleeper.Sleeper, Moves.sleeper_of}
use Rattle.eevdf_queue.specs.{Candidate.is_running, Lag.kept_lag, Lag.lag_by, Lag.lag_of, Leaving.carried, Leaving.leave, Leaving.leaving}
use Rattle.eevdf_queue.specs.{Placing.can_place, Placing.put, Trying.is_here, Trying.tried, Trying.unless_out_of_range}
use Rattle.eevdf_queue.specs.declared.refusal.Refusal.TheVariants.{Present}
use Rattle.eevdf_queue.proofs.Joining.{not_joined}
use Rattle.eevdf_c.specs.Codes.{balanced, out_of_range}
use Rattle.eevdf_c.specs.Pulls.{is_lighter, joined, none_comes, pull_offered, waiting}

-- a task that is offered, is light enough, and isn't here
pub record IsWanted (q source : State) (offered : Option Contents) (p : Contents) : Type 0 where
  pub is_offered : offered ≡ Some p
  pub is_light : is_lighter q p source ≡ true
  pub is_absent : is_here q p.task ≡ false

wanted : (q source : State) (offered : Option Contents) (p : Contents) (placed : Option State) → IsWanted q source offered p
    → put q p.task (sleeper_of p) ≡ placed → pull_offered q source offered ≡ joined q source p (unless_out_of_range placed)
wanted q source offered p placed h e =
    ap (pull_offered q source) h.is_offered
    ∙ ap (λ (b : Bool). cond b (joined q source p (tried q p.task (put q p.task (sleeper_of p)))) (none_comes q source balanced)) h.is_light
    ∙ ap (λ (b : Bool). joined q source p (cond b (Err Present) (unless_out_of_range (put q p.task (sleeper_of p))))) h.is_absent
    ∙ ap (λ (o : Option State). joined q source p (unless_out_of_range o)) e

-- it can't be placed
pub no_room : (q source : State) (offered : Option Contents) (p : Contents) (s : Sleeper) → IsWanted q source offered p → s ≡ sleeper_of p
    → can_place q s ≡ false → none_comes q source out_of_range ≡ pull_offered q source offered
no_room q source offered p s h brought full =
    sym (wanted q source offered p None h (not_joined q p.task (sleeper_of p) (ap (can_place q) (sym brought) ∙ full)))

-- it comes
pub comes : (q source after : State) (offered : Option Contents) (p : Contents) → IsWanted q source offered p
    → put q p.task (sleeper_of p) ≡ Some after
    → record { answer = pos p.task; to = after; from = leave source p.task } ≡ pull_offered q source offered
comes q source after offered p h e = sym (wanted q source offered p (Some after) h e)

-- a task that waits has the lag of its entry, and is offered with what it would carry
pub lag_kept : (q : State) (task : ℕ) (e : Entry) (lag : ℤ) → get q.runnable task ≡ Some e → Some lag ≡ lag_of q task → lag ≡ kept_lag q e
lag_kept q task e lag here h =
    let same : Some lag ≡ Some (kept_lag q e) = h ∙ ap (λ (o : Option Entry). lag_by q o (get q.asleep task)) here in cc

pub carried_entry : (q : State) (task : ℕ) (e : Entry) → get q.runnable task ≡ Some e
    → carried q task ≡ Some (leaving task (kept_lag q e) e)
carried_entry q task e here = ap (λ (o : Option Entry). option_map (λ (x : Entry). leaving task (kept_lag q x) x) o) here

pub waits : (q : State) (task : ℕ) (p : Contents) → is_running q.running task ≡ false → carried q task ≡ Some p → waiting q task ≡ Some p
waits q task p idle carries = ap (λ (b : Bool). cond b None (carried q task)) idle ∙ carries
