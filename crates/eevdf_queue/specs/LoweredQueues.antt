-- A queue, and the same queue with all virtual times lower by a number.
use Rattle.std.specs.Prelude.{◌≡◌, ℕ, ℤ, pos, ◌+ℤ◌, ◌-ℤ◌, ◌*ℤ◌, ◌⊎◌, Option, Some, None}
use Rattle.std.specs.Option.{option_map}
use Rattle.std.specs.FinMap as map
use Rattle.eevdf_queue.specs.{State.State, State.Sleeper, State.Contents, Sums.total_weight, Sums.total_moment, Sums.virtual_time, Lag.lag_of, Pick.pick_of, Pick.after_pick, Pick.adopted}
use Rattle.eevdf_queue.specs.{Candidate.candidate_of, Tick.tick, Yield.yield_now, Wake.wake, Doze.dozed_lag, Doze.doze, Doze.put_dozing, Doze.place_of, Renice.renice, SliceChange.set_slice, Attributes.set, Attributes.begin}
use Rattle.eevdf_queue.specs.{Kept.AreInRange, TimeToResched.ends_request, Closing.take_any}
use Rattle.eevdf_queue.specs.{Moves.admit, Moves.put_asleep, Placing.put, Rebase.lowered_entry, Rebase.lowered_tasks, Rebase.rebased}
use Rattle.eevdf_queue.specs.Leaving.{carried, leave, carried_asleep, leave_asleep, nobody_runs}
use Rattle.eevdf_queue.specs.declared.answers.TickAnswer.TheVariants as ticks
use Rattle.eevdf_queue.specs.declared.answers.YieldAnswer.TheVariants as yields
use Rattle.eevdf_queue.specs.declared.answers.WakeAnswer.TheVariants as wakes
use Rattle.eevdf_queue.specs.declared.answers.ReniceAnswer.TheVariants as renices
use Rattle.eevdf_queue.specs.declared.answers.SetAnswer.TheVariants as sets

-- the queue `r` is the queue `q`, lower by a number. The time that stands counts where nothing is runnable: before it is
-- looked at again, a task that leaves makes it anew. Places stay, and the shift is greater by the number, so that a place is
-- lower by it in the virtual times of now
pub record IsLower (by : ℤ) (q r : State) : Type 0 where
  pub runnable : r.runnable ≡ lowered_tasks by q.runnable
  pub running : r.running ≡ q.running
  pub asleep : r.asleep ≡ q.asleep
  pub base : q.runnable ≡ map.empty → r.base ≡ q.base -ℤ by
  pub places : r.places ≡ q.places
  pub shift : r.shift ≡ q.shift +ℤ by

-- two answers with what they leave: alike, unless one of them is that something would be out of range
abbrev pub AreAlike : {A : Type 0} → A → ℤ → A × State → A × State → Type 0
AreAlike range by x y = (x.0 ≡ range) ⊎ ((y.0 ≡ range) ⊎ ((x.0 ≡ y.0) × IsLower by x.1 y.1))

-- the same of a task that joins, where none says that it would be out of range
abbrev pub JoinAlike : ℤ → Option State → Option State → Type 0
JoinAlike by None o = Unit {0}
JoinAlike by (Some q) None = Unit {0}
JoinAlike by (Some q) (Some r) = IsLower by q r

-- what a parcel carries, lower by a number
abbrev pub lowered_contents : ℤ → Contents → Contents
lowered_contents by p = record p { start = p.start -ℤ by }

-- what a queue gives away, or nothing, with what it leaves
abbrev pub TakenAlike : ℤ → Option Contents × State → Option Contents × State → Type 0
TakenAlike by x y = (y.0 ≡ option_map (lowered_contents by) x.0) × IsLower by x.1 y.1

pub record AnswerAlike (by : ℤ) (q r : State) : Type 0 where
  pub time : virtual_time r ≡ virtual_time q -ℤ by
  pub load : total_weight r.runnable ≡ total_weight q.runnable
  pub moment : total_moment r.runnable ≡ total_moment q.runnable -ℤ (by *ℤ pos (total_weight q.runnable))
  pub count : map.len r.runnable ≡ map.len q.runnable
  pub entry : (t : ℕ) → map.get r.runnable t ≡ option_map (lowered_entry by) (map.get q.runnable t)
  pub lag : (t : ℕ) → lag_of r t ≡ lag_of q t
  pub candidate : candidate_of r.runnable r.running ≡ candidate_of q.runnable q.running
  pub pick : pick_of r.runnable ≡ pick_of q.runnable
  pub picked : IsLower by (after_pick q) (after_pick r)
  pub adopted : (t : ℕ) → IsLower by (adopted q t) (adopted r t)
  pub resched : AreInRange q.runnable → AreInRange r.runnable → (ns : ℕ) → ends_request (tick r ns).0 ≡ ends_request (tick q ns).0
  pub tick : (ns : ℕ) → AreAlike ticks.Range by (tick q ns) (tick r ns)
  pub yields : AreAlike yields.Range by (yield_now q) (yield_now r)
  pub wake : (t : ℕ) → AreAlike wakes.Range by (wake q t) (wake r t)
  pub dozed_lag : (t : ℕ) → dozed_lag r t ≡ dozed_lag q t
  pub doze : (t : ℕ) → IsLower by (doze q t) (doze r t)
  pub place : (t : ℕ) → place_of r t ≡ option_map (λ (place : ℤ). place -ℤ by) (place_of q t)
  pub renice : (t : ℕ) (nice : ℤ) → AreAlike renices.Range by (renice q t nice) (renice r t nice)
  pub set_slice : (t slice : ℕ) → IsLower by (set_slice q t slice) (set_slice r t slice)
  pub set : (t : ℕ) (nice : ℤ) (slice : ℕ) → AreAlike sets.Range by (set q t nice slice) (set r t nice slice)
  pub begin : (t : ℕ) (nice : ℤ) (slice : ℕ) → IsLower by (begin q t nice slice) (begin r t nice slice)
  pub stopped : IsLower by (nobody_runs q) (nobody_runs r)
  pub put : (t : ℕ) (s : Sleeper) → JoinAlike by (put q t s) (put r t s)
  pub admit : (p : Contents) → JoinAlike by (admit q p) (admit r (lowered_contents by p))
  pub put_asleep : (p : Contents) → IsLower by (put_asleep q p) (put_asleep r p)
  pub put_dozing : (p : Contents) → IsLower by (put_dozing q p) (put_dozing r (lowered_contents by p))
  pub carried : (t : ℕ) → carried r t ≡ option_map (lowered_contents by) (carried q t)
  pub left : (t : ℕ) → IsLower by (leave q t) (leave r t)
  pub carried_asleep : (t : ℕ) → carried_asleep r t ≡ option_map (lowered_contents by) (carried_asleep q t)
  pub left_asleep : (t : ℕ) → IsLower by (leave_asleep q t) (leave_asleep r t)
  pub taken : TakenAlike by (take_any q) (take_any r)

-- a queue and the same queue, lower by a number, answer every call alike, but for that number in virtual times and for what
-- would be out of range. Of entries in range, as those of every queue are, the same ticks use the request up: so the shortest
-- one is the same (`resched`). What a rebase answers and leaves of each is told by `RebasedIsLower`
abbrev pub LoweredQueueAnswersAlike : Type 0
LoweredQueueAnswersAlike = (by : ℤ) (q r : State) → IsLower by q r → AnswerAlike by q r

-- the queue that a rebase leaves is the same queue, lower by its virtual time
abbrev pub RebasedIsLower : Type 0
RebasedIsLower = (q : State) → IsLower (virtual_time q) q (rebased q)
