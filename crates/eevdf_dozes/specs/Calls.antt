-- What calls of a queue are to tasks that count and to the one that stays.
use Rattle.std.specs.Prelude.{◌≡◌, ℕ, ℤ, pos, ◌+ℤ◌, ◌≤ℤ◌, true, false, is_some, Some, None}
use Rattle.std.specs.FinMap.{get, insert}
use Rattle.eevdf_queue.specs.{declared.sleeper.Sleeper.Sleeper, State.State, State.Contents, Kept.IsSound}
use Rattle.eevdf_queue.specs.{Leaving.leave, Leaving.leave_running, Leaving.leave_asleep, Leaving.carried_running, Leaving.nobody_runs}
use Rattle.eevdf_queue.specs.{Moves.admit, Moves.put_asleep, Placing.put, Pick.adopted, Yield.yield_now}
use Rattle.eevdf_queue.specs.{Renice.renice, SliceChange.set_slice, Attributes.set, Attributes.begin}
use Rattle.eevdf_queue.specs.{Doze.doze, Doze.put_dozing, Wake.wake, Wake.wake_to, Rebase.rebase, declared.answers.WakeAnswer.TheVariants.Awake}
use Rattle.eevdf_dozes.specs.Stretches.{Watch, NoneIsPastDue, IsChange}
use Rattle.eevdf_dozes.specs.Punctual.{NoneStandsPast, AllCount}

-- what becomes of a queue by a call that touches one task alone: all others stay where they are, and none of them begins to run
pub record Touches (task : ℕ) (q r : State) : Type 0 where
  pub runnable : (t : ℕ) → (t ≡ task → ⊥) → get r.runnable t ≡ get q.runnable t
  pub asleep : (t : ℕ) → (t ≡ task → ⊥) → get r.asleep t ≡ get q.asleep t
  pub places : (t : ℕ) → (t ≡ task → ⊥) → get r.places t ≡ get q.places t
  pub shift : r.shift ≡ q.shift
  pub runs : (t : ℕ) → (t ≡ task → ⊥) → r.running ≡ Some t → q.running ≡ Some t
  pub due : NoneIsPastDue q.runnable → NoneIsPastDue r.runnable

-- A task leaves, sleeps, is taken out of its sleep, joins or begins anew; or it gets another nice level and slice, or runs without being
-- picked; or it dozes or wakes
pub record CallsTouchOne : Type 0 where
  pub leaves : (q : State) (task : ℕ) → Touches task q (leave q task)
  pub leaves_running : (q : State) (task : ℕ) → Touches task q (leave_running q task)
  pub leaves_asleep : (q : State) (task : ℕ) → Touches task q (leave_asleep q task)
  pub sleeps : (q : State) (task : ℕ) (p : Contents) → carried_running q task ≡ Some p
      → Touches task q (put_asleep (leave_running q task) p)
  pub falls_asleep : (q : State) (p : Contents) → Touches p.task q (put_asleep q p)
  pub dozes_off : (q : State) (p : Contents) → Touches p.task q (put_dozing q p)
  pub is_admitted : (q : State) (p : Contents) (r : State) → admit q p ≡ Some r → Touches p.task q r
  pub joins : (q : State) (task : ℕ) (s : Sleeper) (r : State) → put q task s ≡ Some r → Touches task q r
  pub begins : (q : State) (task : ℕ) (nice : ℤ) (slice : ℕ) → Touches task q (begin q task nice slice)
  pub renices : (q : State) (task : ℕ) (nice : ℤ) → Touches task q (renice q task nice).1
  pub is_set : (q : State) (task : ℕ) (nice : ℤ) (slice : ℕ) → Touches task q (set q task nice slice).1
  pub is_adopted : (q : State) (task : ℕ) → Touches task q (adopted q task)
  pub dozes : (q : State) (task : ℕ) → Touches task q (doze q task)
  pub wakes : (q : State) (task : ℕ) → Touches task q (wake q task).1
  pub one_then_another : (task : ℕ) (p q r : State) → Touches task p q → Touches task q r → Touches task p r

-- a task that doesn't count, and isn't the one that stays, may be touched
abbrev pub OthersMayBeTouched : Type 0
OthersMayBeTouched =
    (w : Watch) (q r : State) (task : ℕ) → w.counts task ≡ false → (task ≡ w.stays → ⊥) → Touches task q r → IsChange w q r

-- ---- tasks that count
-- whatever becomes of the queue so puts no task that counts past where one of them stood
abbrev pub PutsNonePast : Watch → State → State → Type 0
PutsNonePast w q r = (limit : ℤ) → NoneStandsPast w limit q → NoneStandsPast w limit r

-- a sleeping task dozes: it has its level, a place and no debt, and it is neither runnable nor does it run
pub record IsDozing (w : Watch) (q : State) (task : ℕ) (s : Sleeper) : Type 0 where
  pub level : s.nice ≡ w.nice_of task
  pub place : ℤ
  pub kept : get q.places task ≡ Some place
  pub no_debt : pos 0 ≤ℤ s.lag
  pub not_runnable : get q.runnable task ≡ None
  pub not_running : q.running ≡ Some task → ⊥

abbrev pub DozesIfItCounts : Watch → State → ℕ → Type 0
DozesIfItCounts w q task = (s : Sleeper) → w.counts task ≡ true → get q.asleep task ≡ Some s → IsDozing w q task s

-- in every queue those that sleep are neither runnable nor do they run
pub record IsAtRest (q : State) (task : ℕ) : Type 0 where
  pub not_runnable : get q.runnable task ≡ None
  pub not_running : q.running ≡ Some task → ⊥

abbrev pub SleepersAreAtRest : Type 0
SleepersAreAtRest = (q : State) (task : ℕ) (s : Sleeper) → IsSound q → get q.asleep task ≡ Some s → IsAtRest q task

-- a doze, a wake of one that dozes, a yield, another slice, a stop and a rebase
pub record CallsAreChanges : Type 0 where
  pub dozes : (w : Watch) (q : State) (task : ℕ) → (task ≡ w.stays → ⊥) → IsChange w q (doze q task)
  pub wakes : (w : Watch) (q : State) (task : ℕ) → (task ≡ w.stays → ⊥) → DozesIfItCounts w q task → IsChange w q (wake q task).1
  pub yields : (w : Watch) (q : State) → IsChange w q (yield_now q).1
  pub slices : (w : Watch) (q : State) (task slice : ℕ) → IsChange w q (set_slice q task slice)
  pub stops : (w : Watch) (q : State) → IsChange w q (nobody_runs q)
  pub rebases : (w : Watch) (q : State) → IsChange w q (rebase q).1

-- nor do they put any task past where one stood; of a wake that holds while all runnable tasks count
pub record CallsPutNonePast : Type 0 where
  pub others : (w : Watch) (q r : State) (task : ℕ) → w.counts task ≡ false → Touches task q r → PutsNonePast w q r
  pub dozes : (w : Watch) (q : State) (task : ℕ) → PutsNonePast w q (doze q task)
  pub wakes : (w : Watch) (q : State) (task : ℕ) → is_some (get q.runnable w.stays) ≡ true → AllCount w q.runnable
      → DozesIfItCounts w q task → PutsNonePast w q (wake q task).1
  pub yields : (w : Watch) (q : State) → PutsNonePast w q (yield_now q).1
  pub slices : (w : Watch) (q : State) (task slice : ℕ) → PutsNonePast w q (set_slice q task slice)
  pub stops : (w : Watch) (q : State) → PutsNonePast w q (nobody_runs q)
  pub rebases : (w : Watch) (q : State) → PutsNonePast w q (rebase q).1

-- ---- what a doze has of a sleep
-- but for its place, a doze of a task that owes nothing leaves the queue as a sleep does, and a wake of one that has no place puts it at its
-- placement
pub record DozesAreSleeps : Type 0 where
  pub dozes : (q : State) (task : ℕ) (p : Contents) → carried_running q task ≡ Some p → pos 0 ≤ℤ p.lag
      → doze q task ≡ record (put_asleep (leave_running q task) p) { places = insert q.places task (p.start +ℤ q.shift) }
  pub runs_on : (q : State) (task : ℕ) → carried_running q task ≡ None → doze q task ≡ q
  pub wakes : (q : State) (task : ℕ) (s : Sleeper) → get q.asleep task ≡ Some s → get q.places task ≡ None
      → wake q task ≡ wake_to q task (put q task s)
  pub is_awake : (q : State) (task : ℕ) → get q.asleep task ≡ None → wake q task ≡ (Awake, q)
