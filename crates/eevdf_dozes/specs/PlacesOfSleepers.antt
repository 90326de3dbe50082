-- A place is kept of tasks that sleep here alone.
use Rattle.std.specs.Prelude.{◌≡◌, ℕ, ℤ, Some, None}
use Rattle.std.specs.FinMap.{get}
use Rattle.eevdf_queue.specs.{declared.entry.Entry.Entry, declared.sleeper.Sleeper.Sleeper, State.State, State.Contents, Kept.IsSound, Kept.AreOfSleepers}
use Rattle.eevdf_queue.specs.{Leaving.leave, Leaving.leave_running, Leaving.leave_asleep, Leaving.carried_running, Leaving.nobody_runs}
use Rattle.eevdf_queue.specs.{Moves.admit, Moves.put_asleep, Placing.put, Pick.adopted, Yield.yield_now}
use Rattle.eevdf_queue.specs.{Renice.renice, SliceChange.set_slice, Attributes.set, Attributes.begin}
use Rattle.eevdf_queue.specs.{Doze.doze, Doze.put_dozing, Wake.wake, Rebase.rebase, declared.answers.WakeAnswer.TheVariants.Woken}
use Rattle.eevdf_dozes.specs.Stretches.{picked, ticked}

-- who has a place sleeps here, as in every queue
abbrev pub PlacesAreOfSleepers : State → Type 0
PlacesAreOfSleepers q = AreOfSleepers q.places q.asleep

-- where it was so before a call it is so afterwards
abbrev pub StaysSo : State → State → Type 0
StaysSo q r = PlacesAreOfSleepers q → PlacesAreOfSleepers r

pub record PlacesStayOfSleepers : Type 0 where
  pub picks : (q : State) → StaysSo q (picked q)
  pub ticks : (q : State) (ns : ℕ) → StaysSo q (ticked q ns)
  pub dozes : (q : State) (task : ℕ) → StaysSo q (doze q task)
  pub wakes : (q : State) (task : ℕ) → StaysSo q (wake q task).1
  pub leaves : (q : State) (task : ℕ) → StaysSo q (leave q task)
  pub leaves_running : (q : State) (task : ℕ) → StaysSo q (leave_running q task)
  pub leaves_asleep : (q : State) (task : ℕ) → StaysSo q (leave_asleep q task)
  pub falls_asleep : (q : State) (p : Contents) → StaysSo q (put_asleep q p)
  pub dozes_off : (q : State) (p : Contents) → StaysSo q (put_dozing q p)
  pub is_admitted : (q : State) (p : Contents) (r : State) → admit q p ≡ Some r → StaysSo q r
  pub joins : (q : State) (task : ℕ) (s : Sleeper) (r : State) → put q task s ≡ Some r → StaysSo q r
  pub begins : (q : State) (task : ℕ) (nice : ℤ) (slice : ℕ) → StaysSo q (begin q task nice slice)
  pub renices : (q : State) (task : ℕ) (nice : ℤ) → StaysSo q (renice q task nice).1
  pub is_set : (q : State) (task : ℕ) (nice : ℤ) (slice : ℕ) → StaysSo q (set q task nice slice).1
  pub slices : (q : State) (task slice : ℕ) → StaysSo q (set_slice q task slice)
  pub is_adopted : (q : State) (task : ℕ) → StaysSo q (adopted q task)
  pub yields : (q : State) → StaysSo q (yield_now q).1
  pub stops : (q : State) → StaysSo q (nobody_runs q)
  pub rebases : (q : State) → StaysSo q (rebase q).1

-- so a task has no place once it has left, has come, sleeps otherwise than by a doze, begins anew or has woken
pub record OnlyDozesLeavePlaces : Type 0 where
  pub leaves : (q : State) (task : ℕ) (e : Entry) → IsSound q → PlacesAreOfSleepers q → get q.runnable task ≡ Some e
      → get (leave q task).places task ≡ None
  pub leaves_asleep : (q : State) (task : ℕ) → PlacesAreOfSleepers q → get (leave_asleep q task).places task ≡ None
  pub sleeps : (q : State) (task : ℕ) (p : Contents) → IsSound q → PlacesAreOfSleepers q → carried_running q task ≡ Some p
      → get (put_asleep (leave_running q task) p).places task ≡ None
  pub falls_asleep : (q : State) (p : Contents) → PlacesAreOfSleepers q → get q.asleep p.task ≡ None → get (put_asleep q p).places p.task ≡ None
  pub is_admitted : (q : State) (p : Contents) (r : State) → PlacesAreOfSleepers q → get q.asleep p.task ≡ None → admit q p ≡ Some r
      → get r.places p.task ≡ None
  pub joins : (q : State) (task : ℕ) (s : Sleeper) (r : State) → PlacesAreOfSleepers q → get q.asleep task ≡ None → put q task s ≡ Some r
      → get r.places task ≡ None
  pub begins : (q : State) (task : ℕ) (nice : ℤ) (slice : ℕ) → PlacesAreOfSleepers q → get (begin q task nice slice).places task ≡ None
  pub wakes : (q : State) (task : ℕ) → PlacesAreOfSleepers q → (wake q task).0 ≡ Woken → get (wake q task).1.places task ≡ None
