-- What contracts see of tasks that come and go.
use Rattle.std.specs.Prelude.{◌≡◌, ℕ, ℤ, ◌<◌, ◌≤◌, ◌++◌, ◌⊎◌, Bool, true, false, List, [], ◌∷◌, All, length, map, slice_index_or, ◌↔◌, IsTrue}
use mathlib.Core.List.{IsPrefix}
use Rattle.eevdf_ops.specs.{Machine.queue_at, Setup.Setup, Setup.homes_of, Setup.is_at_home}
use Rattle.eevdf_ops.specs.{declared.deeds.Answer.Answer, declared.deeds.Line.Line}
use Rattle.eevdf_ops.specs.declared.deeds.Answer.TheVariants.{Awake, Begun, Picked, Woken}
use Rattle.eevdf_ops.specs.declared.deeds.Deed.TheVariants as deed
use Rattle.eevdf_fleet.specs.{Drains.IsPickedAnew, Endless.AreListed, Endless.HasDone, Endless.HasDrained, Endless.HasSeen, Endless.Seat, Endless.told_by}
use Rattle.eevdf_fleet.specs.{declared.listed_drains.ListedDrain.ListedDrain, declared.wake_list.DrainedWake.DrainedWake}
use Rattle.eevdf_free_tasks.specs.Parts.{HasGiven, HasNone, HasTaken, IsRefused, Part}

-- a number is given back to a part, or refused by it, which then stays as it is
abbrev pub IsBack : ℕ → Part → Part → Type 0
IsBack task before after = HasGiven task before after ⊎ (IsRefused task before × (after ≡ before))

-- a seat has got these lines, one after the other, and no others
pub record HasLines (s : Setup) (lines : List Line) (before after : Seat) : Type 0 where
  pub cpu : after.cpu ≡ before.cpu
  pub log : after.log ≡ before.log ++ lines
  pub seen : IsPrefix before.seen after.seen
  pub posted : after.posted ≡ before.posted
  pub free : after.free ≡ before.free
  pub has_seen : HasSeen s before → HasSeen s after

-- a number that was ended, with the answer, and the line of that
pub record Ending : Type 0 where
  pub task : ℕ
  pub answer : Answer

abbrev pub ending_line : ℕ → Ending → Line
ending_line cpu e = record { deed = deed.End cpu e.task; answer = e.answer }

-- a number is ended by a seat
abbrev pub HasEnded : Setup → ℕ → Seat → Seat → Type 0
HasEnded s task before after = (answer : Answer) × HasDone s (deed.End before.cpu task) answer before after

-- a wake behind the first so many of a list woke this number
pub record HasWoken (first : ℕ) (wakes : List DrainedWake) (task : ℕ) : Type 0 where
  pub place : ℕ
  pub wake : DrainedWake
  pub behind : first ≤ place
  pub within : place < length wakes
  pub there : slice_index_or wakes place wake ≡ wake
  pub task_is : wake.task ≡ task
  pub woken : wake.answer ≡ Woken

abbrev pub is_some_ended : List Ending → Bool
is_some_ended [] = false
is_some_ended (e ∷ es) = true

-- a seat has ended some of the numbers that woke, or none, and done nothing else
pub record HasEndedWoken (s : Setup) (first : ℕ) (wakes : List DrainedWake) (ended : Bool) (before after : Seat) : Type 0 where
  pub endings : List Ending
  pub lines : HasLines s (map (ending_line before.cpu) endings) before after
  pub woken : All (λ (e : Ending). HasWoken first wakes e.task) endings
  pub ended_is : ended ≡ is_some_ended endings

-- a seat has drained, with the wakes pushed onto a list, and then ended some of the numbers that woke; `resched` is as after the wakes, and
-- true where something was ended
pub record HasDrainedTasks (s : Setup) (result : ListedDrain) (before after : Seat) (list list_after : List DrainedWake) : Type 0 where
  pub between : Seat
  pub drained : HasDrained s result.drained before between
  pub listed : AreListed before between list list_after
  pub ended : Bool
  pub strays : HasEndedWoken s (length list) list_after ended between after
  pub resched : IsTrue result.resched ↔ (IsPickedAnew (queue_at (told_by s between.seen) before.cpu) ⊎ IsTrue ended)

-- each of these was picked, and ended then
abbrev pub stray_lines : ℕ → List Ending → List Line
stray_lines cpu [] = []
stray_lines cpu (e ∷ es) = record { deed = deed.Pick cpu; answer = Picked e.task } ∷ ending_line cpu e ∷ stray_lines cpu es

-- the last deed of a seat's CPU is a pick with this answer, after picks of strays that were each ended then, and after no other deed
pub record HasPicked (s : Setup) (answer : Answer) (before after : Seat) : Type 0 where
  pub strays : List Ending
  pub between : Seat
  pub lines : HasLines s (stray_lines before.cpu strays) before between
  pub pick : HasDone s (deed.Pick before.cpu) answer between after

-- a task has begun under a number that was taken from a part
pub record HasBegun (s : Setup) (task : ℕ) (nice : ℤ) (slice : ℕ) (before after : Seat) (part part_after : Part) : Type 0 where
  pub taken : HasTaken task part part_after
  pub begun : HasDone s (deed.Begin before.cpu task nice slice) Begun before after

-- a number hasn't begun: its home is another CPU, or it doesn't sleep there
abbrev pub IsNotBegun : Setup → ℕ → ℤ → ℕ → Seat → Seat → Type 0
IsNotBegun s task nice slice before after =
    ((is_at_home (homes_of s) task before.cpu ≡ false) × (after ≡ before)) ⊎ HasDone s (deed.Begin before.cpu task nice slice) Awake before after

-- no task has begun under a number that was taken and given back: it hasn't begun, or it has, and its place wasn't empty
pub record HasGivenUp (s : Setup) (nice : ℤ) (slice : ℕ) (before after : Seat) (part part_after : Part) : Type 0 where
  pub task : ℕ
  pub between : Part
  pub taken : HasTaken task part between
  pub back : IsBack task between part_after
  pub seat : IsNotBegun s task nice slice before after ⊎ HasDone s (deed.Begin before.cpu task nice slice) Begun before after

-- none has: no number is free, or it was given up under the one that was taken
abbrev pub HasNotBegun : Setup → ℤ → ℕ → Seat → Seat → Part → Part → Type 0
HasNotBegun s nice slice before after part part_after =
    (HasNone part part_after × (after ≡ before)) ⊎ HasGivenUp s nice slice before after part part_after
