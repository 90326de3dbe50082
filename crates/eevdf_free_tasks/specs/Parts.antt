-- The parts of the free numbers, one for each CPU, and what goes from one part to another.
use Rattle.std.specs.Prelude.{◌≡◌, ◌≢◌, ◌<◌, ◌≤◌, ◌+◌, ◌++◌, ◌⊎◌, ℕ, true, List, [], ◌∷◌, length, slice_index_or, slice_set}
use Rattle.std.specs.List.{All}
use Rattle.eevdf_ops.specs.Setup.{Setup, homes_of, home_of, is_task}
use Rattle.eevdf_free_tasks.specs.Slots.{slot_of, first_slots, given_back, with_taken, NoneFree}
use Rattle.eevdf_free_tasks.specs.declared.slot.Slot.{Slot}
use Rattle.eevdf_free_tasks.specs.declared.slot.Slot.TheVariants.{Free, Taken}

-- the part of a CPU: the homes of all numbers, its own numbers, what it has sent to each home, how many numbers more certainly fit into the
-- ring to each home, what it has received from each sender, and what it has seen in the ring from each sender and not received
pub record Part : Type 0 where
  pub cpu : ℕ
  pub homes : List ℕ
  pub own : List Slot
  pub sent : List (List ℕ)
  pub free : List ℕ
  pub received : List (List ℕ)
  pub waiting : List (List ℕ)

-- a home's numbers after several are given back, one after the other
abbrev pub all_given_back : List Slot → List ℕ → List Slot
all_given_back slots [] = slots
all_given_back slots (task ∷ tasks) = all_given_back (given_back slots task) tasks

-- numbers more were received from one sender, and each was given back
pub record HasCome (before after : List ℕ) (own own_after : List Slot) : Type 0 where
  pub came : List ℕ
  pub received : after ≡ before ++ came
  pub own_is : own_after ≡ all_given_back own came

-- each of the first lists goes on with one of the others
abbrev pub appended : List (List ℕ) → List (List ℕ) → List (List ℕ)
appended lists [] = lists
appended [] (more ∷ mores) = []
appended (list ∷ lists) (more ∷ mores) = (list ++ more) ∷ appended lists mores

abbrev pub concatenated : List (List ℕ) → List ℕ
concatenated [] = []
concatenated (list ∷ lists) = list ++ concatenated lists

-- numbers more were received from each of the first so many senders, one sender after the other, and each was given back
pub record HaveCome (senders : ℕ) (before after : List (List ℕ)) (own own_after : List Slot) : Type 0 where
  pub came : List (List ℕ)
  pub each : length came ≡ senders
  pub received : after ≡ appended before came
  pub own_is : own_after ≡ all_given_back own (concatenated came)

-- each of these lists is empty
abbrev pub AreEmpty : List (List ℕ) → Type 0
AreEmpty lists = (place : ℕ) → slice_index_or lists place [] ≡ []

-- a number is taken from a part: at once where one is free, and else after all that was seen of what came back was given back
pub record HasTaken (task : ℕ) (before after : Part) : Type 0 where
  pub senders : ℕ
  pub looked : ((senders ≡ 0) × (after.waiting ≡ before.waiting)) ⊎ (NoneFree before.own × (senders ≡ length before.received) × AreEmpty after.waiting)
  pub now : List Slot
  pub come : HaveCome senders before.received after.received before.own now
  pub was_free : slot_of now task ≡ Free
  pub after_is : after ≡ record before { own = with_taken now task; received = after.received; waiting = after.waiting }

-- all that was seen of what came back was given back, and no number is free
pub record HasNone (before after : Part) : Type 0 where
  pub come : HaveCome (length before.received) before.received after.received before.own after.own
  pub emptied : AreEmpty after.waiting
  pub none : NoneFree after.own
  pub after_is : after ≡ record before { own = after.own; received = after.received; waiting = after.waiting }

abbrev pub sent_to : Part → ℕ → List ℕ
sent_to part home = slice_index_or part.sent home []

abbrev pub free_to : Part → ℕ → ℕ
free_to part home = slice_index_or part.free home 0

-- a number is sent to its home, which fills one place in the ring there
pub record HasSent (home task : ℕ) (before after : Part) : Type 0 where
  pub sent : after ≡ record before { sent = slice_set before.sent home (sent_to before home ++ task ∷ []); free = slice_set before.free home (free_to after home) }
  pub free : free_to before home ≤ free_to after home + 1

-- a number is given back at its home, or sent there
pub record HasGiven (task : ℕ) (before after : Part) : Type 0 where
  pub task_is : is_task before.homes task ≡ true
  pub own : home_of before.homes task ≡ before.cpu → (slot_of before.own task ≡ Taken) × (after ≡ record before { own = given_back before.own task })
  pub away : home_of before.homes task ≢ before.cpu → HasSent (home_of before.homes task) task before after

-- a number is refused: the machine hasn't its task, or it is one of the part's own that wasn't taken, or the ring to its home is full
pub record IsRefused (task : ℕ) (part : Part) : Type 0 where
  pub own : is_task part.homes task ≡ true → home_of part.homes task ≡ part.cpu → slot_of part.own task ≢ Taken
  pub away : is_task part.homes task ≡ true → home_of part.homes task ≢ part.cpu → free_to part (home_of part.homes task) ≡ 0

-- the part of a CPU that has neither sent nor received
pub record IsFresh (setup : Setup) (cpu : ℕ) (part : Part) : Type 0 where
  pub cpu_is : part.cpu ≡ cpu
  pub homes_are : part.homes ≡ homes_of setup
  pub own_is : part.own ≡ first_slots cpu setup
  pub none_sent : All (λ l. l ≡ []) part.sent
  pub none_received : All (λ l. l ≡ []) part.received
  pub none_waits : AreEmpty part.waiting

-- the parts of so many CPUs, in order
pub record AreFresh (setup : Setup) (cpus : ℕ) (parts : List Part) : Type 0 where
  pub count : length parts ≡ cpus
  pub each : (cpu : ℕ) (part : Part) → cpu < cpus → slice_index_or parts cpu part ≡ part → IsFresh setup cpu part
