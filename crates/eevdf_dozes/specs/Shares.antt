-- What these laws come to in time: the nanoseconds that each task ran, and what rounding took from its charges.
use Rattle.std.specs.Prelude.{◌≡◌, ℕ, ◌+◌, ◌*◌, ◌≤◌, ℤ, ◌+ℤ◌, ◌≤ℤ◌, ◌==◌, if◌then◌else◌, true, List, [], ◌∷◌, length, Some}
use Rattle.std.specs.{FinMap.get, List.AllByRecursion}
use Rattle.eevdf_weight.specs.Weight.{weight_of}
use Rattle.eevdf_queue.specs.{declared.entry.Entry.Entry, State.State, Moves.request_of, Tick.tick}
use Rattle.eevdf_fairness.specs.{Healing.HasNotYielded, Share.most_lost, Tallies.if_charged, Tallies.if_charged_to, Tallies.remainder_of}
use Rattle.eevdf_dozes.specs.Places.{place_of}
use Rattle.eevdf_dozes.specs.Stretches.{Event, Picks, Ticks, Becomes, Watch, BeginsWithPick, picked, ticked}
use Rattle.eevdf_dozes.specs.Gains.{StaysWith, IsLevel, sum_weights}

-- how many nanoseconds of these events a task was charged for
abbrev pub time_of : ℕ → State → List Event → ℕ
time_of task q [] = 0
time_of task q (Picks ∷ events) = time_of task (picked q) events
time_of task q (Ticks ns ∷ events) = if_charged_to task (tick q ns).0 ns + time_of task (ticked q ns) events
time_of task q (Becomes r ∷ events) = time_of task r events

-- what rounding took from its charges, in weight times virtual time
abbrev pub lost_by : ℕ → State → List Event → ℕ
lost_by task q [] = 0
lost_by task q (Picks ∷ events) = lost_by task (picked q) events
lost_by task q (Ticks ns ∷ events) =
    if_charged_to task (tick q ns).0 (remainder_of (get q.runnable task) ns) + lost_by task (ticked q ns) events
lost_by task q (Becomes r ∷ events) = lost_by task r events

abbrev pub sum_times : State → List Event → List ℕ → ℕ
sum_times q events [] = 0
sum_times q events (t ∷ ts) = time_of t q events + sum_times q events ts

abbrev pub sum_lost : State → List Event → List ℕ → ℕ
sum_lost q events [] = 0
sum_lost q events (t ∷ ts) = lost_by t q events + sum_lost q events ts

-- how many nanoseconds of them were charged to anyone
abbrev pub cpu_time : State → List Event → ℕ
cpu_time q [] = 0
cpu_time q (Picks ∷ events) = cpu_time (picked q) events
cpu_time q (Ticks ns ∷ events) = if_charged (tick q ns).0 ns + cpu_time (ticked q ns) events
cpu_time q (Becomes r ∷ events) = cpu_time r events

abbrev pub times_in : ℕ → List ℕ → ℕ
times_in task [] = 0
times_in task (t ∷ ts) = (if task == t then 1 else 0) + times_in task ts

-- whoever runs at a tick stands once in the list
abbrev pub OnlyTheseRun : List ℕ → State → List Event → Type 0
OnlyTheseRun ts q [] = Unit {0}
OnlyTheseRun ts q (Picks ∷ events) = OnlyTheseRun ts (picked q) events
OnlyTheseRun ts q (Ticks ns ∷ events) =
    ((t : ℕ) → q.running ≡ Some t → times_in t ts ≡ 1) × OnlyTheseRun ts (ticked q ns) events
OnlyTheseRun ts q (Becomes r ∷ events) = OnlyTheseRun ts r events

-- then these run together for as long as the CPU does
abbrev pub TheyHaveTheCpu : Type 0
TheyHaveTheCpu =
    (q : State) (events : List Event) (ts : List ℕ) → OnlyTheseRun ts q events → sum_times q events ts ≡ cpu_time q events

-- no tick of them is shorter than this
abbrev pub HaveNoShorterTicks : ℕ → List Event → Type 0
HaveNoShorterTicks least [] = Unit {0}
HaveNoShorterTicks least (Picks ∷ events) = HaveNoShorterTicks least events
HaveNoShorterTicks least (Ticks ns ∷ events) = (least ≤ ns) × HaveNoShorterTicks least events
HaveNoShorterTicks least (Becomes r ∷ events) = HaveNoShorterTicks least events

abbrev pub LosesNoMore : ℕ → Watch → ℕ → Type 0
LosesNoMore most w task = most_lost (weight_of (w.nice_of task)) ≤ most

-- ---- one that stays, beside others
-- Let the task of weight `w` and the others, of weight `others` in all, run for `T` ns together, and let `R` be what rounding took from all
-- their charges; let the task run for `s` of these, and `r` be what rounding took from its charges. But for rounding it runs for its share
-- of `T`, less `lack / (1024 * (w + others))`
pub record HasShare (w others lack T R s r : ℕ) : Type 0 where
  pub at_least : w * (1024 * T) + (w + others) * r ≤ (w + others) * (1024 * s) + w * R + lack

-- the same in time alone, where no tick is shorter than `least` ns, and rounding takes no more than `most` from a charge
pub record HasShareOfTime (w others lack least most T s : ℕ) : Type 0 where
  pub at_least : w * (1024 * least * T) ≤ (w + others) * (1024 * least * s) + w * (most * T) + least * lack

-- its weight times what it can lack: its request, but for its share of that, and a turn of each of the others
abbrev pub lack_of : Watch → Entry → List ℕ → ℕ
lack_of w f ts = weight_of (w.nice_of w.stays) * (sum_weights w ts * request_of f.nice f.slice + length ts * (1024 * w.turn))

pub record StaysServed (w : Watch) (q : State) (events : List Event) (f : Entry) (ts : List ℕ) : Type 0 where
  pub share : HasShare (weight_of (w.nice_of w.stays)) (sum_weights w ts) (lack_of w f ts) (sum_times q events (w.stays ∷ ts))
      (sum_lost q events (w.stays ∷ ts)) (time_of w.stays q events) (lost_by w.stays q events)
  pub in_time : (least most : ℕ) → HaveNoShorterTicks least events → AllByRecursion (LosesNoMore most w) (w.stays ∷ ts)
      → HasShareOfTime (weight_of (w.nice_of w.stays)) (sum_weights w ts) (lack_of w f ts) least most (sum_times q events (w.stays ∷ ts))
      (time_of w.stays q events)

-- one that stays, and keeps its nice level, has its share beside others, whatever these doze, where none of them was behind it at first
abbrev pub WhoStaysHasItsShare : Type 0
WhoStaysHasItsShare =
    (w : Watch) (q : State) (events : List Event) (e f : Entry) → BeginsWithPick w q events → StaysWith w q events e f
    → HasNotYielded f
    → w.counts w.stays ≡ true → (ts : List ℕ) → AllByRecursion (IsLevel w q e) ts → StaysServed w (picked q) events f ts

-- ---- one that counts, beside tasks that stay
-- such a task: it has this entry in the end, no yield has made its request longer, and the other wasn't behind it at first
pub record IsBeside (w : Watch) (q : State) (events : List Event) (place : ℤ) (task : ℕ × Entry) : Type 0 where
  pub begins : BeginsWithPick (record w { stays = task.0 }) q events
  pub entry : Entry
  pub stays : StaysWith (record w { stays = task.0 }) q events entry task.1
  pub short : HasNotYielded task.1
  pub counts : w.counts task.0 ≡ true
  pub not_behind : (entry.v +ℤ q.shift) ≤ℤ place

abbrev pub numbers : List (ℕ × Entry) → List ℕ
numbers [] = []
numbers (t ∷ ts) = t.0 ∷ numbers ts

abbrev pub sum_slices : List (ℕ × Entry) → ℕ
sum_slices [] = 0
sum_slices (t ∷ ts) = t.1.slice + sum_slices ts

-- Let the task, of weight `w`, and the tasks that stay, of weight `others` in all, run for `T` ns together, of which it runs `s`; let `r`
-- be what rounding took from its charges, and `R` what it took from those of the others. But for rounding it runs for no more than its
-- share of `T` and of the slices of those that stay, and of a turn what is theirs
pub record HasNoMoreThanShare (w others slices turn T R s r : ℕ) : Type 0 where
  pub at_most : (w + others) * (1024 * s) + w * R ≤ w * (1024 * (T + slices)) + others * (1024 * turn) + others * r

-- the same in time alone, where no tick is shorter than `least` ns, and rounding takes no more than `most` from a charge of the task
pub record HasNoMoreOfTime (w others slices turn least most T s : ℕ) : Type 0 where
  pub at_most : (w + others) * (1024 * least * s)
      ≤ w * (1024 * least * (T + slices)) + others * (1024 * least * turn) + others * (most * s)

pub record SleepsServed (w : Watch) (q : State) (events : List Event) (t : ℕ) (ts : List (ℕ × Entry)) : Type 0 where
  pub share : HasNoMoreThanShare (weight_of (w.nice_of t)) (sum_weights w (numbers ts)) (sum_slices ts) w.turn
      (sum_times q events (t ∷ numbers ts)) (sum_lost q events (numbers ts)) (time_of t q events) (lost_by t q events)
  pub in_time : (least most : ℕ) → HaveNoShorterTicks least events → LosesNoMore most w t
      → HasNoMoreOfTime (weight_of (w.nice_of t)) (sum_weights w (numbers ts)) (sum_slices ts) w.turn least most
      (sum_times q events (t ∷ numbers ts)) (time_of t q events)

abbrev pub WhoSleepsHasNoMore : Type 0
WhoSleepsHasNoMore =
    (w : Watch) (q : State) (events : List Event) (t : ℕ) (place : ℤ) (ts : List (ℕ × Entry)) → w.counts t ≡ true
    → place_of q t ≡ Some place → AllByRecursion (IsBeside w q events place) ts → SleepsServed w (picked q) events t ts
