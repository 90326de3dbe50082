-- Laws of the deeds by parts.
use Rattle.std.specs.Prelude.{◌≡◌, ℕ, ◌<◌, true, false, ◌&&◌, List, length}
use Rattle.eevdf_ops.specs.{declared.deeds.Deed.Deed, declared.deeds.Deed.TheVariants.Wake, declared.deeds.Answer.Answer}
use Rattle.eevdf_ops.specs.{Setup.is_allowed, Machine.Machine, Machine.queue_at, Places.AreCpus, Whole.whole}
use Rattle.eevdf_ops.specs.Parts.{giver, touches, Moved, given, Agrees, local_after}

-- a deed leaves each queue as it is that it doesn't touch
abbrev pub OthersStay : Type 0
OthersStay =
    (homes : List ℕ) (deed : Deed) (m : Machine) (c : ℕ) → touches homes deed c ≡ false →
    queue_at (whole homes deed m).1 c ≡ queue_at m c

-- a deed that names CPUs of the machine
pub record Fits (homes : List ℕ) (deed : Deed) (m : Machine) : Type 0 where
  pub allowed : is_allowed (length m) homes deed ≡ true
  pub cpus : AreCpus (length m) homes

-- what a deed comes to: this answer, and at each CPU the queue that this gives
pub record ComesTo (homes : List ℕ) (deed : Deed) (m : Machine) (answer : Answer) (moved : Moved) : Type 0 where
  pub answers : (whole homes deed m).0 ≡ answer
  pub leaves : (c : ℕ) → queue_at (whole homes deed m).1 c ≡ local_after homes deed c (queue_at m c) answer moved

-- where each queue that is touched agrees with an answer and what moved, the deed comes to that
abbrev pub PartsMakeTheWhole : Type 0
PartsMakeTheWhole =
    (homes : List ℕ) (deed : Deed) (m : Machine) (answer : Answer) (moved : Moved) → Fits homes deed m →
    ((c : ℕ) → touches homes deed c ≡ true → Agrees deed c (queue_at m c) answer moved) →
    ComesTo homes deed m answer moved

-- and with what the deed answers, and the giver has, each queue does agree
abbrev pub TheWholeHasParts : Type 0
TheWholeHasParts =
    (homes : List ℕ) (deed : Deed) (m : Machine) (c : ℕ) →
    Agrees deed c (queue_at m c) (whole homes deed m).0 (given deed (queue_at m (giver deed)))

-- two machines agree on the queues that a deed touches
abbrev pub AgreeWhereTouched : List ℕ → Deed → Machine → Machine → Type 0
AgreeWhereTouched homes deed m n = (c : ℕ) → touches homes deed c ≡ true → queue_at m c ≡ queue_at n c

-- a deed is answered alike on two machines, and leaves alike the queues that it touches
pub record IsAlike (homes : List ℕ) (deed : Deed) (m n : Machine) : Type 0 where
  pub answers : (whole homes deed m).0 ≡ (whole homes deed n).0
  pub leaves : AgreeWhereTouched homes deed (whole homes deed m).1 (whole homes deed n).1

-- a deed depends on the queues alone that it touches
abbrev pub TouchedDecide : Type 0
TouchedDecide =
    (homes : List ℕ) (deed : Deed) (m n : Machine) → Fits homes deed m → Fits homes deed n →
    AgreeWhereTouched homes deed m n → IsAlike homes deed m n

-- no queue is touched by both
abbrev pub TouchNothingCommon : List ℕ → Deed → Deed → Type 0
TouchNothingCommon homes a b = (c : ℕ) → touches homes a c && touches homes b c ≡ false

-- two deeds done one after the other
pub record Commute (homes : List ℕ) (a b : Deed) (m : Machine) : Type 0 where
  pub first : (whole homes a m).0 ≡ (whole homes a (whole homes b m).1).0
  pub second : (whole homes b (whole homes a m).1).0 ≡ (whole homes b m).0
  pub machine : (whole homes b (whole homes a m).1).1 ≡ (whole homes a (whole homes b m).1).1

-- deeds that touch no common queue are answered alike, and leave the same machine, in either order
abbrev pub ApartDeedsCommute : Type 0
ApartDeedsCommute =
    (homes : List ℕ) (a b : Deed) (m : Machine) → Fits homes a m → Fits homes b m → TouchNothingCommon homes a b →
    Commute homes a b m

-- a wake depends on the queue of its CPU alone, and changes it alone
pub record WakesThere (homes : List ℕ) (cpu task sender : ℕ) (m n : Machine) : Type 0 where
  pub answer : (whole homes (Wake cpu task sender) m).0 ≡ (whole homes (Wake cpu task sender) n).0
  pub there : queue_at (whole homes (Wake cpu task sender) m).1 cpu ≡ queue_at (whole homes (Wake cpu task sender) n).1 cpu
  pub others : (c : ℕ) → (c ≡ cpu → ⊥) → queue_at (whole homes (Wake cpu task sender) m).1 c ≡ queue_at m c

abbrev pub WakeIsLocal : Type 0
WakeIsLocal =
    (homes : List ℕ) (cpu task sender : ℕ) (m n : Machine) → cpu < length m → cpu < length n →
    queue_at m cpu ≡ queue_at n cpu → WakesThere homes cpu task sender m n
