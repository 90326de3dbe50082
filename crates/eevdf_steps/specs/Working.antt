-- What a caller's work on the queues rests on.
use Rattle.std.specs.Prelude.{◌≡◌, ℕ, ◌<◌, true, length, IfSome, None}
use Rattle.eevdf_queue.specs.{State.Contents, Moves.sleeper_of, Placing.can_place}
use Rattle.eevdf_ops.specs.{declared.deeds.Op.Op, Machine.queue_at, Places.places_in}
use Rattle.eevdf_ops.specs.declared.deeds.Op.TheVariants as op
use Rattle.eevdf_steps.specs.{declared.micro.Micro.Micro, declared.micro.Micro.TheVariants.Detach}
use Rattle.eevdf_steps.specs.{declared.micro.Micro.TheVariants.Attach, Work.Work, Work.hand}

-- a caller has a queue, a hand and an answer; the task in its hand stands neither in its queue nor at its home
pub record IsWorking (w : Work) (caller at : ℕ) : Type 0 where
  pub queue : caller < length w.machine
  pub home : at < length w.machine
  pub holds : caller < length w.hands
  pub keeps : caller < length w.answers
  pub nowhere : IfSome (hand w caller) (λ (p : Contents). places_in (queue_at w.machine caller) p.task ≡ 0)
  pub at_home : IfSome (hand w caller) (λ (p : Contents). places_in (queue_at w.machine at) p.task ≡ 0)

-- the caller's queue has room for the task in its hand, where that is to be placed there
abbrev pub HasRoom : Work → ℕ → Op → Type 0
HasRoom w caller (op.Pull source) = IfSome (hand w caller) (λ (p : Contents). can_place (queue_at w.machine caller) (sleeper_of p) ≡ true)
HasRoom w caller _ = Unit {0}

-- the hand is empty before a detach, and what is in it can be put down at an attach
abbrev pub FitsHand : Work → ℕ → Op → Micro → Type 0
FitsHand w caller o Detach = hand w caller ≡ None
FitsHand w caller o Attach = HasRoom w caller o
FitsHand w caller o _ = Unit {0}
