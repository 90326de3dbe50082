-- What comes of one queue of the work, as it is read and written.
use Rattle.std.proofs.Common.{◌≡◌, ℕ, ◌<◌, List, length, get_or, set, ap, ◌∙◌, arith}
use Rattle.std.specs.Prelude.{Option}
use Rattle.eevdf_queue.specs.State.{State, Contents, View}
use Rattle.eevdf_ops.specs.{declared.deeds.Answer.Answer}
use Rattle.eevdf_ops.specs.{Machine.Machine, Machine.queue_at, Outcome.machine_of}
use Rattle.eevdf_ops.proofs.{Machines.length-machine_of, Machines.queue_state, Machines.queue_written}
use Rattle.eevdf_steps.specs.Work.{Work, with_queue}

-- the queues of the work, and one of them as it is read
module _ (queues : List View) {hands : List (Option Contents)} {answers : List (Option Answer)} {w : Work} {cpu k : ℕ} {read : View}
    (view : record { machine = machine_of queues; hands = hands; answers = answers } ≡ w) (below : cpu < length w.machine) (at : k ≡ cpu) (is : read ≡ get_or queues k read) where
  machine_is : machine_of queues ≡ w.machine
  machine_is = ap (λ (v : Work). v.machine) view

  within : cpu < length queues
  within = omega (arith, below, length-machine_of queues, ap (λ (m : Machine). length m) machine_is)

  pub read-queue : read.state ≡ queue_at w.machine cpu
  read-queue = queue_state queues cpu k read is at (omega (arith, within, at)) ∙ ap (λ (m : Machine). queue_at m cpu) machine_is

  pub written-queue : (now : View) (f : State → State) → now.state ≡ f read.state
      → record { machine = machine_of (set queues k now); hands = hands; answers = answers } ≡ with_queue w cpu (f (queue_at w.machine cpu))
  written-queue now f e =
      ap (λ (m : Machine). record { machine = m; hands = hands; answers = answers }) (queue_written queues cpu k read now f at within (e ∙ ap (λ (v : View). f v.state) is))
      ∙ ap (λ (v : Work). with_queue v cpu (f (queue_at v.machine cpu))) view
