-- What a caller has under way from the first change that an operation makes to its commit, seen from the machine
-- of the history.
use Rattle.std.specs.Prelude.{◌≡◌, ℕ, Bool, true, false, List, if◌then◌else◌, Option, Some, None, MatchOption}
use Rattle.eevdf_queue.specs.State.{State, Contents}
use Rattle.eevdf_ops.specs.declared.deeds.{Op.Op, Deed.Deed, Answer.Answer}
use Rattle.eevdf_ops.specs.declared.deeds.Deed.TheVariants as deed
use Rattle.eevdf_ops.specs.{Machine.Machine, Machine.queue_at, Whole.whole, Programs.deed_of}
use Rattle.eevdf_ops.specs.Parts.{Moved, after_leaving, given, giver, only_at, taken}
use Rattle.eevdf_steps.specs.declared.{micro.Micro.Micro, plan.Step.Step}
use Rattle.eevdf_steps.specs.declared.micro.Micro.TheVariants.{Attach, Commit}

-- a deed that is begun: all of it is done, or a task has left its queue and is still to be put down
pub record UnderWay : Type 0 where
  pub deed : Deed
  pub done : Bool

abbrev pub begun : Bool → Option Deed → Option UnderWay
begun done None = None
begun done (Some d) = Some (record { deed = d; done = done })

-- what is under way before a micro-step
abbrev pub under_way_before : ℕ → Op → Micro → Option UnderWay
under_way_before caller o Attach = begun false (deed_of caller o)
under_way_before caller o Commit = begun true (deed_of caller o)
under_way_before caller o _ = None

-- what a caller has under way, by its next step
abbrev pub under_way : ℕ → Option Step → Option UnderWay
under_way caller None = None
under_way caller (Some s) = under_way_before caller s.op s.micro

-- the task that leaves a queue, by the deed's answer and by what the queue has for it
abbrev pub taken_from_giver : Deed → Answer → Moved → Option Contents
taken_from_giver (deed.Sleep cpu task) answer moved = moved.contents
taken_from_giver (deed.Doze cpu task) answer moved = moved.contents
taken_from_giver (deed.End cpu task) answer moved = moved.contents
taken_from_giver (deed.Pull cpu source) answer moved = taken answer moved.contents
taken_from_giver _ answer moved = None

-- the same on a machine
abbrev pub leaves : List ℕ → Machine → Deed → Option Contents
leaves homes m d = taken_from_giver d (whole homes d m).0 (given d (queue_at m (giver d)))

-- a queue of the machine, as the caller that holds its lock has made it
abbrev pub queue_seen : List ℕ → Machine → Option UnderWay → ℕ → State
queue_seen homes m None c = queue_at m c
queue_seen homes m (Some u) c =
    if u.done then queue_at (whole homes u.deed m).1 c else only_at (giver u.deed) c (after_leaving (leaves homes m u.deed)) (queue_at m c)

-- the task in the caller's hand
abbrev pub hand_seen : List ℕ → Machine → Option UnderWay → Option Contents
hand_seen homes m None = None
hand_seen homes m (Some u) = if u.done then None else leaves homes m u.deed

-- the caller keeps the answer that the whole deed has
abbrev pub KeepsAnswer : List ℕ → Machine → Option UnderWay → Option Answer → Type 0
KeepsAnswer homes m u kept = MatchOption u (Unit {0}) (λ (v : UnderWay). kept ≡ Some (whole homes v.deed m).0)
