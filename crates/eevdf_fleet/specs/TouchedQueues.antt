-- The queues that an act touches, and that a line of a history tells of an act done on them.
use Rattle.std.specs.Prelude.{◌≡◌, ℕ, List, [], ◌∷◌}
use Rattle.eevdf_queue.specs.State.{State}
use Rattle.eevdf_ops.specs.{declared.acts.LocalAct.LocalAct, declared.acts.Transfer.Transfer, declared.deeds.Deed.Deed, declared.deeds.Line.Line}
use Rattle.eevdf_ops.specs.declared.acts.Act.TheVariants as act
use Rattle.eevdf_ops.specs.declared.deeds.Deed.TheVariants.{Wake}
use Rattle.eevdf_ops.specs.{Acts.act_of, LocalActs.local_done, Transfers.transferred}
use Rattle.eevdf_fleet.specs.declared.board.claims.{Claim.Claim, Claim.TheVariants.Queue, Said.Said}

-- a deed that isn't a wake
abbrev pub IsNoWake : Deed → Type 0
IsNoWake (Wake cpu task sender) = ⊥
IsNoWake other = Unit {0}

-- the act of a deed touches the queue of its CPU alone
abbrev pub IsLocal : List ℕ → Deed → LocalAct → Type 0
IsLocal homes deed a = act_of homes deed ≡ act.Local a

-- the act of a deed touches the queue of its CPU and that of this other one
abbrev pub IsAcross : List ℕ → Deed → ℕ → Transfer → Type 0
IsAcross homes deed other t = act_of homes deed ≡ act.Transfer other t

-- the deed of a line was done on the queue of a CPU, which is claimed as it was
pub record IsDoneFrom (homes : List ℕ) (claims : List Claim) (cpu : ℕ) (after : State) (line : Line) : Type 0 where
  pub by : LocalAct
  pub local : IsLocal homes line.deed by
  pub before : State
  pub claimed : claims ≡ Queue cpu before ∷ []
  pub answers : line.answer ≡ (local_done by before).0
  pub leaves : after ≡ (local_done by before).1

-- the same of the queues of two CPUs, which are told as they are now
pub record AreDoneFrom (homes : List ℕ) (claims : List Claim) (s : Said) : Type 0 where
  pub by : Transfer
  pub across : IsAcross homes s.line.deed s.second.cpu by
  pub before : State
  pub other_before : State
  pub claimed : claims ≡ Queue s.first.cpu before ∷ Queue s.second.cpu other_before ∷ []
  pub answers : s.line.answer ≡ (transferred by before other_before).0
  pub leaves : s.first.queue.value.state ≡ (transferred by before other_before).1.0
  pub other_leaves : s.second.queue.value.state ≡ (transferred by before other_before).1.1
