-- What the steps of an order come to, one after the other.
use Rattle.std.specs.Prelude.{◌≡◌, ℕ, ◌++◌, List, Option, Some, None, MatchOption, Result, MatchResult}
use Rattle.eevdf_ops.specs.{Histories.IsOneThread, Outcome.Outcome, Programs.deeds_of}
use Rattle.eevdf_steps.specs.declared.{play_fault.PlayFault.PlayFault}
use Rattle.eevdf_steps.specs.{Orders.order_fault, MicroState.micro_after, Plan.IsSound, Players.Player, Players.unfinished}
use Rattle.eevdf_steps.specs.Plays.{IsOutcome}
use Rattle.eevdf_steps.specs.Commits as deeds

-- the fault of an order that a player is to play
abbrev pub fault_of : Player → List ℕ → Option PlayFault
fault_of a order = order_fault a.plan a.state.progress.counters 0 order

-- the player after the steps of an order
abbrev pub player_after : Player → List ℕ → Player
player_after a order = record a { state = micro_after a.plan a.state order }

-- an order was played to its end: none of its places is faulty, and every caller is done
pub record HasPlayed (a : Player) (order : List ℕ) (b : Player) : Type 0 where
  pub fault : fault_of a order ≡ None
  pub done : unfinished b ≡ None
  pub state : b ≡ player_after a order
  pub commits : deeds_of b.state.lines ≡ deeds_of a.state.lines ++ deeds.commits a.plan a.state.progress order

-- an order is played up to its first faulty place, or to its end
abbrev pub IsPlayed : Player → List ℕ → Option PlayFault → Player → Type 0
IsPlayed a order result b =
    MatchOption result (HasPlayed a order b) (λ f. fault_of a order ≡ Some f)

-- an order was played to its end, which is this outcome
pub record Ends (a : Player) (order : List ℕ) (o : Outcome) : Type 0 where
  pub fault : fault_of a order ≡ None
  pub sound : IsSound a.plan
  pub outcome : IsOutcome (player_after a order) o
  pub commits : deeds_of o.lines ≡ deeds_of a.state.lines ++ deeds.commits a.plan a.state.progress order
  pub one_thread : IsOneThread a.plan.homes a.plan.start (deeds_of o.lines) o

-- the outcome of an order that is played to its end, or its fault
abbrev pub IsPlayedOut : Player → List ℕ → Result Outcome PlayFault → Type 0
IsPlayedOut a order result = MatchResult result (Ends a order) (λ f. fault_of a order ≡ Some f)
