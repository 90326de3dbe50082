-- What a whole order comes to.
use Rattle.std.specs.Prelude.{◌≡◌, ◌⊎◌, ℕ, ◌*◌, ◌<◌, nat_lt, is_some, true, false, List, [], length, slice_index_or, Some, None, Result, MatchResult}
use Rattle.eevdf_ops.specs.{Outcome.Outcome, Outcome.machine_of, Setup.Setup}
use Rattle.eevdf_steps.specs.declared.{play_fault.PlayFault.PlayFault, play_fault.PlayFault.TheVariants.Memory}
use Rattle.eevdf_steps.specs.{Plan.callers, Plan.pair, Plan.plan_of, Orders.most_places, Orders.play_fault, Requests.left}
use Rattle.eevdf_steps.specs.{MicroState.micro, Players.Player, Players.unfinished}

-- the lines and the queues of a player, and the requests that were posted and not taken
pub record IsOutcome (a : Player) (o : Outcome) : Type 0 where
  pub lines : o.lines ≡ a.state.lines
  pub machine : machine_of o.queues ≡ a.state.work.machine
  pub each : length o.left ≡ callers a.plan * callers a.plan
  pub left_over : (q c : ℕ) → q < callers a.plan → c < callers a.plan → slice_index_or o.left (pair a.plan q c) [] ≡ left a.plan a.state.progress q c

-- the outcome comes exactly where every caller is done; else the player comes back
abbrev pub IsEnd : Player → Result Outcome Player → Type 0
IsEnd a result =
    MatchResult result (λ o. (unfinished a ≡ None) × IsOutcome a o) (λ b. (is_some (unfinished a) ≡ true) × (b ≡ a))

-- the fault of the order is answered; where there is none, the outcome of the state that the order leaves. Want
-- of memory may come in place of either, unless the order is too long
abbrev pub IsPlay : Setup → List ℕ → Result Outcome PlayFault → Type 0
IsPlay setup order result =
    MatchResult result (λ o. (play_fault (plan_of setup) order ≡ None) × IsOutcome (record { plan = plan_of setup; state = micro setup order }) o)
    (λ f. (play_fault (plan_of setup) order ≡ Some f) ⊎ ((nat_lt most_places (length order) ≡ false) × (f ≡ Memory)))
