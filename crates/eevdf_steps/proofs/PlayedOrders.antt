-- What an order comes to that is played from the start of a setup to its end.
use Rattle.std.proofs.Common.{◌≡◌, ℕ, ◌≤◌, Bool, true, cond, List, ◌++◌, length, ap, subst, ◌∙◌, sym, inl}
use Rattle.std.specs.Prelude.{Some, Result, Ok, Err, IfOk, OnOk}
use Rattle.std.specs.List.{list_all}
use Rattle.eevdf_ops.specs.{declared.deeds.Deed.Deed, Followed.FollowsPrograms, Histories.IsOneThread, Machine.start}
use Rattle.eevdf_ops.specs.{Places.AreCpus, Places.IsPlaced, Outcome.Outcome, Outcome.machine_of, Programs.deeds_of}
use Rattle.eevdf_ops.specs.Setup.{Setup, allows, cpus_of, homes_of}
use Rattle.eevdf_steps.specs.{Plays.IsOutcome, Plays.IsPlay, PlayedSteps.HasPlayed, PlayedSteps.Ends, PlayedSteps.IsPlayedOut}
use Rattle.eevdf_steps.specs.{Commits.commits, Commits.deeds_committed, declared.play_fault.PlayFault.PlayFault, declared.play_fault.PlayFault.TheVariants.TooLong}
use Rattle.eevdf_steps.specs.{Players.Player, Players.player_start, Plan.IsSound, Plan.plan_of}
use Rattle.eevdf_steps.specs.Orders.{IsWhole, counters_at_start, most_places, order_fault, play_fault}
use Rattle.eevdf_steps.proofs.{LawfulOrders.faultless_whole, LawfulOrders.fits_in, AllowedCommits.deeds_allowed, PlacedHistories.outcome_placed}
use Rattle.eevdf_steps.proofs.FollowedPrograms.{outcome_follows}

-- the deeds done by a player, and those that an order still commits
abbrev pub deeds_with : Player → List ℕ → List Deed
deeds_with a order = deeds_of a.state.lines ++ commits a.plan a.state.progress order

-- the end of an order that a player has played
pub ends : (a : Player) (order : List ℕ) (b : Player) (o : Outcome) → HasPlayed a order b → IsSound b.plan → IsOutcome b o
    → IsOneThread b.plan.homes b.plan.start (deeds_of b.state.lines) o → Ends a order o
ends a order b o played sound is one = record {
  fault = played.fault;
  sound = subst (λ (x : Player). IsSound x.plan) played.state sound;
  outcome = subst (λ (x : Player). IsOutcome x o) played.state is;
  commits = ap deeds_of is.lines ∙ played.commits;
  one_thread = subst (λ (ds : List Deed). IsOneThread a.plan.homes a.plan.start ds o) (sym (ap deeds_of is.lines))
      (subst (λ (x : Player). IsOneThread x.plan.homes x.plan.start (deeds_of b.state.lines) o) played.state one);
}

-- an order that isn't too long has the fault of its places
short_fault : (setup : Setup) (order : List ℕ) → length order ≤ most_places → play_fault (plan_of setup) order ≡ order_fault (plan_of setup) (counters_at_start (plan_of setup)) 0 order
short_fault setup order short =
    ap (λ (b : Bool). cond b (Some TooLong) (order_fault (plan_of setup) (counters_at_start (plan_of setup)) 0 order)) (fits_in (length order) most_places short)

-- what is said of the answer
pub play_is : (setup : Setup) (order : List ℕ) (r : Result Outcome PlayFault) → length order ≤ most_places → IsPlayedOut (player_start setup) order r → IsPlay setup order r
play_is setup order (Ok o) short e = (short_fault setup order short ∙ e.fault, e.outcome)
play_is setup order (Err f) short e = inl (short_fault setup order short ∙ e)

pub play_whole : (setup : Setup) (order : List ℕ) (r : Result Outcome PlayFault) → IsPlayedOut (player_start setup) order r
    → OnOk r (IsWhole (plan_of setup) (counters_at_start (plan_of setup)) order)
play_whole setup order (Ok o) e = faultless_whole (plan_of setup) (counters_at_start (plan_of setup)) 0 order e.fault
play_whole setup order (Err f) e = tt

pub play_one_thread : (setup : Setup) (order : List ℕ) (r : Result Outcome PlayFault) → IsPlayedOut (player_start setup) order r
    → IfOk r (λ (o : Outcome). IsOneThread (homes_of setup) (start setup) (deeds_committed setup order) o)
play_one_thread setup order (Ok o) e = subst (λ (ds : List Deed). IsOneThread (homes_of setup) (start setup) ds o) e.commits e.one_thread
play_one_thread setup order (Err f) e = tt

allowed : (setup : Setup) (order : List ℕ) (o : Outcome) → Ends (player_start setup) order o → list_all (allows setup) (deeds_of o.lines) ≡ true
allowed setup order o e = ap (list_all (allows setup)) e.commits ∙ deeds_allowed setup order e.sound

pub play_allowed : (setup : Setup) (order : List ℕ) (r : Result Outcome PlayFault) → IsPlayedOut (player_start setup) order r
    → IfOk r (λ (o : Outcome). list_all (allows setup) (deeds_of o.lines) ≡ true)
play_allowed setup order (Ok o) e = allowed setup order o e
play_allowed setup order (Err f) e = tt

pub play_follows : (setup : Setup) (order : List ℕ) (r : Result Outcome PlayFault) → IsPlayedOut (player_start setup) order r
    → IfOk r (λ (o : Outcome). FollowsPrograms setup o)
play_follows setup order (Ok o) e = outcome_follows setup order o e.sound e.fault e.commits e.outcome
play_follows setup order (Err f) e = tt

pub play_placed : (setup : Setup) (order : List ℕ) (r : Result Outcome PlayFault) → IsPlayedOut (player_start setup) order r → AreCpus (cpus_of setup) (homes_of setup)
    → IsPlaced (homes_of setup) (start setup) → IfOk r (λ (o : Outcome). IsPlaced (homes_of setup) (machine_of o.queues))
play_placed setup order (Ok o) e cpus placed = outcome_placed setup (deeds_of o.lines) o e.one_thread (allowed setup order o e) cpus placed
play_placed setup order (Err f) e cpus placed = tt
