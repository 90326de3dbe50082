-- The deeds that an order commits.
use Rattle.std.specs.Prelude.{ℕ, List, [], ◌∷◌, ◌++◌, Option, Some, None}
use Rattle.std.specs.Option.{option_to_list}
use Rattle.eevdf_ops.specs.{declared.deeds.Op.Op, declared.deeds.Deed.Deed, Programs.deed_of, Setup.Setup}
use Rattle.eevdf_ops.specs.declared.deeds.Deed.TheVariants as deed
use Rattle.eevdf_steps.specs.declared.{micro.Micro.Micro, plan.Step.Step}
use Rattle.eevdf_steps.specs.declared.micro.Micro.TheVariants.{Commit, Settle}
use Rattle.eevdf_steps.specs.{Plan.Plan, Plan.plan_of, Counters.step_next}
use Rattle.eevdf_steps.specs.Requests.{Progress, found_by, progress_at_start, progress_step}

-- the wake of a request that was found
abbrev pub wake_of : ℕ → ℕ → Option ℕ → Option Deed
wake_of cpu sender None = None
wake_of cpu sender (Some task) = Some (deed.Wake cpu task sender)

-- the deed that a step commits, where it commits one; the first argument is the request that the caller found
abbrev pub committed : Option ℕ → ℕ → Op → Micro → Option Deed
committed found caller o Commit = deed_of caller o
committed found caller o (Settle sender) = wake_of caller sender found
committed found caller o _ = None

abbrev pub committed_by : Progress → ℕ → Option Step → List Deed
committed_by g caller None = []
committed_by g caller (Some s) = option_to_list (committed (found_by g caller) caller s.op s.micro)

-- the deeds of an order, in the order of their commits
abbrev pub commits : Plan → Progress → List ℕ → List Deed
commits plan g [] = []
commits plan g (p ∷ order) = committed_by g p (step_next plan g.counters p) ++ commits plan (progress_step plan g p) order

-- the deeds that an order commits from the start of a setup on
abbrev pub deeds_committed : Setup → List ℕ → List Deed
deeds_committed setup order = commits (plan_of setup) (progress_at_start (plan_of setup)) order
