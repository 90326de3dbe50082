-- Deeds by the queues that they touch.
use Rattle.std.specs.Prelude.{ℕ, ◌==◌, List, if◌then◌else◌, Option, Some, None}
use Rattle.eevdf_ops.specs.{declared.deeds.Deed.Deed, declared.deeds.Op.Op, declared.acts.Act.Act, declared.acts.LocalAct.LocalAct, declared.acts.Transfer.Transfer, Setup.home_of}
use Rattle.std.specs.Option.{unwrap_or}
use Rattle.eevdf_ops.specs.{declared.origin.Origin.Origin, declared.origin.Origin.TheVariants.Operation, declared.origin.Origin.TheVariants.Request, Origins.decider, Origins.origin_of}
use Rattle.eevdf_ops.specs.declared.deeds.Op.TheVariants as op
use Rattle.eevdf_ops.specs.declared.acts.LocalAct.TheVariants as local
use Rattle.eevdf_ops.specs.declared.acts.Transfer.TheVariants as transfer
use Rattle.eevdf_ops.specs.declared.acts.Act.TheVariants as act

-- a sleep on a CPU of a task with this home
abbrev pub sleep_from : ℕ → ℕ → ℕ → Act
sleep_from cpu task home = if home == cpu then act.Local (local.Sleep task) else act.Transfer home (transfer.Sleep task)

-- a doze on a CPU of a task with this home: away from there it is a sleep
abbrev pub doze_from : ℕ → ℕ → ℕ → Act
doze_from cpu task home = if home == cpu then act.Local (local.Doze task) else act.Transfer home (transfer.Sleep task)

-- an end on a CPU of a task with this home
abbrev pub end_from : ℕ → ℕ → ℕ → Act
end_from cpu task home = if home == cpu then act.Local (local.End task) else act.Transfer home (transfer.End task)

-- what an operation does that touches its CPU's queue alone, whatever the homes are
abbrev pub local_of : Op → Option LocalAct
local_of (op.Tick ns) = Some (local.Tick ns)
local_of op.Pick = Some local.Pick
local_of op.Yield = Some local.Yield
local_of (op.Renice task nice) = Some (local.Renice task nice)
local_of (op.Begin task nice slice) = Some (local.Begin task nice slice)
local_of (op.Set task nice slice) = Some (local.Set task nice slice)
local_of op.Rebase = Some local.Rebase
local_of (op.Sleep task) = None
local_of (op.Doze task) = None
local_of (op.End task) = None
local_of (op.Post task) = None
local_of op.Drain = None
local_of (op.Pull source) = None

-- what comes of an operation or a request on a CPU, where tasks have these homes; of a post and a drain there is no deed
abbrev pub act_from : List ℕ → ℕ → Origin → Act
act_from homes cpu (Operation (op.Sleep task)) = sleep_from cpu task (home_of homes task)
act_from homes cpu (Operation (op.Doze task)) = doze_from cpu task (home_of homes task)
act_from homes cpu (Operation (op.End task)) = end_from cpu task (home_of homes task)
act_from homes cpu (Operation (op.Pull source)) = act.Transfer source transfer.Pull
act_from homes cpu (Operation o) = act.Local (unwrap_or (local_of o) local.Pick)
act_from homes cpu (Request task sender) = act.Local (local.Wake task sender)

-- what a deed does
abbrev pub act_of : List ℕ → Deed → Act
act_of homes deed = act_from homes (decider deed) (origin_of deed)
