-- Who does a deed, and what it comes from.
use Rattle.std.specs.Prelude.{ℕ}
use Rattle.eevdf_ops.specs.{declared.deeds.Deed.Deed, declared.origin.Origin.Origin}
use Rattle.eevdf_ops.specs.declared.deeds.Deed.TheVariants.{Tick, Pick, Yield, Sleep, Doze, Wake, Pull, Renice, Begin, End, Set, Rebase}
use Rattle.eevdf_ops.specs.declared.deeds.Op.TheVariants as op
use Rattle.eevdf_ops.specs.declared.origin.Origin.TheVariants.{Operation, Request}

-- the CPU that does a deed, and the operation of its program or the request that the deed comes from
abbrev pub parts : Deed → ℕ × Origin
parts (Tick cpu ns) = (cpu, Operation (op.Tick ns))
parts (Pick cpu) = (cpu, Operation op.Pick)
parts (Yield cpu) = (cpu, Operation op.Yield)
parts (Sleep cpu task) = (cpu, Operation (op.Sleep task))
parts (Doze cpu task) = (cpu, Operation (op.Doze task))
parts (Wake cpu task sender) = (cpu, Request task sender)
parts (Pull cpu source) = (cpu, Operation (op.Pull source))
parts (Renice cpu task nice) = (cpu, Operation (op.Renice task nice))
parts (Begin cpu task nice slice) = (cpu, Operation (op.Begin task nice slice))
parts (End cpu task) = (cpu, Operation (op.End task))
parts (Set cpu task nice slice) = (cpu, Operation (op.Set task nice slice))
parts (Rebase cpu) = (cpu, Operation op.Rebase)

-- the CPU that does it, whose queue decides what is answered
abbrev pub decider : Deed → ℕ
decider deed = (parts deed).0

abbrev pub origin_of : Deed → Origin
origin_of deed = (parts deed).1
