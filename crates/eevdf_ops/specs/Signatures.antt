-- What operations are called, and what stands behind their names.
use Rattle.std.specs.Prelude.{ℕ, List, codes}
use Rattle.eevdf_ops.specs.{declared.deeds.Op.Op, declared.named.Named.Named, declared.signature.Arguments.Arguments}
use Rattle.eevdf_ops.specs.declared.deeds.Op.TheVariants as op
use Rattle.eevdf_ops.specs.declared.named.Named.TheVariants as named
use Rattle.eevdf_ops.specs.declared.signature.Arguments.TheVariants.{Nothing, Time, Task, Level, State, NewTask, Source}

-- the verb of an operation, and what stands behind it
abbrev pub signature : Op → List ℕ × Arguments
signature (op.Tick ns) = (codes "tick", Time ns)
signature op.Pick = (codes "pick", Nothing)
signature op.Yield = (codes "yield", Nothing)
signature (op.Sleep task) = (codes "sleep", Task task)
signature (op.Doze task) = (codes "doze", Task task)
signature (op.Post task) = (codes "post", Task task)
signature op.Drain = (codes "drain", Nothing)
signature (op.Pull source) = (codes "pull", Source source)
signature (op.Renice task nice) = (codes "renice", Level task nice)
signature (op.Begin task nice slice) = (codes "begin", NewTask task nice slice)
signature (op.End task) = (codes "end", Task task)
signature (op.Set task nice slice) = (codes "set", State task nice slice)
signature op.Rebase = (codes "rebase", Nothing)

abbrev pub arguments_of : Op → Arguments
arguments_of o = (signature o).1

-- what they name of a machine
abbrev pub named_by : Arguments → Named
named_by Nothing = named.Nothing
named_by (Time ns) = named.Nothing
named_by (Task task) = named.Task task
named_by (Level task nice) = named.Task task
named_by (State task nice slice) = named.Task task
named_by (NewTask task nice slice) = named.TaskAtHome task
named_by (Source source) = named.Source source
