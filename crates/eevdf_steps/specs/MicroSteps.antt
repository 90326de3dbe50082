-- The micro-steps of which operations are made, and those of a caller's program.
use Rattle.std.specs.Prelude.{ℕ, zero, suc, ◌+◌, ◌==◌, min, max, List, [], ◌∷◌, ◌++◌, map, if◌then◌else◌}
use Rattle.eevdf_ops.specs.declared.deeds.Op.{Op}
use Rattle.eevdf_ops.specs.declared.deeds.Op.TheVariants as op
use Rattle.eevdf_steps.specs.declared.{micro.Micro.Micro, plan.Step.Step}
use Rattle.eevdf_steps.specs.declared.micro.Micro.TheVariants.{Acquire, Act, Detach, Attach, Commit, Take, Settle, Release, Post}
use Rattle.eevdf_steps.specs.Plan.{Plan, callers, program, home}

-- steps that are done while a CPU's lock is held
abbrev pub under_lock : ℕ → List Micro → List Micro
under_lock cpu steps = Acquire cpu ∷ steps ++ Release cpu ∷ []

-- the same with two locks, of which that of the lesser CPU is taken first and given up last
abbrev pub under_locks : ℕ → ℕ → List Micro → List Micro
under_locks a b steps = under_lock (min a b) (under_lock (max a b) steps)

-- a deed on the caller's own queue
abbrev pub acting : List Micro
acting = Act ∷ Commit ∷ []

-- a task is taken out of one place and put into another
abbrev pub moving : List Micro
moving = Detach ∷ Attach ∷ Commit ∷ []

-- a task goes to sleep at its home, or dozes off there
abbrev pub sleeping : ℕ → ℕ → List Micro
sleeping cpu home = if cpu == home then under_lock cpu moving else under_locks cpu home moving

-- the requests of so many senders, from one on, are taken and settled in turn
abbrev pub draining : ℕ → ℕ → List Micro
draining zero sender = []
draining (suc n) sender = Take sender ∷ Settle sender ∷ draining n (sender + 1)

-- the micro-steps of an operation of a caller
abbrev pub micros_of : Plan → ℕ → Op → List Micro
micros_of plan cpu (op.Sleep task) = sleeping cpu (home plan task)
micros_of plan cpu (op.Doze task) = sleeping cpu (home plan task)
micros_of plan cpu (op.End task) = sleeping cpu (home plan task)
micros_of plan cpu (op.Pull source) = under_locks cpu source moving
micros_of plan cpu op.Drain = under_lock cpu (draining (callers plan) 0)
micros_of plan cpu (op.Post task) = Post task ∷ []
micros_of plan cpu _ = under_lock cpu acting

-- the steps of operations of a caller, one operation after the other, each with its operation
abbrev pub steps_of : Plan → ℕ → List Op → List Step
steps_of plan cpu [] = []
steps_of plan cpu (o ∷ os) = map (λ (m : Micro). record { op = o; micro = m }) (micros_of plan cpu o) ++ steps_of plan cpu os

-- all that a caller is to do
abbrev pub steps_by : Plan → ℕ → List Step
steps_by plan caller = steps_of plan caller (program plan caller)
