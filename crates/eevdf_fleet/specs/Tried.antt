-- What comes of an operation that is tried on a seat.
use Rattle.std.specs.Prelude.{◌≡◌, ℕ, ◌≤◌, nat_lt, nat_le, ◌==◌, Bool, not, length, if◌then◌else◌, Option, Some, None, IsSomeAnd}
use Rattle.std.specs.Option.{option_or}
use Rattle.eevdf_ops.specs.{declared.deeds.Op.Op, Programs.deed_of}
use Rattle.eevdf_ops.specs.declared.deeds.Op.TheVariants as op
use Rattle.eevdf_ops.specs.{declared.named.Named.Named, declared.named.Named.TheVariants.Nothing, declared.named.Named.TheVariants.Task, declared.named.Named.TheVariants.TaskAtHome, declared.named.Named.TheVariants.Source}
use Rattle.eevdf_ops.specs.Setup.{Setup, cpus_of, home_of, homes_of, has_named, is_at_home, is_task, named}
use Rattle.eevdf_fleet.specs.declared.operated.Operated.{Operated}
use Rattle.eevdf_fleet.specs.declared.operated.Operated.TheVariants.{Answer, Posted, Drained}
use Rattle.eevdf_fleet.specs.declared.operated.Refused.{Refused}
use Rattle.eevdf_fleet.specs.declared.operated.Refused.TheVariants.{NoTask, NoCpu, OwnCpu, OtherHome, SeatFull, RingFull}
use Rattle.eevdf_fleet.specs.{Drains.HasDrained, ProgramRuns.room_for}
use Rattle.eevdf_fleet.specs.Fleets.{Kit, Seat, capacity_of, logged, posted_to, setup_of, with_post}

-- a reason, unless the test passes
abbrev pub unless : Bool → Refused → Option Refused
unless passes reason = if passes then None else Some reason

abbrev pub no_task : Setup → ℕ → Option Refused
no_task s task = unless (is_task (homes_of s) task) (NoTask task)

-- whether the setup has what an operation of a CPU names
abbrev pub has_what : Setup → ℕ → Op → Bool
has_what s cpu o = has_named (cpus_of s) (homes_of s) cpu (named o)

-- why the setup hasn't what an operation of a CPU names: it hasn't the task, or the task to begin has its home at another CPU; or it hasn't
-- the CPU to pull from, or that is the CPU itself
abbrev pub not_had : Setup → ℕ → Named → Option Refused
not_had s cpu Nothing = None
not_had s cpu (Task task) = no_task s task
not_had s cpu (TaskAtHome task) = option_or (no_task s task) (unless (is_at_home (homes_of s) task cpu) (OtherHome task))
not_had s cpu (Source source) = option_or (unless (nat_lt source (cpus_of s)) (NoCpu source)) (unless (not (source == cpu)) OwnCpu)

-- why the setup doesn't allow an operation of a CPU
abbrev pub not_allowed : Setup → ℕ → Op → Option Refused
not_allowed s cpu o = not_had s cpu (named o)

-- why a fleet that keeps its history doesn't begin an operation: the setup doesn't allow it, or else the seat has too little room
abbrev pub refusal : Setup → Seat → Op → Option Refused
refusal s seat o = option_or (not_allowed s seat.cpu o) (unless (nat_le (room_for (cpus_of s) o) seat.room) SeatFull)

-- a post was refused because the seat had posted as many requests to the task's home, over all, as a ring has room for
abbrev pub IsRingFull : Kit → Seat → Op → Refused → Type 0
IsRingFull k seat (op.Post task) (RingFull full) = (full.task ≡ task) × (capacity_of k ≤ length (posted_to seat (home_of (homes_of (setup_of k)) task)))
IsRingFull k seat other reason = ⊥

-- an operation was done on a seat, and this came of it
abbrev pub IsOperated : Setup → Op → Operated → Seat → Seat → Type 0
IsOperated s (op.Post task) Posted before after = after ≡ with_post before (home_of (homes_of s) task) task
IsOperated s op.Drain (Drained drained) before after = HasDrained before after drained × (drained.taken ≤ cpus_of s)
IsOperated s o (Answer answer) before after = IsSomeAnd (deed_of before.cpu o) (λ deed. after ≡ logged before (record { deed = deed; answer = answer }))
IsOperated s o other before after = ⊥
