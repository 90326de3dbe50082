-- What comes of an operation that is tried on a seat of a fleet that keeps no history.
use Rattle.std.specs.Prelude.{◌≡◌, ◌≤◌, IsSomeAnd}
use Rattle.eevdf_ops.specs.{declared.deeds.Op.Op, Programs.deed_of}
use Rattle.eevdf_ops.specs.declared.deeds.Op.TheVariants as op
use Rattle.eevdf_ops.specs.Setup.{Setup, cpus_of, home_of, homes_of}
use Rattle.eevdf_fleet.specs.declared.operated.Operated.{Operated}
use Rattle.eevdf_fleet.specs.declared.operated.Operated.TheVariants.{Answer, Posted, Drained}
use Rattle.eevdf_fleet.specs.declared.operated.Refused.{Refused}
use Rattle.eevdf_fleet.specs.declared.operated.Refused.TheVariants.{RingFull}
use Rattle.eevdf_fleet.specs.{Fleets.free_at, Endless.Seat, Endless.HasDone, Endless.HasDrained, Endless.HasPosted}

-- a post was refused since no place in the ring to the task's home was known to be free
abbrev pub IsRingFull : Setup → Seat → Op → Refused → Type 0
IsRingFull s seat (op.Post task) (RingFull full) = (full.task ≡ task) × (free_at seat.free (home_of (homes_of s) task) ≡ 0)
IsRingFull s seat other reason = ⊥

-- an operation was done on a seat, and this came of it
abbrev pub IsOperated : Setup → Op → Operated → Seat → Seat → Type 0
IsOperated s (op.Post task) Posted before after = HasPosted (home_of (homes_of s) task) task before after
IsOperated s op.Drain (Drained drained) before after = HasDrained s drained before after × (drained.taken ≤ cpus_of s)
IsOperated s o (Answer answer) before after = IsSomeAnd (deed_of before.cpu o) (λ deed. HasDone s deed answer before after)
IsOperated s o other before after = ⊥
