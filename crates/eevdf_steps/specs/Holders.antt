-- Who holds each lock, written down.
use Rattle.std.specs.Prelude.{◌≡◌, ℕ, ◌<◌, ◌==◌, Bool, true, false, nat_lt, List, length, slice_index_or, slice_set, if◌then◌else◌, Option, Some, None}
use Rattle.eevdf_steps.specs.declared.micro.Micro.{Micro}
use Rattle.eevdf_steps.specs.declared.micro.Micro.TheVariants.{Acquire, Release}
use Rattle.eevdf_steps.specs.{Plan.Plan, Plan.callers, Counters.Counters, Counters.holds}

abbrev pub is_holder : Option ℕ → ℕ → Bool
is_holder None caller = false
is_holder (Some holder) caller = holder == caller

-- a holder that gives its lock up
abbrev pub given_up : Option ℕ → ℕ → Option ℕ
given_up holder caller = if is_holder holder caller then None else holder

-- a lock that a step names is one of so many
abbrev pub names_lock : ℕ → Micro → Bool
names_lock locks (Acquire cpu) = nat_lt cpu locks
names_lock locks (Release cpu) = nat_lt cpu locks
names_lock locks _ = true

-- the holders after a step of a caller
abbrev pub holders_after : ℕ → Micro → List (Option ℕ) → List (Option ℕ)
holders_after caller (Acquire cpu) holders = slice_set holders cpu (Some caller)
holders_after caller (Release cpu) holders = slice_set holders cpu (given_up (slice_index_or holders cpu None) caller)
holders_after caller _ holders = holders

-- the holder of each CPU's lock, and nobody else, holds it
pub record AreHolders (plan : Plan) (counters : Counters) (holders : List (Option ℕ)) : Type 0 where
  pub each : length holders ≡ callers plan
  pub held : (cpu caller : ℕ) → cpu < callers plan → holds plan counters cpu caller ≡ is_holder (slice_index_or holders cpu None) caller
