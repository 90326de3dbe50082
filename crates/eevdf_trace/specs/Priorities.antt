-- Priorities as a trace has them.
use Rattle.std.specs.Prelude.{ℕ, ℤ, pos, negsuc, ◌-ℤ◌, nat_lt, if◌then◌else◌}

-- the nice level of a priority: those below 100 are of real-time tasks
abbrev pub nice_at : ℕ → ℤ
nice_at priority = if nat_lt priority 100 then negsuc 19 else (if nat_lt 139 priority then pos 19 else (pos priority -ℤ pos 120))
