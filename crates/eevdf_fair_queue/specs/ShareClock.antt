-- The clock by which the shares of tasks are told: how much virtual time the CPU has gone through, as its charges make it go and without
-- their rounding. It is told in parts, of which 2^32 are one unit.
use Rattle.std.specs.Prelude.{ℕ, ◌+◌, ◌-◌, ◌*◌, ◌/◌, ◌^◌, ◌==◌, nat_le, nat_lt, ℤ, pos, negsuc, neg_ℤ, ◌+ℤ◌, ◌-ℤ◌, ◌*ℤ◌, unsigned_abs, Bool, if◌then◌else◌, Option, Some, None, refl}
use Rattle.std.specs.Coded.{Coded, code_by, coded×, coded_option, coded_ℕ, coded_ℤ}
use Rattle.eevdf_fair_queue.specs.{declared.share_clock.ShareMark.ShareMark}

-- what it had come to when the load changed last, where it is in its range, and the nanoseconds that were charged since
pub record Clock : Type 0 where
  pub settled : Option ℤ
  pub since : ℕ

abbrev pub clock_code : Coded Clock
clock_code =
    code_by (Option ℤ × ℕ) (coded× (coded_option coded_ℤ) coded_ℕ) (λ c. (c.settled, c.since)) (λ p. record { settled = p.0; since = p.1 }) (λ _. refl)

abbrev pub begun : Clock
begun = record { settled = Some (pos 0); since = 0 }

-- the parts that it goes through in so many nanoseconds at a load, rounded up, and rounded down
abbrev pub parts_up : ℕ → ℕ → ℕ
parts_up ns load = (ns * 2 ^ 42 + (load - 1)) / load

abbrev pub parts_down : ℕ → ℕ → ℕ
parts_down ns load = ns * 2 ^ 42 / load

-- its range
abbrev pub is_clock : ℤ → Bool
is_clock z = nat_le (unsigned_abs z) (2 ^ 100)

abbrev pub checked_clock : ℤ → Option ℤ
checked_clock z = if is_clock z then Some z else None

abbrev pub later : Option ℤ → ℤ → Option ℤ
later None by = None
later (Some z) by = checked_clock (z +ℤ by)

-- the load that it went by is about to end
abbrev pub settled : Clock → ℕ → Clock
settled c load = record { settled = later c.settled (pos (parts_up c.since load)); since = 0 }

-- the load was one and is another
abbrev pub reloaded : Clock → ℕ → ℕ → Clock
reloaded c before after = if before == after then c else settled c before

-- a charge; the nanoseconds stay below 2^63
abbrev pub unless_long : Clock → ℕ → Clock
unless_long c load = if nat_lt c.since (2 ^ 63) then c else settled c load

abbrev pub charged : Clock → ℕ → ℕ → Clock
charged c ns load = unless_long (record c { since = c.since + ns }) load

-- all virtual times are lower by a number
abbrev pub lowered : Clock → ℤ → Clock
lowered c by = record c { settled = later c.settled (neg_ℤ (by *ℤ pos (2 ^ 32))) }

-- where a virtual runtime is beside it, rounded down
abbrev pub mark_at : Option ℤ → ℕ → ℤ → Option ShareMark
mark_at None gone v = None
mark_at (Some z) gone v = Some (record { standing = (z -ℤ (v *ℤ pos (2 ^ 32))) +ℤ pos gone })

abbrev pub mark_of : Clock → ℕ → ℤ → Option ShareMark
mark_of c load v = mark_at c.settled (parts_down c.since load) v

-- the nanoseconds that a weight lacks by so many parts, rounded up
abbrev pub lack_of : ℤ → ℕ → ℕ
lack_of (pos by) weight = (by * weight + (2 ^ 42 - 1)) / 2 ^ 42
lack_of (negsuc by) weight = 0

-- what a weight lacks between a mark, where that is one that such a clock gives, and where it stands
abbrev pub is_mark : ShareMark → Bool
is_mark m = nat_le (unsigned_abs m.standing) (2 ^ 108)

abbrev pub lack_between : ℤ → ShareMark → ℕ → Option ℕ
lack_between standing m weight = if is_mark m then Some (lack_of (standing -ℤ m.standing) weight) else None

abbrev pub lack_at : Option ℤ → ℕ → ℤ → ℕ → ShareMark → Option ℕ
lack_at None gone v weight m = None
lack_at (Some z) gone v weight m = lack_between ((z -ℤ (v *ℤ pos (2 ^ 32))) +ℤ pos gone) m weight

abbrev pub lack_since : Clock → ℕ → ℤ → ℕ → ShareMark → Option ℕ
lack_since c load v weight m = lack_at c.settled (parts_up c.since load) v weight m
