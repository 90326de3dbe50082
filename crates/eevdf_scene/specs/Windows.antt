-- What is in the time that is drawn.
use Rattle.std.specs.Prelude.{ℕ, ◌-◌, nat_lt, nat_le, min, max, Bool, ◌&&◌, if◌then◌else◌}
use Rattle.eevdf_scene.specs.declared.scale.Scale.{Scale}

-- a moment is in it at its edges too
abbrev pub has : Scale → ℕ → Bool
has w time = nat_le w.from time && nat_le time w.to

-- what lasts is in it where it shares time with it, and what begins and ends at one moment as that moment
abbrev pub shows : Scale → ℕ → ℕ → Bool
shows w begin end = if nat_lt begin end then nat_lt begin w.to && nat_lt w.from end else has w begin

-- so much of what lasts is in it: from the later begin to the earlier end, where that is after it
abbrev pub shared : Scale → ℕ → ℕ → ℕ
shared w begin end = min end w.to - max begin w.from
