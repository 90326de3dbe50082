-- An error changes nothing.
use Rattle.std.specs.Prelude.{◌≡◌, ℤ, pos, ◌<ℤ◌}

-- where a call answers a number below 0, a queue, a hand or an object of the caller's is as it was
abbrev pub KeepsOnError : {A : Type 0} → ℤ → A → A → Type 0
KeepsOnError answer before after = answer <ℤ pos 0 → after ≡ before
