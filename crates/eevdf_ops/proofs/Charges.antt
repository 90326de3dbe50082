-- A bound on charges.
use Rattle.std.proofs.Common.{ℕ, ◌*◌, ◌≤◌}
use Rattle.std.proofs.Math.Nat.{div-le_self}
use Rattle.eevdf_weight.specs.Charge.{charge_of}

pub charge_of-le : (ns w : ℕ) → charge_of ns w ≤ ns * 1024
unfolding charge_of
charge_of-le ns w = div-le_self (ns * 1024) w
