-- The bytes of what C gives room to.
use Rattle.std.specs.Prelude.{ℤ, pos}

abbrev pub queue_size : ℤ
queue_size = pos 24688

abbrev pub hand_size : ℤ
hand_size = pos 16

abbrev pub bounds_size : ℤ
bounds_size = pos 40

abbrev pub shares_size : ℤ
shares_size = pos 64
