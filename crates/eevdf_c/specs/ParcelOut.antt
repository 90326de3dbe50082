-- What a task in a hand has, as C reads it.
use Rattle.std.specs.Prelude.{ℤ, Option}
use Rattle.std.specs.Option.{option_map}
use Rattle.eevdf_queue.specs.State.{Contents}
pub use Rattle.eevdf_c.specs.declared.parcel_out.ParcelOut.{ParcelOut}
use Rattle.eevdf_c.specs.{Found.found_code, Found.found_or}

abbrev pub in_numbers : Contents → ParcelOut
in_numbers p = record { task = p.task; nice = p.nice; slice_ns = p.slice; start = p.start; lag = p.lag }

-- what a question for the task in a hand answers
abbrev pub parcel : Option Contents → ℤ
parcel hand = found_code hand

-- what stands afterwards where it is to be written
abbrev pub told_parcel : ParcelOut → Option Contents → ParcelOut
told_parcel other hand = found_or other (option_map in_numbers hand)
