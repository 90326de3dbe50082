-- What a question answers, and what stands afterwards where the answer is to be written.
use Rattle.std.specs.Prelude.{ℤ, Option, Some, None}
use Rattle.eevdf_c.specs.Codes.{done, absent}

abbrev pub found_code : {A : Type 0} → Option A → ℤ
found_code None = absent
found_code (Some a) = done

-- what is found, and else what stood there
abbrev pub found_or : {A : Type 0} → A → Option A → A
found_or other None = other
found_or other (Some a) = a
