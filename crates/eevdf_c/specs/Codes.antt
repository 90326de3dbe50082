-- The codes that a call answers: of errors they are below 0, with the values of errno.
use Rattle.std.specs.Prelude.{ℤ, pos, negsuc}

abbrev pub done : ℤ
done = pos 0

abbrev pub time_to_pick : ℤ
time_to_pick = pos 1

abbrev pub absent : ℤ
absent = negsuc 1

abbrev pub balanced : ℤ
balanced = negsuc 10

abbrev pub no_memory : ℤ
no_memory = negsuc 11

abbrev pub busy : ℤ
busy = negsuc 15

abbrev pub present : ℤ
present = negsuc 16

abbrev pub invalid : ℤ
invalid = negsuc 21

abbrev pub out_of_range : ℤ
out_of_range = negsuc 33

-- the version 0.8.0: major times a million, minor times a thousand, and patch
abbrev pub version : ℤ
version = pos 8000
