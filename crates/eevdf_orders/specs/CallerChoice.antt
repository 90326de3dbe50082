-- With whom the search for the next caller begins: in turn, or drawn by the words of a generator.
use Rattle.std.specs.Prelude.{ℕ, ◌+◌, ◌%◌, Option, Some, None}
use Rattle.rand_core.specs.Pcg32Seed.{pcg32_seed}
use Rattle.rand_pcg.specs.{Lcg.Lcg, Pcg.pcg32, Pcg.pcg32_of_seed}
use Rattle.eevdf_orders.specs.declared.caller_choice.Choice.{Choice}
use Rattle.eevdf_orders.specs.declared.caller_choice.Choice.TheVariants.{InTurn, Drawn}

-- the generator PCG32 as `seed_from_u64` makes it
abbrev pub seeded : ℕ → Lcg
seeded seed = pcg32_of_seed (pcg32_seed 16 seed)

-- drawn from a seed, and in turn where there is none
abbrev pub choice_of : Option ℕ → Choice
choice_of None = InTurn
choice_of (Some seed) = Drawn (seeded seed)

-- with whom of so many callers the search begins, after a step of the last
abbrev pub first_of : Choice → ℕ → ℕ → ℕ
first_of InTurn n last = (last + 1) % n
first_of (Drawn g) n last = (pcg32 g).0 % n

-- the choice after that: a drawn one has taken one word
abbrev pub next_of : Choice → Choice
next_of InTurn = InTurn
next_of (Drawn g) = Drawn (pcg32 g).1
