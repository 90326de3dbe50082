use Rattle.std.proofs.Common.{ℕ, List, ap₂}
use Rattle.eevdf_clocks.specs.Times.{Clocks}
use Rattle.eevdf_clocks.proofs.clocks.Clocks.open.Goals as goal

abbrev of_lists : List ℕ → List ℕ → Clocks
of_lists cpus slept = record { cpus = cpus; slept = slept }

pub returns : goal.returns
returns c = ap₂ of_lists (c.in_ok-cpus.ensures.items_if_clones_equal (λ y is. is)) (c.in_ok-slept.ensures.items_if_clones_equal (λ y is. is))
