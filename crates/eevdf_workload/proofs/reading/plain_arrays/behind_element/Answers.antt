use Rattle.std.proofs.Common.{rules}
use Rattle.toml.specs.Parse.{after_element}
use Rattle.eevdf_workload.proofs.reading.plain_arrays.behind_element.Goals as goal

pub returns-in-44-clause-value : goal.returns-in-44-clause-value
unfolding after_element
returns-in-44-clause-value c = search rules

pub returns-in-93-clause-value : goal.returns-in-93-clause-value
unfolding after_element
returns-in-93-clause-value c = search rules
