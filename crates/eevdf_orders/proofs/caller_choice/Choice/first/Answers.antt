use Rattle.std.proofs.Common.{rules}
use Rattle.eevdf_orders.proofs.caller_choice.Choice.first.Goals as goal

pub returns-in-Drawn-clause-first : goal.returns-in-Drawn-clause-first
returns-in-Drawn-clause-first c = search rules

pub returns-in-Drawn-clause-next : goal.returns-in-Drawn-clause-next
returns-in-Drawn-clause-next c = search rules
