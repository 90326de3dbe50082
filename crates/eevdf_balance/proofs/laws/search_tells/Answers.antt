use Rattle.eevdf_balance.proofs.Searches.{search_tells}
use Rattle.eevdf_balance.proofs.laws.search_tells.Goals as goal

pub returns : goal.returns
returns c = search_tells
