use Rattle.eevdf_bench.proofs.DeedsPrinted.{deed_is_text}
use Rattle.eevdf_bench.proofs.reading_laws.deed_is_its_text.Goals as goal

pub returns : goal.returns
returns c = deed_is_text c.args.version c.args.text.now c.args.deed c.deed_is_in_range.ensures.cpu c.deed_is_in_range.ensures.origin
