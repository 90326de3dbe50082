use Rattle.std.proofs.Common.{◌<◌, ℕ, None, subst, rules}
use Rattle.eevdf_queue.proofs.AsleepMaps.{all_empty}
use Rattle.eevdf_queue.proofs.sleepers.empty.Goals as goal

pub returns : goal.returns
returns c = all_empty c.from_fn.result (λ i l. let k = c.from_fn.ensures.items.at i None (subst (λ (n : ℕ). i < n) c.from_fn.ensures.items.long l) in search rules)
