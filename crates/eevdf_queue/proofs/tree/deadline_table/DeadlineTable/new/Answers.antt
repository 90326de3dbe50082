use Rattle.std.proofs.Common.{◌≡◌, ℕ, zero, suc, replicate, get_or, refl}
use Rattle.std.specs.Prelude.{pos}
use Rattle.eevdf_queue.proofs.tree.deadline_table.DeadlineTable.new.Goals as goal

zeros : (n q : ℕ) → get_or (replicate n (pos 0)) q (pos 0) ≡ pos 0
zeros zero q = refl
zeros (suc n) zero = refl
zeros (suc n) (suc q) = zeros n q

pub returns : goal.returns
returns c q = zeros 1024 q
