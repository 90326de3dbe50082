use Rattle.std.proofs.Common.{◌≡◌, drop}
use Rattle.eevdf_closed_loop.specs.Faults.{can_all_be_gone_through}
use Rattle.eevdf_closed_loop.proofs.opening_faults.can_all_be_gone_through.Given as goal

abbrev pub invariant-loop-at : goal.invariant-loop-at
invariant-loop-at l = can_all_be_gone_through l.groups 0 l.phases ≡ can_all_be_gone_through l.groups l.at (drop l.at l.phases)
