use Rattle.std.proofs.Common.{arith, [], sym}
use Rattle.std.proofs.{lemmas.List.map-append, lemmas.List.FromFn.map-range_with_len_more}
use Rattle.eevdf_report.specs.TextSchedules.{own_lines}
use Rattle.eevdf_report.proofs.schedules.Schedules.empty.Goals as goal

pub loop-preserved : goal.loop-preserved
loop-preserved c =
    rw (c.in_ok-push.ensures.items, map-append, c.in_ok-with_capacity.ensures.items, c.loop.invariant)
    (sym (map-range_with_len_more (λ k. own_lines k []) 0 c.loop.counter c.loop.counter (omega arith)))
