use Rattle.std.proofs.Common.{take}
use Rattle.eevdf_steps.specs.{Plan.program, Openings.CountPosts}
use Rattle.eevdf_steps.proofs.openings.post_counts.Given as goal

abbrev pub invariant-loop-op : goal.invariant-loop-op
invariant-loop-op l = CountPosts l.plan (take l.op-index (program l.plan l.fn.caller)) l.counts.items
