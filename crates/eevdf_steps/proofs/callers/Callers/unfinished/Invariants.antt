use Rattle.std.proofs.Common.{◌≡◌, ◌-◌}
use Rattle.eevdf_steps.specs.{Plan.callers, Counters.is_under_way, Counters.least, Counters.unfinished}
use Rattle.eevdf_steps.proofs.callers.Callers.unfinished.Given as goal

abbrev pub invariant-loop-caller : goal.invariant-loop-caller
invariant-loop-caller l =
    unfinished l.self.plan l.self.counters ≡ least (is_under_way l.self.plan l.self.counters) l.caller (callers l.self.plan - l.caller)
