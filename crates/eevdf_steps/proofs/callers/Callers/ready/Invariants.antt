use Rattle.std.proofs.Common.{◌≡◌, ◌-◌}
use Rattle.eevdf_steps.specs.{Plan.callers, Counters.may_step, Counters.least, Counters.ready}
use Rattle.eevdf_steps.proofs.callers.Callers.ready.Given as goal

abbrev pub invariant-loop-caller : goal.invariant-loop-caller
invariant-loop-caller l =
    ready l.self.plan l.self.counters ≡ least (may_step l.self.plan l.self.counters) l.caller (callers l.self.plan - l.caller)
