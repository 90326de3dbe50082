use Rattle.std.proofs.Common.{◌-◌}
use Rattle.eevdf_phase_text.proofs.phases.+push_phase.Given as goal

abbrev pub decreases-push_phase : goal.decreases-push_phase
decreases-push_phase l = 8 - l.depth
