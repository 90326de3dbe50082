-- Steps that name only CPUs and tasks that there are.
use Rattle.std.specs.Prelude.{nat_lt, Bool, true, ◌&&◌, length}
use Rattle.eevdf_steps.specs.declared.{micro.Micro.Micro, plan.Step.Step}
use Rattle.eevdf_steps.specs.declared.micro.Micro.TheVariants.{Acquire, Take, Settle, Release, Post}
use Rattle.eevdf_steps.specs.Plan.{Plan, callers, is_sound_op}

abbrev pub is_sound_micro : Plan → Micro → Bool
is_sound_micro plan (Acquire cpu) = nat_lt cpu (callers plan)
is_sound_micro plan (Release cpu) = nat_lt cpu (callers plan)
is_sound_micro plan (Take sender) = nat_lt sender (callers plan)
is_sound_micro plan (Settle sender) = nat_lt sender (callers plan)
is_sound_micro plan (Post task) = nat_lt task (length plan.homes)
is_sound_micro plan _ = true

abbrev pub is_sound_step : Plan → Step → Bool
is_sound_step plan s = is_sound_op plan s.op && is_sound_micro plan s.micro
