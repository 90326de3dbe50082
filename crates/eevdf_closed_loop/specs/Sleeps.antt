-- By which deed tasks fall asleep.
use Rattle.std.specs.Prelude.{Bool, true, false, not}
use Rattle.eevdf_ops.specs.{declared.deeds.Deed.Deed}
use Rattle.eevdf_ops.specs.declared.deeds.Deed.TheVariants.{Sleep, Doze}
use Rattle.eevdf_closed_loop.specs.{declared.plan.FallAsleep.FallAsleep}
use Rattle.eevdf_closed_loop.specs.declared.plan.FallAsleep.TheVariants as by

abbrev pub is_sleep : Deed → Bool
is_sleep (Sleep cpu task) = true
is_sleep other = false

abbrev pub is_doze : Deed → Bool
is_doze (Doze cpu task) = true
is_doze other = false

-- no deed is a doze where tasks fall asleep by sleeps, nor a sleep where they doze
abbrev pub is_by : FallAsleep → Deed → Bool
is_by by.Sleep deed = not (is_doze deed)
is_by by.Doze deed = not (is_sleep deed)
