-- The texts of entries and answers.
use Rattle.std.specs.Prelude.{ℕ, Bool, true, false, List, [], ◌++◌, codes, decimal}
use Rattle.std.specs.Fmt.{signed_decimal}
use Rattle.eevdf_queue.specs.{declared.entry.Entry.Entry, declared.sleeper.Sleeper.Sleeper, declared.answers.TickAnswer.TickAnswer}
use Rattle.eevdf_queue.specs.{declared.answers.YieldAnswer.YieldAnswer, declared.answers.WakeAnswer.WakeAnswer}
use Rattle.eevdf_queue.specs.{declared.answers.ReniceAnswer.ReniceAnswer, declared.answers.SetAnswer.SetAnswer, declared.refusal.Refusal.Refusal}
use Rattle.eevdf_queue.specs.declared.answers.TickAnswer.TheVariants as tick
use Rattle.eevdf_queue.specs.declared.answers.YieldAnswer.TheVariants as yield
use Rattle.eevdf_queue.specs.declared.answers.WakeAnswer.TheVariants as wake
use Rattle.eevdf_queue.specs.declared.answers.ReniceAnswer.TheVariants as renice
use Rattle.eevdf_queue.specs.declared.answers.SetAnswer.TheVariants as set
use Rattle.eevdf_queue.specs.declared.refusal.Refusal.TheVariants as refusal

-- a runnable task's virtual runtime and deadline, nice level and slice
abbrev pub entry_text : Entry → List ℕ
entry_text e =
    codes "v " ++ signed_decimal e.v ++ codes " d " ++ signed_decimal e.d ++ codes " nice " ++ signed_decimal e.nice
    ++ codes " slice " ++ decimal e.slice

-- a sleeping task's kept lag, nice level and slice
abbrev pub sleeper_text : Sleeper → List ℕ
sleeper_text s = codes "lag " ++ signed_decimal s.lag ++ codes " nice " ++ signed_decimal s.nice ++ codes " slice " ++ decimal s.slice

abbrev pub resched_text : Bool → List ℕ
resched_text true = codes " resched"
resched_text false = []

abbrev pub charged_text : ℕ → Bool → List ℕ
charged_text task resched = codes "charged " ++ decimal task ++ resched_text resched

abbrev pub tick_text : TickAnswer → List ℕ
tick_text (tick.Charged task resched) = charged_text task resched
tick_text tick.Idle = codes "idle"
tick_text tick.Range = codes "range"

abbrev pub yield_text : YieldAnswer → List ℕ
yield_text yield.Yielded = codes "yielded"
yield_text yield.Idle = codes "idle"
yield_text yield.Range = codes "range"

abbrev pub wake_text : WakeAnswer → List ℕ
wake_text wake.Woken = codes "woken"
wake_text wake.Awake = codes "awake"
wake_text wake.Range = codes "range"

abbrev pub renice_text : ReniceAnswer → List ℕ
renice_text renice.Reniced = codes "reniced"
renice_text renice.NotHere = codes "not here"
renice_text renice.Range = codes "range"

abbrev pub set_text : SetAnswer → List ℕ
set_text set.Set = codes "set"
set_text set.NotHere = codes "not here"
set_text set.Range = codes "range"

abbrev pub refusal_text : Refusal → List ℕ
refusal_text refusal.Present = codes "present"
refusal_text refusal.Range = codes "range"
