-- What an act on one queue answers and leaves.
use Rattle.std.specs.Prelude.{Option}
use Rattle.eevdf_queue.specs.{State.State, State.Contents, Leaving.carried_running}
use Rattle.eevdf_ops.specs.{declared.acts.LocalAct.LocalAct, declared.deeds.Answer.Answer}
use Rattle.eevdf_ops.specs.declared.acts.LocalAct.TheVariants.{Tick, Pick, Yield, Sleep, Doze, Wake, Renice, Begin, End, Set, Rebase}
use Rattle.eevdf_ops.specs.{OneQueue.one_tick, OneQueue.one_pick, OneQueue.one_yield, OneQueue.one_wake, OneQueue.one_renice}
use Rattle.eevdf_ops.specs.{OneQueue.one_begin, OneQueue.one_set, OneQueue.one_rebase, WholeEnd.ending}
use Rattle.eevdf_ops.specs.Halves.{after_dozing_off, after_falling_asleep, after_leaving, answer_of_end, answer_of_sleep}

-- a task falls asleep in the queue where it runs; what it carries, none where it doesn't run
abbrev pub slept_here : Option Contents → State → Answer × State
slept_here o q = (answer_of_sleep o, after_falling_asleep o (after_leaving o q))

-- a task dozes off in the queue where it runs
abbrev pub dozed_here : Option Contents → State → Answer × State
dozed_here o q = (answer_of_sleep o, after_dozing_off o (after_leaving o q))

-- a task ends in the queue that is its home; what it takes along, none where it isn't runnable
abbrev pub ended_here : Option Contents → State → Answer × State
ended_here o q = (answer_of_end o, after_falling_asleep o (after_leaving o q))

abbrev pub local_done : LocalAct → State → Answer × State
local_done (Tick ns) q = one_tick q ns
local_done Pick q = one_pick q
local_done Yield q = one_yield q
local_done (Sleep task) q = slept_here (carried_running q task) q
local_done (Doze task) q = dozed_here (carried_running q task) q
local_done (Wake task sender) q = one_wake q task
local_done (Renice task nice) q = one_renice q task nice
local_done (Begin task nice slice) q = one_begin q task nice slice
local_done (End task) q = ended_here (ending q task) q
local_done (Set task nice slice) q = one_set q task nice slice
local_done Rebase q = one_rebase q
