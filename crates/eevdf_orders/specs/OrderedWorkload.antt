-- A workload that is printed with an order, or why none is.
use Rattle.std.specs.Prelude.{◌≡◌, ◌⊎◌, ℕ, Bool, true, is_some, List, Option, None, Ok, Err}
use Rattle.std.specs.Io.KnownBytes.{Appends}
use Rattle.eevdf_steps.specs.{declared.play_fault.PlayFault.TheVariants.TooLong, Plan.plan_of, Orders.play_fault}
use Rattle.eevdf_workload.specs.declared.load_fault.LoadFault.TheVariants.{Memory as NoMemory}
use Rattle.eevdf_bench.specs.{declared.workbench_fault.BenchFault.BenchFault, Streams.HasBegun}
use Rattle.eevdf_bench.specs.declared.workbench_fault.BenchFault.TheVariants.{Load, Memory, Play, Read, Run, Write}
use Rattle.eevdf_workload.specs.Meaning.{Workload, meaning}
use Rattle.eevdf_orders.specs.{declared.print_fault.PrintFault.PrintFault, declared.print_fault.PrintFault.TheVariants.Bench}
use Rattle.eevdf_orders.specs.{declared.print_fault.PrintFault.TheVariants.Ordered, CallerChoice.choice_of, ChosenOrders.IsChosen}
use Rattle.eevdf_orders.specs.OrderText.{ordered_text}

-- the text is that of a workload with the order of a seed, which plays without a fault, where it had none
pub record IsOrdered (seed : Option ℕ) (input text : List ℕ) : Type 0 where
  pub workload : Workload
  pub read : meaning input ≡ Ok workload
  pub fresh : workload.order ≡ None
  pub order : List ℕ
  pub faultless : play_fault (plan_of workload.setup) order ≡ None
  pub chosen : IsChosen (plan_of workload.setup) (choice_of seed) order
  pub text_is : text ≡ ordered_text order input

-- the workload has an order
pub record HasOrder (input : List ℕ) : Type 0 where
  pub workload : Workload
  pub read : meaning input ≡ Ok workload
  pub ordered : is_some workload.order ≡ true

-- every order of the workload has a fault
pub record HasNoOrder (input : List ℕ) : Type 0 where
  pub workload : Workload
  pub read : meaning input ≡ Ok workload
  pub faulty : (order : List ℕ) → is_some (play_fault (plan_of workload.setup) order) ≡ true

-- why a workload gets no order: its own fault, no order without a fault, or out of memory; reading and writing
-- have faults of their own, and nothing is run
abbrev pub RefusesFor : List ℕ → BenchFault → Type 0
RefusesFor input (Load e) = (e ≡ NoMemory) ⊎ (meaning input ≡ Err e)
RefusesFor input (Play f) = (f ≡ TooLong) × HasNoOrder input
RefusesFor input (Run f) = ⊥
RefusesFor input Memory = Unit {0}
RefusesFor input Read = Unit {0}
RefusesFor input Write = Unit {0}

-- the same, or that it has an order already
abbrev pub RefusesAs : List ℕ → PrintFault → Type 0
RefusesAs input (Bench f) = RefusesFor input f
RefusesAs input Ordered = HasOrder input

-- the workload with its order was written after what was there
pub record Prints (seed : Option ℕ) (input : List ℕ) (held held' : Option (List ℕ)) : Type 0 where
  pub text : List ℕ
  pub ordered : IsOrdered seed input text
  pub written : Appends held held' text

-- the same of what a call that failed left of it
pub record Begins (seed : Option ℕ) (input : List ℕ) (flush_failed : Bool) (held held' : Option (List ℕ)) : Type 0 where
  pub text : List ℕ
  pub ordered : IsOrdered seed input text
  pub begun : HasBegun flush_failed held held' text
