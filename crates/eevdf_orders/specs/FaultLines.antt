-- What is printed where no workload is.
use Rattle.std.specs.Prelude.{ℕ, List, ◌++◌, codes, decimal}
use Rattle.eevdf_steps.specs.Orders.{most_places}
use Rattle.eevdf_bench.specs.TextFault as bench
use Rattle.eevdf_orders.specs.declared.order_making.OrderFault.{OrderFault}
use Rattle.eevdf_orders.specs.declared.order_making.OrderFault.TheVariants.{Memory, TooLong}
use Rattle.eevdf_orders.specs.declared.print_fault.PrintFault.{PrintFault}
use Rattle.eevdf_orders.specs.declared.print_fault.PrintFault.TheVariants.{Bench, Ordered}

-- why no order was made, in words
abbrev pub order_fault_text : OrderFault → List ℕ
order_fault_text Memory = codes "memory"
order_fault_text TooLong = codes "order longer than " ++ decimal most_places

-- why no workload was printed, in words
abbrev pub print_fault_text : PrintFault → List ℕ
print_fault_text (Bench f) = bench.bench_fault_text f
print_fault_text Ordered = codes "workload has an order already"

-- the line of a fault
abbrev pub fault_line : PrintFault → List ℕ
fault_line f = codes "fault: " ++ print_fault_text f ++ codes "\n"

-- and the status of the program after it
abbrev pub status_of : PrintFault → ℕ
status_of (Bench f) = bench.status_of f
status_of Ordered = 1
