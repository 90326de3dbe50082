-- The texts of the faults of a setup.
use Rattle.std.specs.Prelude.{ℕ, List, ◌++◌, codes, decimal}
use Rattle.eevdf_ops.specs.declared.setup_fault.SetupFault.{SetupFault}
use Rattle.eevdf_ops.specs.declared.setup_fault.SetupFault.TheVariants.{BadCpus, BadTasks, BadHome, BadStart, TooLong, UnknownTask, BadPull, BadBegin, Memory}

abbrev pub setup_fault_text : SetupFault → List ℕ
setup_fault_text BadCpus = codes "number of cpus"
setup_fault_text BadTasks = codes "number of tasks"
setup_fault_text (BadHome task) = codes "home of task " ++ decimal task
setup_fault_text (BadStart task) = codes "start of task " ++ decimal task
setup_fault_text (TooLong cpu) = codes "program " ++ decimal cpu ++ codes " too long"
setup_fault_text (UnknownTask cpu at) = codes "unknown task at program " ++ decimal cpu ++ codes " at " ++ decimal at
setup_fault_text (BadPull cpu at) = codes "bad pull at program " ++ decimal cpu ++ codes " at " ++ decimal at
setup_fault_text (BadBegin cpu at) = codes "bad begin at program " ++ decimal cpu ++ codes " at " ++ decimal at
setup_fault_text Memory = codes "memory"
