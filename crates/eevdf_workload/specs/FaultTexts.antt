-- The texts of the faults of a workload and of the places in it.
use Rattle.std.specs.Prelude.{ℕ, List, ◌++◌, codes, decimal}
use Rattle.eevdf_ops.specs.FaultTexts.{setup_fault_text}
use Rattle.eevdf_workload.specs.{Meaning.most_bytes, declared.load_fault.Key.Key, declared.load_fault.LoadFault.LoadFault}
use Rattle.eevdf_workload.specs.declared.load_fault.Key.TheVariants as key
use Rattle.eevdf_workload.specs.declared.load_fault.LoadFault.TheVariants as load

abbrev pub key_text : Key → List ℕ
key_text key.Version = codes "version"
key_text key.Tasks = codes "task"
key_text (key.Task i) = codes "task " ++ decimal i
key_text (key.Home i) = codes "task " ++ decimal i ++ codes " home"
key_text (key.Nice i) = codes "task " ++ decimal i ++ codes " nice"
key_text (key.Slice i) = codes "task " ++ decimal i ++ codes " slice"
key_text (key.Start i) = codes "task " ++ decimal i ++ codes " start"
key_text (key.Asleep i) = codes "task " ++ decimal i ++ codes " asleep"
key_text key.Programs = codes "program"
key_text (key.Program cpu) = codes "program " ++ decimal cpu
key_text (key.Op cpu i) = codes "program " ++ decimal cpu ++ codes " at " ++ decimal i
key_text key.Orders = codes "order"
key_text (key.Order i) = codes "order at " ++ decimal i
key_text key.Scripts = codes "script"
key_text (key.Script i) = codes "script at " ++ decimal i

abbrev pub load_fault_text : LoadFault → List ℕ
load_fault_text load.TooLarge = codes "workload longer than " ++ decimal most_bytes ++ codes " bytes"
load_fault_text load.NotToml = codes "not a TOML document"
load_fault_text (load.Missing key) = codes "missing " ++ key_text key
load_fault_text (load.BadValue key) = codes "bad value at " ++ key_text key
load_fault_text (load.Setup fault) = setup_fault_text fault
load_fault_text load.Memory = codes "memory"
