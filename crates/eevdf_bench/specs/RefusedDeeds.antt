-- The deeds of a script that are refused: what a person who wrote it takes for a mistake of the script.
use Rattle.std.specs.Prelude.{ℕ, suc, if◌then◌else◌, List, [], ◌∷◌, Option, None, Some, Result, Ok, Err}
use Rattle.std.specs.List.{count_by}
use Rattle.eevdf_ops.specs.{declared.deeds.Deed.Deed, declared.deeds.Line.Line, Refusals.is_refused}
use Rattle.eevdf_ops.specs.{Machine.start, Setup.Setup, Setup.homes_of, Whole.lines_of}
use Rattle.eevdf_bench.specs.declared.refused_deeds.RefusedDeed.{RefusedDeed}
use Rattle.eevdf_workload.specs.{declared.load_fault.LoadFault.LoadFault, Meaning.Workload, Meaning.meaning}

-- the first of these lines that is refused, where the first of them stands at a place of the script
abbrev pub first_refused : ℕ → List Line → Option RefusedDeed
first_refused at [] = None
first_refused at (l ∷ ls) = if is_refused l then Some (record { at = at; line = l }) else first_refused (suc at) ls

-- how many of them are refused
abbrev pub refused_among : List Line → ℕ
refused_among lines = count_by is_refused lines

-- the first that is refused of a script that one thread does
abbrev pub refused_in : Setup → Option (List Deed) → Option RefusedDeed
refused_in s (Some deeds) = first_refused 0 (lines_of (homes_of s) (start s) deeds)
refused_in s None = None

abbrev pub refused_of : Workload → Option RefusedDeed
refused_of w = refused_in w.setup w.script

-- the same of the bytes of a workload: one that isn't read has no deed
abbrev pub refused_of_read : Result Workload LoadFault → Option RefusedDeed
refused_of_read (Ok w) = refused_of w
refused_of_read (Err f) = None

abbrev pub refused_of_text : List ℕ → Option RefusedDeed
refused_of_text input = refused_of_read (meaning input)
