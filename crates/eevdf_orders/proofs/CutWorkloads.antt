-- A workload that is cut one byte past its limit gets what the whole gets.
use Rattle.std.proofs.Common.{◌≡◌, ℕ, ◌≤◌, Bool, true, false, cond, List, length, take, refl, sym, ap, subst, ◌∙◌, inl, inr, arith}
use Rattle.std.proofs.{lemmas.List.length-take, lemmas.List.take_all, lemmas.Bool.Decides.nat_tests}
use Rattle.std.specs.Prelude.{nat_lt, Option, Some, None, IfSome, Result, Ok, Err}
use Rattle.std.specs.Io.KnownBytes.{Appends}
use Rattle.eevdf_workload.specs.{declared.load_fault.LoadFault.LoadFault, declared.load_fault.LoadFault.TheVariants.TooLarge}
use Rattle.eevdf_workload.specs.MeaningSteps.{◌>>=◌}
use Rattle.eevdf_bench.specs.{declared.workbench_fault.BenchFault.BenchFault, Streams.HasBegun}
use Rattle.eevdf_bench.specs.declared.workbench_fault.BenchFault.TheVariants.{Load, Memory, Play, Read, Run, Write}
use Rattle.eevdf_workload.specs.Meaning.{Workload, document_of, meaning, most_bytes, read_limit, workload_of}
use Rattle.eevdf_workload.proofs.InputLimit.{meaning_cut}
use Rattle.eevdf_orders.specs.declared.print_fault.PrintFault.{PrintFault}
use Rattle.eevdf_orders.specs.declared.print_fault.PrintFault.TheVariants.{Bench, Ordered}
use Rattle.eevdf_orders.specs.OrderedWorkload.{Begins, HasNoOrder, HasOrder, IsOrdered, Prints, RefusesAs, RefusesFor}

not_long : (m n : ℕ) → nat_lt m n ≡ false → n ≤ m
not_long m n h = grind (arith, nat_tests)

read_short : (b : Bool) (n : ℕ) (r : Result Workload LoadFault) (w : Workload) → nat_lt most_bytes n ≡ b → cond b (Err TooLarge) r ≡ Ok w → n ≤ most_bytes
read_short true n r w e h = cc
read_short false n r w e h = not_long most_bytes n e

short_if_read : (bytes : List ℕ) (w : Workload) → meaning bytes ≡ Ok w → length bytes ≤ most_bytes
unfolding meaning
short_if_read bytes w h = read_short (nat_lt most_bytes (length bytes)) (length bytes) (document_of bytes >>= workload_of) w refl h

-- what is read wasn't cut
uncut : (all input : List ℕ) (w : Workload) → input ≡ take read_limit all → meaning input ≡ Ok w → input ≡ all
uncut all input w cut h =
    let few : length input ≤ most_bytes = short_if_read input w h in
    let same : length input ≡ length (take read_limit all) = ap (λ (bytes : List ℕ). length bytes) cut in
    cut ∙ take_all read_limit all (omega (arith, few, same, length-take read_limit all))

ordered_whole : (seed : Option ℕ) (all input text : List ℕ) → input ≡ take read_limit all → IsOrdered seed input text → IsOrdered seed all text
ordered_whole seed all input text cut o = subst (λ (bytes : List ℕ). IsOrdered seed bytes text) (uncut all input o.workload cut o.read) o

pub printed_whole : (seed : Option ℕ) (left : Option (List ℕ)) (input text : List ℕ) (held held' : Option (List ℕ)) → IfSome left (λ all. input ≡ take read_limit all) → IsOrdered seed input text
    → Appends held held' text → IfSome left (λ all. Prints seed all held held')
printed_whole seed None input text held held' cut o w = tt
printed_whole seed (Some all) input text held held' cut o w = record { text = text; ordered = ordered_whole seed all input text cut o; written = w }

pub begun_whole : (seed : Option ℕ) (left : Option (List ℕ)) (input text : List ℕ) (flush_failed : Bool) (held held' : Option (List ℕ)) → IfSome left (λ all. input ≡ take read_limit all)
    → IsOrdered seed input text → HasBegun flush_failed held held' text → IfSome left (λ all. Begins seed all flush_failed held held')
begun_whole seed None input text flush_failed held held' cut o w = tt
begun_whole seed (Some all) input text flush_failed held held' cut o w = record { text = text; ordered = ordered_whole seed all input text cut o; begun = w }

refused_for : (all input : List ℕ) (f : BenchFault) → input ≡ take read_limit all → RefusesFor input f → RefusesFor all f
refused_for all input (Load e) cut (inl m) = inl m
refused_for all input (Load e) cut (inr m) = inr (sym (meaning_cut all) ∙ sym (ap (λ (bytes : List ℕ). meaning bytes) cut) ∙ m)
refused_for all input (Play f) cut h = (h.0, subst (λ (bytes : List ℕ). HasNoOrder bytes) (uncut all input h.1.workload cut h.1.read) h.1)
refused_for all input (Run f) cut h = elim h [ ]
refused_for all input Memory cut h = tt
refused_for all input Read cut h = tt
refused_for all input Write cut h = tt

pub refused_whole : (left : Option (List ℕ)) (input : List ℕ) (f : PrintFault) → IfSome left (λ all. input ≡ take read_limit all) → RefusesAs input f → IfSome left (λ all. RefusesAs all f)
refused_whole None input f cut h = tt
refused_whole (Some all) input (Bench f) cut h = refused_for all input f cut h
refused_whole (Some all) input Ordered cut h = subst (λ (bytes : List ℕ). HasOrder bytes) (uncut all input h.workload cut h.read) h

-- the same, of bytes and of a text under other names
pub ordered_as : (seed : Option ℕ) (bytes input made text : List ℕ) → bytes ≡ input → text ≡ made → IsOrdered seed bytes made → IsOrdered seed input text
ordered_as seed bytes input made text b t o =
    subst (λ (bs : List ℕ). IsOrdered seed bs text) b (subst (λ (ts : List ℕ). IsOrdered seed bytes ts) (sym t) o)
