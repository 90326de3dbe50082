-- A history of a setup is what the laws of a CPU ask, from each of its moments on.
use Rattle.std.proofs.Common.{◌≡◌, ℕ, ◌++◌, true, List, [], ◌∷◌, length, refl, sym, ap, ◌∙◌, subst}
use Rattle.std.specs.List.{AllByRecursion, list_all}
use Rattle.std.proofs.lemmas.Bool.{and_parts}
use Rattle.eevdf_ops.specs.{declared.deeds.Deed.Deed, declared.deeds.Line.Line, Machine.Machine, Machine.start, Places.AreCpus}
use Rattle.eevdf_ops.specs.{Programs.deeds_of}
use Rattle.eevdf_ops.specs.{Setup.is_allowed, Setup.cpus_of, Setup.homes_of, Whole.whole, Whole.machine_after}
use Rattle.eevdf_ops.specs.Histories.{AreHistory, machine_told}
use Rattle.eevdf_ops.proofs.Machines.{length-begun}
use Rattle.eevdf_dozes.specs.{OneCpu.AreAllowedDeeds, OneCpuHistories.HistoriesGoOnSo}
use Rattle.eevdf_dozes.proofs.FromPick.{later_allowed}
use Rattle.eevdf_balance.proofs.Excuses.{deeds-joined}

each_allowed : (cpus : ℕ) (homes : List ℕ) (ds : List Deed) → list_all (is_allowed cpus homes) ds ≡ true
    → AllByRecursion (λ (d : Deed). is_allowed cpus homes d ≡ true) ds
each_allowed cpus homes [] all = tt
each_allowed cpus homes (d ∷ ds) all =
    let both = and_parts (is_allowed cpus homes d) (list_all (is_allowed cpus homes) ds) all in
    (both.0, each_allowed cpus homes ds both.1)

abbrev others : List Line → List Line
others [] = []
others (l ∷ ls) = ls

module _ (homes : List ℕ) where
  history_after : (m : Machine) (before lines : List Line) → AreHistory homes m (before ++ lines)
      → AreHistory homes (machine_told homes m before) lines
  history_after m [] lines h = h
  history_after m (l ∷ before) lines h = history_after (whole homes l.deed m).1 before lines (ap others h)

  come_after : (m : Machine) (before lines : List Line)
      → machine_after homes (machine_told homes m before) (deeds_of lines) ≡ machine_told homes m (before ++ lines)
  come_after m [] lines = refl
  come_after m (l ∷ before) lines = come_after (whole homes l.deed m).1 before lines

pub histories_go_on_so : HistoriesGoOnSo
histories_go_on_so s before lines h =
    let homes : List ℕ = homes_of s in
    let many : length (start s) ≡ cpus_of s = length-begun (cpus_of s) 0 s.tasks in
    let deeds : List Deed = deeds_of (before ++ lines) in
    let allowed : AreAllowedDeeds homes (start s) deeds = record {
      cpus = subst (λ (n : ℕ). AreCpus n homes) (sym many) h.cpus;
      each = each_allowed (length (start s)) homes deeds (ap (λ (n : ℕ). list_all (is_allowed n homes) deeds) many ∙ h.allowed);
    } in
    record {
      allowed = later_allowed homes (start s) (deeds_of before) (deeds_of lines)
          (subst (AreAllowedDeeds homes (start s)) (deeds-joined before lines) allowed);
      same = sym (history_after homes (start s) before lines h.history);
      after = come_after homes (start s) before lines;
    }
