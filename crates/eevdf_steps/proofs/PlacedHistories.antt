-- The machine that the deeds of one thread leave has each task in one place.
use Rattle.std.proofs.Common.{◌≡◌, ℕ, true, List, [], ◌∷◌, length, sym, subst, ◌∙◌}
use Rattle.std.specs.List.{list_all}
use Rattle.std.proofs.Math.ListN.{length-replicate}
use Rattle.eevdf_queue.specs.State.{empty_state}
use Rattle.eevdf_ops.specs.{declared.deeds.Deed.Deed, Histories.IsOneThread, Machine.Machine, Machine.start, Outcome.Outcome}
use Rattle.eevdf_ops.specs.{Outcome.machine_of, Places.AreCpus, Places.IsPlaced, Programs.deeds_of, Whole.machine_after}
use Rattle.eevdf_ops.specs.Whole.{whole}
use Rattle.eevdf_ops.specs.Setup.{Setup, allows, cpus_of, homes_of, is_allowed}
use Rattle.eevdf_ops.proofs.{Machines.length-begin_at_homes, WholePlaces.length-whole, WholePlaces.whole-placed}
use Rattle.std.proofs.lemmas.Bool.{and_parts}

placed_after : (cpus : ℕ) (homes : List ℕ) (m : Machine) (ds : List Deed) → length m ≡ cpus → list_all (is_allowed cpus homes) ds ≡ true → AreCpus cpus homes → IsPlaced homes m
    → IsPlaced homes (machine_after homes m ds)
placed_after cpus homes m [] many allowed at_cpus placed = placed
placed_after cpus homes m (d ∷ ds) many allowed at_cpus placed =
    let parts = and_parts (is_allowed cpus homes d) (list_all (is_allowed cpus homes) ds) allowed in
    placed_after cpus homes (whole homes d m).1 ds (length-whole homes d m ∙ many) parts.1 at_cpus
    (whole-placed homes d m (subst (λ (n : ℕ). is_allowed n homes d ≡ true) (sym many) parts.0) (subst (λ (n : ℕ). AreCpus n homes) (sym many) at_cpus) placed)

length-start : (s : Setup) → length (start s) ≡ cpus_of s
length-start s = length-begin_at_homes 0 s.tasks _ ∙ length-replicate (cpus_of s) empty_state

pub outcome_placed : (s : Setup) (ds : List Deed) (o : Outcome) → IsOneThread (homes_of s) (start s) ds o → list_all (allows s) (deeds_of o.lines) ≡ true
    → AreCpus (cpus_of s) (homes_of s) → IsPlaced (homes_of s) (start s) → IsPlaced (homes_of s) (machine_of o.queues)
outcome_placed s ds o one allowed at_cpus placed =
    subst (λ (m : Machine). IsPlaced (homes_of s) m) (sym one.machine)
    (placed_after (cpus_of s) (homes_of s) (start s) ds (length-start s) (subst (λ (es : List Deed). list_all (allows s) es ≡ true) one.deeds_are allowed) at_cpus placed)
