-- What the scheduler of one thread keeps of its homes and queues.
use Rattle.std.proofs.Common.{◌≡◌, ℕ, ◌++◌, true, List, length, map, take, drop, replicate, sym, ap, subst, ◌∙◌, arith}
use Rattle.std.specs.Prelude.{None}
use Rattle.std.proofs.Math.Seq.{take-append_seam}
use Rattle.eevdf_queue.specs.State.{View, empty_state}
use Rattle.eevdf_ops.specs.{declared.task_spec.TaskSpec.TaskSpec, declared.deeds.Deed.Deed, Faults.tasks_fault, Setup.is_allowed}
use Rattle.eevdf_ops.specs.{Machine.Machine, Machine.begin_at_homes, Outcome.machine_of, Places.AreCpus, Places.IsPlaced}
use Rattle.eevdf_ops.specs.Whole.{whole}
use Rattle.eevdf_ops.proofs.{Machines.length-machine_of, Machines.start_has, WholePlaces.whole-placed, WholePlaces.length-whole}
use Rattle.eevdf_ops.proofs.{StartingPlaces.start-placed, StartingPlaces.homes-cpus}

abbrev pub AreKept : List ℕ → List View → Type 0
AreKept homes queues = AreCpus (length queues) homes × IsPlaced homes (machine_of queues)

-- at the start
pub kept-start : (n k : ℕ) (ts us : List TaskSpec) (homes : List ℕ) (queues : List View) → tasks_fault n 0 ts ≡ None → us ≡ ts → k ≡ n → homes ≡ map (λ (t : TaskSpec). t.home) us
    → machine_of queues ≡ begin_at_homes 0 ts (replicate k empty_state) → AreKept homes queues
kept-start n k ts us homes queues well same many eh em =
    let at : homes ≡ map (λ (t : TaskSpec). t.home) ts = eh ∙ ap (λ (l : List TaskSpec). map (λ (t : TaskSpec). t.home) l) same in
    let machine : machine_of queues ≡ begin_at_homes 0 ts (replicate n empty_state) = em ∙ ap (λ (i : ℕ). begin_at_homes 0 ts (replicate i empty_state)) many in
    let cpus : length queues ≡ n = start_has queues 0 n ts machine in (
      subst (λ (hs : List ℕ). AreCpus (length queues) hs) (sym at) (subst (λ (i : ℕ). AreCpus i (map (λ (t : TaskSpec). t.home) ts)) (sym cpus) (homes-cpus n 0 ts well)),
      subst (λ (hs : List ℕ). IsPlaced hs (machine_of queues)) (sym at) (subst (λ (m : Machine). IsPlaced (map (λ (t : TaskSpec). t.home) ts) m) (sym machine) (start-placed n ts well)),
    )

-- the queues of a slice that was lent, written back
written_back : (len : ℕ) (old new : List View) → len ≡ length old → length new ≡ length old → take len (new ++ drop (length new) old) ≡ new
written_back len old new e f =
    let all : len ≡ length new = omega arith in
    ap (λ (n : ℕ). take n (new ++ drop (length new) old)) all ∙ take-append_seam new (drop (length new) old)

-- after a deed
pub kept-whole : (deed : Deed) (homes hs : List ℕ) (items qs new : List View) (len : ℕ) → hs ≡ homes → qs ≡ items → len ≡ length items → is_allowed (length items) homes deed ≡ true → AreKept homes items
    → machine_of new ≡ (whole hs deed (machine_of qs)).1 → AreKept homes (take len (new ++ drop (length new) items))
kept-whole deed homes hs items qs new len eh eq el ok kept e =
    let m : Machine = machine_of items in
    let after : machine_of new ≡ (whole homes deed m).1 =
    e ∙ ap (λ (l : List ℕ). (whole l deed (machine_of qs)).1) eh ∙ ap (λ (l : List View). (whole homes deed (machine_of l)).1) eq in
    let same : length new ≡ length items = sym (length-machine_of new) ∙ ap (λ (n : Machine). length n) after ∙ length-whole homes deed m ∙ length-machine_of items in
    let allowed : is_allowed (length m) homes deed ≡ true = ap (λ (n : ℕ). is_allowed n homes deed) (length-machine_of items) ∙ ok in
    let cpus : AreCpus (length m) homes = subst (λ (n : ℕ). AreCpus n homes) (sym (length-machine_of items)) kept.0 in
    let placed : IsPlaced homes (machine_of new) = subst (λ (n : Machine). IsPlaced homes n) (sym after) (whole-placed homes deed m allowed cpus kept.1) in
    subst (λ (l : List View). AreKept homes l) (sym (written_back len items new el same))
    (subst (λ (n : ℕ). AreCpus n homes) (sym same) kept.0, placed)
