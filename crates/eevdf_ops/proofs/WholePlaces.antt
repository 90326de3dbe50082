-- Deeds that are allowed keep each task in one place, and a sleeping one at its home.
use Rattle.std.proofs.Common.{◌≡◌, ℕ, ◌<◌, ◌≤◌, Bool, true, false, ◌||◌, List, [], ◌∷◌, length, set, refl, sym, ap, ◌∙◌, arith}
use Rattle.std.specs.Prelude.{◌==◌, Option, Some, None, Result, Ok, Err}
use Rattle.std.specs.{Option.unwrap_or, FinMap.contains_key}
use Rattle.std.proofs.Math.ListN.{length-set}
use Rattle.eevdf_queue.specs.{declared.entry.Entry.Entry, State.State, State.Contents, Leaving.carried_running, Leaving.leave, Placing.placed_entry}
use Rattle.eevdf_queue.specs.{Doze.put_dozing}
use Rattle.eevdf_queue.specs.Moves.{put_asleep, sleeper_of, with_runnable}
use Rattle.eevdf_ops.specs.{declared.acts.Act.Act, declared.deeds.Answer.Answer, declared.deeds.Deed.Deed, Machine.Machine, Machine.queue_at}
use Rattle.eevdf_ops.specs.{Acts.act_of, LocalActs.dozed_here, LocalActs.slept_here, Transfers.slept_away, Transfers.pulled, Origins.decider, Origins.origin_of}
use Rattle.eevdf_ops.specs.Whole.{at_two, done_at, whole, machine_after}
use Rattle.eevdf_ops.specs.declared.deeds.Deed.TheVariants.{Sleep, Doze, Wake, Pull, End}
use Rattle.eevdf_ops.specs.declared.acts.Act.TheVariants as act
use Rattle.eevdf_ops.specs.Setup.{home_of, is_task, is_allowed}
use Rattle.eevdf_ops.specs.Places.{places_in, IsPlaced, AreCpus}
use Rattle.eevdf_ops.specs.{WholePull.offer, WholePull.load_of, WholePull.decision, WholePull.with_task, WholeEnd.ending}
use Rattle.eevdf_ops.proofs.Carried.{Carries, running-carries, ending-carries, offer-carries, leaves-without, carried-stands, left-nowhere}
use Rattle.eevdf_ops.proofs.Pulling.{IsTaken, decision-taken, with_task-put}
use Rattle.eevdf_ops.proofs.{DeedNames.PullNames, DeedNames.decider_below, DeedNames.home_below, DeedNames.pull_names, WholeActs.sleep_by_home, WholeActs.doze_by_home, WholeActs.end_by_home}
use Rattle.eevdf_ops.proofs.MapCounts.{equal, contains-insert}
use Rattle.eevdf_ops.proofs.QueuePlaces.{IsWith, IsWithout, own-same, wake-same, asleep-with, dozing-with, owed, runnable-with}
use Rattle.eevdf_ops.proofs.Origins.{operation_in}
use Rattle.eevdf_ops.proofs.MachinePlaces.{at-most, none-twice, places-at, SleepsAtHome, one-placed, same-placed, two-placed}

pub few_places : (homes : List ℕ) (m : Machine) (cpu t : ℕ) → cpu < length m → IsPlaced homes m → places_in (queue_at m cpu) t ≤ 1
few_places homes m cpu t h placed = omega (arith, places-at m cpu t h, placed.once t, at-most (is_task homes t))

fallen : (homes : List ℕ) (cpu u : ℕ) (b c : Bool) → (b ≡ true → home_of homes u ≡ cpu) → (c ≡ true → home_of homes u ≡ cpu) → (b || c) ≡ true → home_of homes u ≡ cpu
fallen homes cpu u true c f g e = f refl
fallen homes cpu u false c f g e = g e

pub asleep_home : (homes : List ℕ) (cpu : ℕ) (q : State) (p : Contents) → home_of homes p.task ≡ cpu → SleepsAtHome homes cpu q → SleepsAtHome homes cpu (put_asleep q p)
asleep_home homes cpu q p home asleep u e =
    fallen homes cpu u (u == p.task) (contains_key q.asleep u) (λ same. ap (home_of homes) (equal u p.task same) ∙ home) (asleep u)
    (sym (contains-insert q.asleep p.task u (sleeper_of p)) ∙ e)

-- a task leaves a queue and is put into it again, to sleep or to doze
back-placed : (homes : List ℕ) (m : Machine) (cpu task : ℕ) (p : Contents) (r : State) → cpu < length m → Carries (queue_at m cpu) task p
    → (places_in (leave (queue_at m cpu) p.task) p.task ≡ 0 → IsWith (leave (queue_at m cpu) p.task) p.task r)
    → (SleepsAtHome homes cpu (leave (queue_at m cpu) p.task) → SleepsAtHome homes cpu r) → IsPlaced homes m → IsPlaced homes (set m cpu r)
back-placed homes m cpu task p r h c joins sleeps placed =
    let q : State = queue_at m cpu in
    let less : IsWithout q p.task (leave q p.task) = leaves-without q task p c in
    let more : IsWith (leave q p.task) p.task r = joins (left-nowhere q task p c (few_places homes m cpu p.task h placed)) in
    one-placed homes m cpu r h (λ u. omega (arith, less.places u, more.places u)) (sleeps (λ u a. placed.at_home cpu u (less.asleep u a))) placed

-- a task falls asleep in the queue that it leaves
here-placed : (homes : List ℕ) (m : Machine) (cpu task : ℕ) (o : Option Contents) → cpu < length m → home_of homes task ≡ cpu → ((p : Contents) → o ≡ Some p → Carries (queue_at m cpu) task p) → IsPlaced homes m
    → IsPlaced homes (set m cpu (slept_here o (queue_at m cpu)).1)
here-placed homes m cpu task None h home carries placed = one-placed homes m cpu (queue_at m cpu) h (λ u. refl) (placed.at_home cpu) placed
here-placed homes m cpu task (Some p) h home carries placed =
    let left : State = leave (queue_at m cpu) p.task in
    let c : Carries (queue_at m cpu) task p = carries p refl in
    back-placed homes m cpu task p (put_asleep left p) h c (asleep-with left p) (asleep_home homes cpu left p (ap (home_of homes) c.of_task ∙ home)) placed

-- or dozes off there
dozed-placed : (homes : List ℕ) (m : Machine) (cpu task : ℕ) (o : Option Contents) → cpu < length m → home_of homes task ≡ cpu → ((p : Contents) → o ≡ Some p → Carries (queue_at m cpu) task p) → IsPlaced homes m
    → IsPlaced homes (set m cpu (dozed_here o (queue_at m cpu)).1)
dozed-placed homes m cpu task None h home carries placed = one-placed homes m cpu (queue_at m cpu) h (λ u. refl) (placed.at_home cpu) placed
dozed-placed homes m cpu task (Some p) h home carries placed =
    let left : State = leave (queue_at m cpu) p.task in
    let c : Carries (queue_at m cpu) task p = carries p refl in
    back-placed homes m cpu task p (put_dozing left p) h c (dozing-with left p) (asleep_home homes cpu left (owed p) (ap (home_of homes) c.of_task ∙ home)) placed

-- or in another one
away-placed : (homes : List ℕ) (m : Machine) (cpu task home : ℕ) (o : Option Contents) → PullNames (length m) cpu home → home_of homes task ≡ home → ((p : Contents) → o ≡ Some p → Carries (queue_at m cpu) task p) → IsPlaced homes m
    → IsPlaced homes (at_two m cpu home (slept_away o (queue_at m cpu) (queue_at m home))).1
away-placed homes m cpu task home None named at carries placed =
    two-placed homes m cpu home (queue_at m cpu) (queue_at m home) named.apart named.puller named.from (λ u. refl) (placed.at_home cpu) (placed.at_home home) placed
away-placed homes m cpu task home (Some p) named at carries placed =
    let q : State = queue_at m cpu in
    let r : State = queue_at m home in
    let c : Carries q task p = carries p refl in
    let less : IsWithout q p.task (leave q p.task) = leaves-without q task p c in
    let more : IsWith r p.task (put_asleep r p) = asleep-with r p (omega (arith, none-twice homes m cpu home placed named.apart named.puller named.from p.task, carried-stands q task p c)) in
    two-placed homes m cpu home (leave q p.task) (put_asleep r p) named.apart named.puller named.from (λ u. omega (arith, less.places u, more.places u))
    (λ u a. placed.at_home cpu u (less.asleep u a)) (asleep_home homes home r p (ap (home_of homes) c.of_task ∙ at) (placed.at_home home)) placed

asleep_kept : (q : State) (p : Contents) (o : Option Entry) → (unwrap_or (with_runnable q p.task o) q).asleep ≡ q.asleep
asleep_kept q p None = refl
asleep_kept q p (Some entry) = refl

-- the task comes that is pulled
pulled-placed : (homes : List ℕ) (m : Machine) (cpu source : ℕ) (d : Result Contents Answer) → PullNames (length m) cpu source
    → decision (queue_at m cpu) (load_of (queue_at m source)) (offer (queue_at m source)) ≡ d → IsPlaced homes m → IsPlaced homes (at_two m cpu source (pulled d (queue_at m cpu) (queue_at m source))).1
pulled-placed homes m cpu source (Err refusal) named e placed =
    two-placed homes m cpu source (queue_at m cpu) (queue_at m source) named.apart named.puller named.from (λ u. refl) (placed.at_home cpu) (placed.at_home source) placed
pulled-placed homes m cpu source (Ok p) named e placed =
    let q : State = queue_at m cpu in
    let r : State = queue_at m source in
    let taken : IsTaken q (load_of r) (offer r) p = decision-taken q (load_of r) (offer r) p e in
    let c : Carries r p.task p = offer-carries r p taken.offered_it in
    let less : IsWithout r p.task (leave r p.task) = leaves-without r p.task p c in
    let none : places_in q p.task ≡ 0 = omega (arith, none-twice homes m cpu source placed named.apart named.puller named.from p.task, carried-stands r p.task p c) in
    let more : IsWith q p.task (with_task q p) = runnable-with q (with_task q p) p.task (placed_entry q (sleeper_of p)) none (with_task-put q p taken.room) in
    two-placed homes m cpu source (with_task q p) (leave r p.task) named.apart named.puller named.from (λ u. omega (arith, less.places u, more.places u))
    (λ u a. placed.at_home cpu u (ap (λ s. contains_key s u) (sym (asleep_kept q p (placed_entry q (sleeper_of p)))) ∙ a))
    (λ u a. placed.at_home source u (less.asleep u a)) placed

pub whole-placed : (homes : List ℕ) (deed : Deed) (m : Machine) → is_allowed (length m) homes deed ≡ true → AreCpus (length m) homes → IsPlaced homes m → IsPlaced homes (whole homes deed m).1
whole-placed homes (Sleep cpu task) m ok cpus placed =
    let o : Option Contents = carried_running (queue_at m cpu) task in
    let h : cpu < length m = decider_below _ homes (Sleep cpu task) ok in
    let carries : (p : Contents) → o ≡ Some p → Carries (queue_at m cpu) task p = λ p e. running-carries (queue_at m cpu) task p e in
    sleep_by_home (λ (r : Answer × Machine). IsPlaced homes r.1) homes cpu task m (λ home. here-placed homes m cpu task o h home carries placed)
    (λ away. away-placed homes m cpu task (home_of homes task) o (record { puller = h; from = home_below _ homes cpu task ok cpus; apart = λ same. away (sym same) }) refl carries placed)
whole-placed homes (Doze cpu task) m ok cpus placed =
    let o : Option Contents = carried_running (queue_at m cpu) task in
    let h : cpu < length m = decider_below _ homes (Doze cpu task) ok in
    let carries : (p : Contents) → o ≡ Some p → Carries (queue_at m cpu) task p = λ p e. running-carries (queue_at m cpu) task p e in
    doze_by_home (λ (r : Answer × Machine). IsPlaced homes r.1) homes cpu task m (λ home. dozed-placed homes m cpu task o h home carries placed)
    (λ away. away-placed homes m cpu task (home_of homes task) o (record { puller = h; from = home_below _ homes cpu task ok cpus; apart = λ same. away (sym same) }) refl carries placed)
whole-placed homes (Wake cpu task sender) m ok cpus placed =
    let h : cpu < length m = decider_below _ homes (Wake cpu task sender) ok in
    same-placed homes m cpu _ h (wake-same (queue_at m cpu) task (few_places homes m cpu task h placed)) placed
whole-placed homes (End cpu task) m ok cpus placed =
    let o : Option Contents = ending (queue_at m cpu) task in
    let h : cpu < length m = decider_below _ homes (End cpu task) ok in
    let carries : (p : Contents) → o ≡ Some p → Carries (queue_at m cpu) task p = λ p e. ending-carries (queue_at m cpu) task p e in
    end_by_home (λ (r : Answer × Machine). IsPlaced homes r.1) homes cpu task m
    (λ home. here-placed homes m cpu task o h home carries placed)
    (λ away. away-placed homes m cpu task (home_of homes task) o (record { puller = h; from = home_below _ homes cpu task ok cpus; apart = λ same. away (sym same) }) refl carries placed)
whole-placed homes (Pull cpu source) m ok cpus placed =
    pulled-placed homes m cpu source (decision (queue_at m cpu) (load_of (queue_at m source)) (offer (queue_at m source))) (pull_names (length m) homes cpu source ok) refl placed
whole-placed homes d m ok cpus placed = same-placed homes m (decider d) _ (decider_below _ homes d ok) (own-same (operation_in (origin_of d)) (queue_at m (decider d))) placed

length-done : (cpu : ℕ) (a : Act) (m : Machine) → length (done_at cpu a m).1 ≡ length m
length-done cpu (act.Local a) m = length-set m cpu _
length-done cpu (act.Transfer other t) m = length-set (set m cpu _) other _ ∙ length-set m cpu _

-- no deed changes the number of CPUs
pub length-whole : (homes : List ℕ) (deed : Deed) (m : Machine) → length (whole homes deed m).1 ≡ length m
length-whole homes deed m = length-done (decider deed) (act_of homes deed) m

pub length-after : (homes : List ℕ) (m : Machine) (ds : List Deed) → length (machine_after homes m ds) ≡ length m
length-after homes m [] = refl
length-after homes m (d ∷ ds) = length-after homes (whole homes d m).1 ds ∙ length-whole homes d m
