-- Each deed as changes of single queues.
use Rattle.std.proofs.Common.{◌≡◌, ◌≢◌, ℕ, ◌<◌, Bool, true, false, cond, ◌||◌, List, [], length, set, refl, sym, ap, subst, ◌∙◌, arith}
use Rattle.std.specs.Prelude.{◌==◌, Option, None, Result, Ok, Err}
use Rattle.std.specs.Result.{result_ok}
use Rattle.std.proofs.{Math.ListN.length-set, lemmas.List.get_or-set_same, lemmas.List.set_comm, lemmas.Bool.Decides.nat_tests}
use Rattle.eevdf_queue.specs.State.{State, Contents, empty_state}
use Rattle.eevdf_queue.specs.{Leaving.carried_running}
use Rattle.eevdf_ops.specs.{declared.deeds.Deed.Deed, declared.deeds.Answer.Answer, Setup.home_of, Machine.Machine}
use Rattle.eevdf_ops.specs.{Acts.act_of, Machine.queue_at, Whole.whole, Whole.at_two, Transfers.slept_away, WholeEnd.ending}
use Rattle.eevdf_ops.specs.declared.deeds.Deed.TheVariants.{Sleep, Doze, Pull, End}
use Rattle.eevdf_ops.specs.Parts.{decider, done_alone, giver, taker, Moved, given, answer_of_sleep, answer_of_end, answer_of_pull, local_answer, taken, after_leaving, after_falling_asleep, after_joining, after_putting, putting_of_doze, only_at, local_after}
use Rattle.eevdf_ops.specs.{declared.halves.Putting.Putting, declared.halves.Putting.TheVariants.Asleep, declared.halves.Putting.TheVariants.Dozing}
use Rattle.eevdf_ops.specs.PartsLaws as laws
use Rattle.eevdf_ops.specs.WholePull.{offer, load_of, decision, pull_decision}
use Rattle.eevdf_ops.proofs.{MapCounts.equal, MachinePlaces.other_queue, Pulling.decision-taken, Pulling.refusals, WholeActs.sleep_by_home, WholeActs.doze_by_home, WholeActs.end_by_home}
use Rattle.eevdf_ops.proofs.DeedNames.{PullNames, decider_below, home_below, pull_names, unequal}

changed_by : (f : State → State) (m : Machine) (c k : ℕ) (b : Bool) → (k == c) ≡ b → c < length m → queue_at (set m c (f (queue_at m c))) k ≡ cond b (f (queue_at m k)) (queue_at m k)
changed_by f m c k true e h =
    let at : k ≡ c = equal k c e in
    ap (λ (i : ℕ). queue_at (set m c (f (queue_at m c))) i) at ∙ get_or-set_same m c (f (queue_at m c)) empty_state h ∙ ap (λ (i : ℕ). f (queue_at m i)) (sym at)
changed_by f m c k false e h = other_queue m c k (f (queue_at m c)) (unequal k c e)

-- one queue changes
pub changed : (f : State → State) (m : Machine) (c k : ℕ) → c < length m → queue_at (set m c (f (queue_at m c))) k ≡ only_at c k f (queue_at m k)
changed f m c k h = changed_by f m c k (k == c) refl h

-- one changes, and then another
changed_twice : (f g : State → State) (m : Machine) (c d k : ℕ) → c < length m → d < length m
    → queue_at (set (set m c (f (queue_at m c))) d (g (queue_at (set m c (f (queue_at m c))) d))) k ≡ only_at d k g (only_at c k f (queue_at m k))
changed_twice f g m c d k h i =
    changed g (set m c (f (queue_at m c))) d k (omega (arith, length-set m c (f (queue_at m c)))) ∙ ap (only_at d k g) (changed f m c k h)

pub idle : (b : Bool) (q : State) → cond b q q ≡ q
idle true q = refl
idle false q = refl

-- two that aren't the same
changed_apart : (f g : State → State) (m : Machine) (c d k : ℕ) → c < length m → d < length m → d ≢ c
    → queue_at (set (set m c (f (queue_at m c))) d (g (queue_at m d))) k ≡ only_at d k g (only_at c k f (queue_at m k))
changed_apart f g m c d k h i apart =
    ap (λ (q : State). queue_at (set (set m c (f (queue_at m c))) d (g q)) k) (sym (other_queue m c d (f (queue_at m c)) apart)) ∙ changed_twice f g m c d k h i

-- one that changes twice
at_once : (f g : State → State) (b : Bool) (q : State) → cond b (g (f q)) q ≡ cond b (g (cond b (f q) q)) (cond b (f q) q)
at_once f g true q = refl
at_once f g false q = refl

rested_queue : Putting → ℕ → ℕ → ℕ → Option Contents → State → State
rested_queue how cpu home k o q = only_at home k (after_putting how o) (only_at cpu k (after_leaving o) q)

here_after : (how : Putting) (m : Machine) (cpu k : ℕ) (o : Option Contents) → cpu < length m
    → queue_at (set m cpu (after_putting how o (after_leaving o (queue_at m cpu)))) k ≡ rested_queue how cpu cpu k o (queue_at m k)
unfolding rested_queue
here_after how m cpu k o h =
    changed (λ q. after_putting how o (after_leaving o q)) m cpu k h ∙ at_once (after_leaving o) (after_putting how o) (k == cpu) (queue_at m k)

away_after : (m : Machine) (cpu home k : ℕ) (o : Option Contents) → cpu < length m → home < length m → home ≢ cpu
    → queue_at (at_two m cpu home (slept_away o (queue_at m cpu) (queue_at m home))).1 k ≡ rested_queue Asleep cpu home k o (queue_at m k)
unfolding rested_queue
away_after m cpu home k o h i apart = changed_apart (after_leaving o) (after_falling_asleep o) m cpu home k h i apart

pub untaken : (q : State) (load : ℕ) (offered o : Option Contents) (why : Answer) → decision q load offered ≡ Err why → taken why o ≡ None
untaken q load offered o why e = refusals (λ (a : Answer). taken a o ≡ None) q load offered why e refl refl refl

-- what a pull takes is the candidate or none
pub taken_ok : (q s : State) (d : Result Contents Answer) → decision q (load_of s) (offer s) ≡ d → taken (answer_of_pull d) (offer s) ≡ result_ok d
taken_ok q s (Err why) e = untaken q (load_of s) (offer s) (offer s) why e
taken_ok q s (Ok p) e = (decision-taken q (load_of s) (offer s) p e).offered_it

pull_after : (m : Machine) (cpu source k : ℕ) (o : Option Contents) → PullNames (length m) cpu source
    → queue_at (set (set m cpu (after_joining o (queue_at m cpu))) source (after_leaving o (queue_at m source))) k ≡ only_at cpu k (after_joining o) (only_at source k (after_leaving o) (queue_at m k))
pull_after m cpu source k o named =
    ap (λ (n : Machine). queue_at n k) (set_comm m cpu source (after_joining o (queue_at m cpu)) (after_leaving o (queue_at m source)) named.apart)
    ∙ changed_apart (after_leaving o) (after_joining o) m source cpu k named.from named.puller named.apart

-- what the giver has for a deed
abbrev pub moved_by : Machine → Deed → Moved
moved_by m deed = given deed (queue_at m (giver deed))

-- the decider answers
pub whole-answer : (homes : List ℕ) (deed : Deed) (m : Machine) → (whole homes deed m).0 ≡ local_answer deed (queue_at m (decider deed)) (moved_by m deed)
whole-answer homes (Sleep cpu task) m = sleep_by_home (λ (r : Answer × Machine). r.0 ≡ answer_of_sleep (carried_running (queue_at m cpu) task)) homes cpu task m (λ e. refl) (λ e. refl)
whole-answer homes (Doze cpu task) m = doze_by_home (λ (r : Answer × Machine). r.0 ≡ answer_of_sleep (carried_running (queue_at m cpu) task)) homes cpu task m (λ e. refl) (λ e. refl)
whole-answer homes (End cpu task) m = end_by_home (λ (r : Answer × Machine). r.0 ≡ answer_of_end (ending (queue_at m cpu) task)) homes cpu task m (λ e. refl) (λ e. refl)
whole-answer homes deed m = refl

-- a doze is one at home alone
pub dozing-here : (cpu home : ℕ) → home ≡ cpu → putting_of_doze cpu home ≡ Dozing
dozing-here cpu home e = let same : (home == cpu) ≡ true = grind (arith, nat_tests) in ap (λ (b : Bool). cond {A = Putting} b Dozing Asleep) same

pub sleeping-away : (cpu home : ℕ) → home ≢ cpu → putting_of_doze cpu home ≡ Asleep
sleeping-away cpu home apart = let other : (home == cpu) ≡ false = grind (arith, nat_tests) in ap (λ (b : Bool). cond {A = Putting} b Dozing Asleep) other

-- and each queue changes by itself
pub whole-after : (homes : List ℕ) (deed : Deed) (m : Machine) (k : ℕ) → laws.Fits homes deed m
    → queue_at (whole homes deed m).1 k ≡ local_after homes deed k (queue_at m k) (whole homes deed m).0 (moved_by m deed)
unfolding rested_queue
whole-after homes (Sleep cpu task) m k fits =
    let o : Option Contents = carried_running (queue_at m cpu) task in
    let h : cpu < length m = decider_below _ homes (Sleep cpu task) fits.allowed in
    sleep_by_home (λ (r : Answer × Machine). queue_at r.1 k ≡ rested_queue Asleep cpu (home_of homes task) k o (queue_at m k)) homes cpu task m
    (λ e. here_after Asleep m cpu k o h ∙ ap (λ (n : ℕ). rested_queue Asleep cpu n k o (queue_at m k)) (sym e))
    (λ apart. away_after m cpu (home_of homes task) k o h (home_below _ homes cpu task fits.allowed fits.cpus) apart)
whole-after homes (Doze cpu task) m k fits =
    let home : ℕ = home_of homes task in
    let o : Option Contents = carried_running (queue_at m cpu) task in
    let h : cpu < length m = decider_below _ homes (Doze cpu task) fits.allowed in
    doze_by_home (λ (r : Answer × Machine). queue_at r.1 k ≡ rested_queue (putting_of_doze cpu home) cpu home k o (queue_at m k)) homes cpu task m
    (λ e. here_after Dozing m cpu k o h ∙ ap (λ (n : ℕ). rested_queue Dozing cpu n k o (queue_at m k)) (sym e)
    ∙ ap (λ (how : Putting). rested_queue how cpu home k o (queue_at m k)) (sym (dozing-here cpu home e)))
    (λ apart. away_after m cpu home k o h (home_below _ homes cpu task fits.allowed fits.cpus) apart
    ∙ ap (λ (how : Putting). rested_queue how cpu home k o (queue_at m k)) (sym (sleeping-away cpu home apart)))
whole-after homes (End cpu task) m k fits =
    let o : Option Contents = ending (queue_at m cpu) task in
    let h : cpu < length m = decider_below _ homes (End cpu task) fits.allowed in
    end_by_home (λ (r : Answer × Machine). queue_at r.1 k ≡ rested_queue Asleep cpu (home_of homes task) k o (queue_at m k)) homes cpu task m
    (λ e. here_after Asleep m cpu k o h ∙ ap (λ (n : ℕ). rested_queue Asleep cpu n k o (queue_at m k)) (sym e))
    (λ apart. away_after m cpu (home_of homes task) k o h (home_below _ homes cpu task fits.allowed fits.cpus) apart)
whole-after homes (Pull cpu source) m k fits =
    let q : State = queue_at m cpu in
    let s : State = queue_at m source in
    subst (λ (x : Option Contents). queue_at (whole homes (Pull cpu source) m).1 k ≡ only_at cpu k (after_joining x) (only_at source k (after_leaving x) (queue_at m k)))
    (sym (taken_ok q s (pull_decision m cpu source) refl)) (pull_after m cpu source k (result_ok (pull_decision m cpu source)) (pull_names (length m) homes cpu source fits.allowed))
whole-after homes deed m k fits = changed (λ q. (done_alone (act_of [] deed) q).1) m (decider deed) k (decider_below _ homes deed fits.allowed)

or_false : (a b : Bool) → (a || b) ≡ false → (a ≡ false) × (b ≡ false)
or_false true b e = cc
or_false false b e = (refl, e)

stays : (homes : List ℕ) (deed : Deed) (m : Machine) (k : ℕ) → k ≢ decider deed → k ≢ giver deed → k ≢ taker homes deed → queue_at (whole homes deed m).1 k ≡ queue_at m k
stays homes (Sleep cpu task) m k d g t =
    sleep_by_home (λ (r : Answer × Machine). queue_at r.1 k ≡ queue_at m k) homes cpu task m (λ e. other_queue m cpu k _ d)
    (λ e. other_queue (set m cpu _) (home_of homes task) k _ t ∙ other_queue m cpu k _ d)
stays homes (Doze cpu task) m k d g t =
    doze_by_home (λ (r : Answer × Machine). queue_at r.1 k ≡ queue_at m k) homes cpu task m (λ e. other_queue m cpu k _ d)
    (λ e. other_queue (set m cpu _) (home_of homes task) k _ t ∙ other_queue m cpu k _ d)
stays homes (End cpu task) m k d g t =
    end_by_home (λ (r : Answer × Machine). queue_at r.1 k ≡ queue_at m k) homes cpu task m (λ e. other_queue m cpu k _ d)
    (λ e. other_queue (set m cpu _) (home_of homes task) k _ t ∙ other_queue m cpu k _ d)
stays homes (Pull cpu source) m k d g t = other_queue (set m cpu _) source k _ g ∙ other_queue m cpu k _ d
stays homes deed m k d g t = other_queue m (decider deed) k _ d

pub others_stay : laws.OthersStay
others_stay homes deed m c e =
    let first : (c == decider deed) ≡ false = (or_false _ _ e).0 in
    let rest : ((c == giver deed) || (c == taker homes deed)) ≡ false = (or_false (c == decider deed) _ e).1 in
    stays homes deed m c (unequal c (decider deed) first) (unequal c (giver deed) (or_false _ _ rest).0) (unequal c (taker homes deed) (or_false (c == giver deed) _ rest).1)
