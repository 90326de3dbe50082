-- The days of one CPU of a machine, and of all its CPUs: nothing is out of range.
use Rattle.std.proofs.Common.{◌≡◌, ℕ, ◌==◌, ◌<◌, Bool, true, false, ◌||◌, cond, List, [], ◌∷◌, length, refl, sym, ap, ◌∙◌, subst, arith}
use Rattle.std.specs.List.{list_all}
use Rattle.std.proofs.lemmas.{Bool.Decides.nat_tests, Bool.and_parts}
use Rattle.eevdf_ops.specs.{declared.deeds.Deed.Deed, declared.deeds.Line.Line, declared.deeds.Answer.TheVariants.Range}
use Rattle.eevdf_ops.specs.declared.deeds.Deed.TheVariants.{Tick, Pick, Rebase}
use Rattle.eevdf_ops.specs.{Setup.is_allowed, Machine.queue_at, Parts.decider, Parts.touches, PartsLaws.OthersStay}
use Rattle.eevdf_ops.specs.{Programs.deeds_of, Programs.deeds_by, Programs.lines_by, Whole.lines_of, Whole.machine_after}
use Rattle.eevdf_ops.proofs.{DeedNames.decider_below, MapCounts.itself, WholePlaces.length-after}
use Rattle.eevdf_fairness.specs.{Turns.Turn, Turns.after_turns, OneCpu.turns_on, OneCpu.touching}
use Rattle.eevdf_fairness.specs.Days.{after_days, IsFarFromRange, DaysStayInRange}
use Rattle.eevdf_fairness.specs.MachineDays.{NoneIsRange, days_on, AreOfDays, HasStayed, OneCpuStaysInRange, MachinesStayInRange}
use Rattle.eevdf_fairness.proofs.{DailyTurns.days_done, DailyTurns.all_fine}
use Rattle.eevdf_fairness.proofs.OwnDeeds.{IsOwn, AreOwn, own_after, AreFine, both_own, turns_own, HasGone, has_gone}

-- ---- days are such deeds
days_own : (cpu : ℕ) (days : List (List Turn)) → AreOwn cpu (days_on cpu days)
days_own cpu [] = tt
days_own cpu (day ∷ days) = both_own cpu (turns_on cpu day) (Rebase cpu ∷ days_on cpu days) (turns_own cpu day) (refl, days_own cpu days)

of_days : (cpu : ℕ) (ds : List Deed) → AreOfDays cpu ds → AreOwn cpu ds
of_days cpu ds h = subst (AreOwn cpu) (sym h.only) (both_own cpu (days_on cpu h.days) (turns_on cpu h.today) (days_own cpu h.days) (turns_own cpu h.today))

-- ---- what is left
pub one_cpu_stays_in_range : OthersStay → DaysStayInRange → OneCpuStaysInRange
one_cpu_stays_in_range stay law homes m cpu deeds h start days =
    let went : HasGone homes cpu m deeds (touching homes cpu deeds) = has_gone stay homes cpu m deeds h (of_days cpu (touching homes cpu deeds) days) in
    let left : queue_at (machine_after homes m deeds) cpu ≡ after_turns (after_days (queue_at m cpu) days.days) days.today =
    went.after ∙ ap (λ (ds : List Deed). own_after ds (queue_at m cpu)) days.only ∙ days_done cpu days.days days.today (queue_at m cpu) in
    record {
      far = subst IsFarFromRange (sym left) (law (queue_at m cpu) start.time days.days days.today start.near days.are_days days.is_day);
      lines = went.lines (subst (λ (ds : List Deed). AreFine ds (queue_at m cpu)) (sym days.only)
          (all_fine law cpu (queue_at m cpu) start.time start.near days.days days.today days.are_days days.is_day));
    }

-- ---- a whole machine
deeds_by_lines : (cpu : ℕ) (lines : List Line) → deeds_of (lines_by cpu lines) ≡ deeds_by cpu (deeds_of lines)
deeds_by_lines cpu [] = refl
deeds_by_lines cpu (l ∷ lines) = by_decider (decider l.deed == cpu) (deeds_by_lines cpu lines)
  where
    by_decider : (b : Bool) → deeds_of (lines_by cpu lines) ≡ deeds_by cpu (deeds_of lines)
        → deeds_of (cond b (l ∷ lines_by cpu lines) (lines_by cpu lines)) ≡ cond b (l.deed ∷ deeds_by cpu (deeds_of lines)) (deeds_by cpu (deeds_of lines))
    by_decider true rest = ap (λ (ds : List Deed). l.deed ∷ ds) rest
    by_decider false rest = rest

-- each deed is its CPU's own
abbrev AllOwn : List Deed → Type 0
AllOwn [] = Unit {0}
AllOwn (d ∷ ds) = IsOwn (decider d) d × AllOwn ds

head_own : (cpu : ℕ) (d : Deed) (ds : List Deed) (b : Bool) → b ≡ true → AreOwn cpu (cond b (d ∷ ds) ds) → IsOwn cpu d
head_own cpu d ds true e h = h.0
head_own cpu d ds false e h = cc

rest_own : (cpu : ℕ) (d : Deed) (ds : List Deed) (b : Bool) → AreOwn cpu (cond b (d ∷ ds) ds) → AreOwn cpu ds
rest_own cpu d ds true h = h.1
rest_own cpu d ds false h = h

all_own : (cpus : ℕ) (homes : List ℕ) (ds : List Deed) → list_all (is_allowed cpus homes) ds ≡ true
    → ((cpu : ℕ) → cpu < cpus → AreOwn cpu (deeds_by cpu ds)) → AllOwn ds
all_own cpus homes [] allowed each = tt
all_own cpus homes (d ∷ ds) allowed each =
    let both = and_parts (is_allowed cpus homes d) (list_all (is_allowed cpus homes) ds) allowed in (
      head_own (decider d) d (deeds_by (decider d) ds) (decider d == decider d) (itself (decider d)) (each (decider d) (decider_below cpus homes d both.0)),
      all_own cpus homes ds both.1 (λ cpu below. rest_own cpu d (deeds_by cpu ds) (decider d == cpu) (each cpu below)),
    )

-- so it touches no other queue
one_of_three : (at cpu : ℕ) → ((cpu == at) || ((cpu == at) || (cpu == at))) ≡ (at == cpu)
one_of_three at cpu = grind (arith, nat_tests)

touches_own : (homes : List ℕ) (cpu : ℕ) (d : Deed) → IsOwn (decider d) d → touches homes d cpu ≡ (decider d == cpu)
touches_own homes cpu (Tick at ns) is = one_of_three at cpu
touches_own homes cpu (Pick at) is = one_of_three at cpu
touches_own homes cpu (Rebase at) is = one_of_three at cpu
touches_own homes cpu deed is = absurd is

touching_own : (homes : List ℕ) (cpu : ℕ) (ds : List Deed) → AllOwn ds → touching homes cpu ds ≡ deeds_by cpu ds
touching_own homes cpu [] h = refl
touching_own homes cpu (d ∷ ds) h =
    ap (λ (b : Bool). cond b (d ∷ touching homes cpu ds) (touching homes cpu ds)) (touches_own homes cpu d h.0)
    ∙ ap (λ (rest : List Deed). cond (decider d == cpu) (d ∷ rest) rest) (touching_own homes cpu ds h.1)

-- and where no line of any CPU is out of range, none is
head_line : (l : Line) (ls : List Line) (b : Bool) → b ≡ true → NoneIsRange (cond b (l ∷ ls) ls) → l.answer ≡ Range → ⊥
head_line l ls true e h = h.0
head_line l ls false e h = cc

rest_lines : (l : Line) (ls : List Line) (b : Bool) → NoneIsRange (cond b (l ∷ ls) ls) → NoneIsRange ls
rest_lines l ls true h = h.1
rest_lines l ls false h = h

no_line : (cpus : ℕ) (homes : List ℕ) (lines : List Line) → list_all (is_allowed cpus homes) (deeds_of lines) ≡ true
    → ((cpu : ℕ) → cpu < cpus → NoneIsRange (lines_by cpu lines)) → NoneIsRange lines
no_line cpus homes [] allowed each = tt
no_line cpus homes (l ∷ lines) allowed each =
    let both = and_parts (is_allowed cpus homes l.deed) (list_all (is_allowed cpus homes) (deeds_of lines)) allowed in (
      head_line l (lines_by (decider l.deed) lines) (decider l.deed == decider l.deed) (itself (decider l.deed)) (each (decider l.deed) (decider_below cpus homes l.deed both.0)),
      no_line cpus homes lines both.1 (λ cpu below. rest_lines l (lines_by cpu lines) (decider l.deed == cpu) (each cpu below)),
    )

pub machines_stay_in_range : OneCpuStaysInRange → MachinesStayInRange
machines_stay_in_range law homes start lines is allowed starts days =
    let deeds : List Deed = deeds_of lines in
    let by_cpu : (cpu : ℕ) → cpu < length start → AreOfDays cpu (deeds_by cpu deeds) = λ cpu below. subst (AreOfDays cpu) (deeds_by_lines cpu lines) (days cpu below) in
    let own_all : AllOwn deeds = all_own (length start) homes deeds allowed (λ cpu below. of_days cpu (deeds_by cpu deeds) (by_cpu cpu below)) in
    let each : (cpu : ℕ) → cpu < length start → HasStayed cpu (machine_after homes start deeds) (lines_of homes start deeds) =
    λ cpu below. law homes start cpu deeds below (starts cpu below) (subst (AreOfDays cpu) (sym (touching_own homes cpu deeds own_all)) (by_cpu cpu below)) in
    record {
      far = λ cpu below. (each cpu (subst (λ (n : ℕ). cpu < n) (length-after homes start deeds) below)).far;
      lines = no_line (length start) homes lines allowed (λ cpu below. subst (λ (ls : List Line). NoneIsRange (lines_by cpu ls)) (sym is) (each cpu below).lines);
    }
