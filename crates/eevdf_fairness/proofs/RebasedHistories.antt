-- Histories that are the same but for rebases.
use Rattle.std.proofs.Common.{◌≡◌, ℕ, ◌==◌, Bool, true, false, cond, not, List, [], ◌∷◌, map, set, refl, sym, ap, ◌∙◌, subst, arith}
use Rattle.std.specs.Prelude.{ℤ, pos, ◌+ℤ◌, ◌-ℤ◌}
use Rattle.std.proofs.{lemmas.Int.ints, Math.ListN.length-set}
use Rattle.eevdf_queue.specs.{State.State, State.empty_state, Rebase.rebase}
use Rattle.eevdf_queue.specs.LoweredQueues.{IsLower, RebasedIsLower}
use Rattle.eevdf_ops.specs.{declared.deeds.Deed.Deed, declared.deeds.Answer.Answer, declared.deeds.Line.Line}
use Rattle.eevdf_ops.specs.declared.deeds.Deed.TheVariants.{Rebase}
use Rattle.eevdf_ops.specs.{Machine.Machine, Machine.queue_at, Programs.deeds_of, Whole.whole, Whole.lines_of, Whole.machine_after}
use Rattle.eevdf_ops.specs.Histories.{machine_told}
use Rattle.eevdf_ops.proofs.{MachinePlaces.other_queue, MapCounts.equal}
use Rattle.eevdf_fairness.specs.LoweredMachines.{IsLowerMachine, is_rebase, LoweredMachineAnswersAlike, without_rebases, lines_without_rebases, is_range, ranges_in, AreOutTogether}
use Rattle.eevdf_fairness.specs.LoweredMachines.{number_at, lowered_at, AreAlikeButForRebases, RebasesChangeNoAnswer, RebasesCanBeLeftOut, RebasedHistoriesAreAlike}
use Rattle.eevdf_fairness.proofs.OwnDeeds.{is_apart}
use Rattle.eevdf_fairness.proofs.LoweredAgain.{lower_same, lower_again, lower_back, lower_by, rebase_lowers, rebase_of_nobody, machine_same, machine_by, written}

-- ---- a rebase of one machine
-- the machine is lower by what the rebase answers
module _ (lower : RebasedIsLower) (at : ℕ) (m : Machine) where
  there : IsLower ((rebase (queue_at m at)).0) (queue_at m at) (queue_at (set m at (rebase (queue_at m at)).1) at)
  there =
      written (IsLower ((rebase (queue_at m at)).0) (queue_at m at)) m at ((rebase (queue_at m at)).1) (rebase_lowers lower (queue_at m at)) (λ nobody.
      subst (λ (q : State). IsLower ((rebase q).0) q empty_state) (sym nobody)
      (lower_by (pos 0) ((rebase empty_state).0) empty_state empty_state (sym rebase_of_nobody) (lower_same empty_state)))

  at_each : (cpu : ℕ) (b : Bool) → (at == cpu) ≡ b
      → IsLower (cond b (rebase (queue_at m at)).0 (pos 0)) (queue_at m cpu) (queue_at (set m at (rebase (queue_at m at)).1) cpu)
  at_each cpu true is =
      subst (λ (c : ℕ). IsLower ((rebase (queue_at m at)).0) (queue_at m c) (queue_at (set m at (rebase (queue_at m at)).1) c)) (equal at cpu is) there
  at_each cpu false is =
      subst (λ (q : State). IsLower (pos 0) (queue_at m cpu) q) (sym (other_queue m at cpu (rebase (queue_at m at)).1 (is_apart at cpu is))) (lower_same (queue_at m cpu))

  rebased_machine : (homes : List ℕ) → IsLowerMachine (λ (cpu : ℕ). number_at cpu (Rebase at) (whole homes (Rebase at) m).0) m (whole homes (Rebase at) m).1
  rebased_machine homes = record { cpus = length-set m at ((rebase (queue_at m at)).1); queues = λ cpu. at_each cpu (at == cpu) refl }

a_rebase : RebasedIsLower → (homes : List ℕ) (d : Deed) (m : Machine) → is_rebase d ≡ true
    → IsLowerMachine (λ (cpu : ℕ). number_at cpu d (whole homes d m).0) m (whole homes d m).1
a_rebase lower homes (Rebase cpu) m e = rebased_machine lower cpu m homes
a_rebase lower homes deed m e = cc

no_number : (cpu : ℕ) (d : Deed) (a : Answer) → is_rebase d ≡ false → number_at cpu d a ≡ pos 0
no_number cpu (Rebase at) a e = cc
no_number cpu deed a e = refl

-- the second machine goes on by a rebase, and the first
machine_then : (by number : ℕ → ℤ) (m n o : Machine) → IsLowerMachine by m n → IsLowerMachine number n o → IsLowerMachine (λ (cpu : ℕ). by cpu +ℤ number cpu) m o
machine_then by number m n o h k = record {
  cpus = k.cpus ∙ h.cpus;
  queues = λ cpu. lower_again (by cpu) (number cpu) (queue_at m cpu) (queue_at n cpu) (queue_at o cpu) (h.queues cpu) (k.queues cpu);
}

machine_before : (by number : ℕ → ℤ) (m n o : Machine) → IsLowerMachine by m n → IsLowerMachine number m o → IsLowerMachine (λ (cpu : ℕ). by cpu -ℤ number cpu) o n
machine_before by number m n o h k = record {
  cpus = h.cpus ∙ sym k.cpus;
  queues = λ cpu. lower_by ((pos 0 -ℤ number cpu) +ℤ by cpu) (by cpu -ℤ number cpu) (queue_at o cpu) (queue_at n cpu) (turned (by cpu) (number cpu))
      (lower_again (pos 0 -ℤ number cpu) (by cpu) (queue_at o cpu) (queue_at m cpu) (queue_at n cpu)
      (lower_back (number cpu) (queue_at m cpu) (queue_at o cpu) (k.queues cpu)) (h.queues cpu));
}
  where
    turned : (x y : ℤ) → (pos 0 -ℤ y) +ℤ x ≡ x -ℤ y
    turned x y = omega (arith, ints)

-- ---- one line more
-- the lines that are kept
kept : (l : Line) (ls : List Line) (b : Bool) → is_rebase l.deed ≡ b → lines_without_rebases (l ∷ ls) ≡ cond (not b) (l ∷ lines_without_rebases ls) (lines_without_rebases ls)
kept l ls b e = ap (λ (t : Bool). cond (not t) (l ∷ lines_without_rebases ls) (lines_without_rebases ls)) e

kept_deeds : (d : Deed) (ds : List Deed) (b : Bool) → is_rebase d ≡ b → without_rebases (d ∷ ds) ≡ cond (not b) (d ∷ without_rebases ds) (without_rebases ds)
kept_deeds d ds b e = ap (λ (t : Bool). cond (not t) (d ∷ without_rebases ds) (without_rebases ds)) e

-- and what was out of range
kept_ranges : (l : Line) (ls : List Line) (b : Bool) → is_rebase l.deed ≡ b → ranges_in (l ∷ ls) ≡ cond (not b) (is_range l.answer ∷ ranges_in ls) (ranges_in ls)
kept_ranges l ls true e = ap (λ (x : List Line). map (λ (y : Line). is_range y.answer) x) (kept l ls true e)
kept_ranges l ls false e = ap (λ (x : List Line). map (λ (y : Line). is_range y.answer) x) (kept l ls false e)

same_head : (a b : Bool) (x y : List Bool) → a ∷ x ≡ b ∷ y → a ≡ b
same_head a b x y e = cc

same_tail : (a b : Bool) (x y : List Bool) → a ∷ x ≡ b ∷ y → x ≡ y
same_tail a b x y e = cc

first_rebased : (by : ℕ → ℤ) (l : Line) (lines others : List Line) (m n : Machine) → is_rebase l.deed ≡ true
    → AreAlikeButForRebases (λ (cpu : ℕ). by cpu -ℤ number_at cpu l.deed l.answer) lines others m n → AreAlikeButForRebases by (l ∷ lines) others m n
first_rebased by l lines others m n e s = record {
  lines = kept l lines true e ∙ s.lines;
  machines = machine_by (λ (cpu : ℕ). ((by cpu -ℤ number_at cpu l.deed l.answer) +ℤ lowered_at cpu others) -ℤ lowered_at cpu lines)
      (λ (cpu : ℕ). (by cpu +ℤ lowered_at cpu others) -ℤ lowered_at cpu (l ∷ lines)) m n
      (λ cpu. sums (by cpu) (number_at cpu l.deed l.answer) (lowered_at cpu others) (lowered_at cpu lines)) s.machines;
}
  where
    sums : (x k y z : ℤ) → ((x -ℤ k) +ℤ y) -ℤ z ≡ (x +ℤ y) -ℤ (k +ℤ z)
    sums x k y z = omega (arith, ints)

other_rebased : (by : ℕ → ℤ) (l : Line) (lines others : List Line) (m n : Machine) → is_rebase l.deed ≡ true
    → AreAlikeButForRebases (λ (cpu : ℕ). by cpu +ℤ number_at cpu l.deed l.answer) lines others m n → AreAlikeButForRebases by lines (l ∷ others) m n
other_rebased by l lines others m n e s = record {
  lines = s.lines ∙ sym (kept l others true e);
  machines = machine_by (λ (cpu : ℕ). ((by cpu +ℤ number_at cpu l.deed l.answer) +ℤ lowered_at cpu others) -ℤ lowered_at cpu lines)
      (λ (cpu : ℕ). (by cpu +ℤ lowered_at cpu (l ∷ others)) -ℤ lowered_at cpu lines) m n
      (λ cpu. sums (by cpu) (number_at cpu l.deed l.answer) (lowered_at cpu others) (lowered_at cpu lines)) s.machines;
}
  where
    sums : (x k y z : ℤ) → ((x +ℤ k) +ℤ y) -ℤ z ≡ (x +ℤ (k +ℤ y)) -ℤ z
    sums x k y z = omega (arith, ints)

both_more : (by : ℕ → ℤ) (l k : Line) (lines others : List Line) (m n : Machine) → l ≡ k → is_rebase l.deed ≡ false
    → AreAlikeButForRebases by lines others m n → AreAlikeButForRebases by (l ∷ lines) (k ∷ others) m n
both_more by l k lines others m n same e s =
    subst (λ (x : Line). AreAlikeButForRebases by (l ∷ lines) (x ∷ others) m n) same (record {
      lines = kept l lines false e ∙ ap (λ (ls : List Line). l ∷ ls) s.lines ∙ sym (kept l others false e);
      machines = machine_by (λ (cpu : ℕ). (by cpu +ℤ lowered_at cpu others) -ℤ lowered_at cpu lines)
          (λ (cpu : ℕ). (by cpu +ℤ lowered_at cpu (l ∷ others)) -ℤ lowered_at cpu (l ∷ lines)) m n
          (λ cpu. sums (by cpu) (number_at cpu l.deed l.answer) (lowered_at cpu others) (lowered_at cpu lines)) s.machines;
    })
  where
    sums : (x k y z : ℤ) → (x +ℤ y) -ℤ z ≡ (x +ℤ (k +ℤ y)) -ℤ (k +ℤ z)
    sums x k y z = omega (arith, ints)

no_less : (x : ℤ) → x ≡ (x +ℤ pos 0) -ℤ pos 0
no_less x = omega (arith, ints)

-- ---- whole lists
module _ (alike : LoweredMachineAnswersAlike) (lower : RebasedIsLower) (homes : List ℕ) where
  abbrev Holds : List Deed → List Deed → Type 0
  Holds deeds others =
      (by : ℕ → ℤ) (m n : Machine) → IsLowerMachine by m n → without_rebases deeds ≡ without_rebases others
      → AreOutTogether (lines_of homes m deeds) (lines_of homes n others)
      → AreAlikeButForRebases by (lines_of homes m deeds) (lines_of homes n others) (machine_after homes m deeds) (machine_after homes n others)

  first_rebase : (d : Deed) (ds others : List Deed) → is_rebase d ≡ true → Holds ds others → Holds (d ∷ ds) others
  first_rebase d ds others e rest by m n h same out =
      first_rebased by _ _ _ _ _ e
      (rest (λ (cpu : ℕ). by cpu -ℤ number_at cpu d (whole homes d m).0) (whole homes d m).1 n
      (machine_before by (λ (cpu : ℕ). number_at cpu d (whole homes d m).0) m n (whole homes d m).1 h (a_rebase lower homes d m e))
      (sym (kept_deeds d ds true e) ∙ same) (sym (kept_ranges (record { deed = d; answer = (whole homes d m).0 }) (lines_of homes (whole homes d m).1 ds) true e) ∙ out))

  other_rebase : (d : Deed) (deeds ds : List Deed) → is_rebase d ≡ true → Holds deeds ds → Holds deeds (d ∷ ds)
  other_rebase d deeds ds e rest by m n h same out =
      other_rebased by _ _ _ _ _ e
      (rest (λ (cpu : ℕ). by cpu +ℤ number_at cpu d (whole homes d n).0) m (whole homes d n).1
      (machine_then by (λ (cpu : ℕ). number_at cpu d (whole homes d n).0) m n (whole homes d n).1 h (a_rebase lower homes d n e))
      (same ∙ kept_deeds d ds true e) (out ∙ kept_ranges (record { deed = d; answer = (whole homes d n).0 }) (lines_of homes (whole homes d n).1 ds) true e))

  -- the same deed next
  both_go : (d : Deed) (ds os : List Deed) → is_rebase d ≡ false → Holds ds os → Holds (d ∷ ds) (d ∷ os)
  both_go d ds os e rest by m n h same out =
      let tails : without_rebases ds ≡ without_rebases os =
      let whole_lists : d ∷ without_rebases ds ≡ d ∷ without_rebases os = sym (kept_deeds d ds false e) ∙ same ∙ kept_deeds d os false e in cc in
      let ranges : is_range (whole homes d m).0 ∷ ranges_in (lines_of homes (whole homes d m).1 ds) ≡ is_range (whole homes d n).0 ∷ ranges_in (lines_of homes (whole homes d n).1 os) =
      sym (kept_ranges (record { deed = d; answer = (whole homes d m).0 }) (lines_of homes (whole homes d m).1 ds) false e) ∙ out ∙ kept_ranges (record { deed = d; answer = (whole homes d n).0 }) (lines_of homes (whole homes d n).1 os) false e in
      let both : ((whole homes d m).0 ≡ (whole homes d n).0) × IsLowerMachine by (whole homes d m).1 (whole homes d n).1 = alike homes by m n d e h (same_head _ _ _ _ ranges) in
      both_more by _ _ _ _ _ _ (ap (λ (a : Answer). record { deed = d; answer = a }) both.0) e
      (rest by (whole homes d m).1 (whole homes d n).1 both.1 tails (same_tail _ _ _ _ ranges))

  both_next : (d o : Deed) (ds os : List Deed) → is_rebase d ≡ false → is_rebase o ≡ false → Holds ds os → Holds (d ∷ ds) (o ∷ os)
  both_next d o ds os e f rest by m n h same out =
      let whole_lists : d ∷ without_rebases ds ≡ o ∷ without_rebases os = sym (kept_deeds d ds false e) ∙ same ∙ kept_deeds o os false f in
      let heads : d ≡ o = cc in
      subst (λ (x : Deed). Holds (d ∷ ds) (x ∷ os)) heads (both_go d ds os e rest) by m n h same out

  -- nothing is left of the first
  none_by : (o : Deed) (os : List Deed) (b : Bool) → is_rebase o ≡ b → Holds [] os → Holds [] (o ∷ os)
  none_by o os true e rest = other_rebase o [] os e rest
  none_by o os false e rest = λ by m n h same out. let more : [] ≡ o ∷ without_rebases os = same ∙ kept_deeds o os false e in cc

  none_left : (others : List Deed) → Holds [] others
  none_left [] = λ by m n h same out. record { lines = refl; machines = machine_by by (λ (cpu : ℕ). (by cpu +ℤ pos 0) -ℤ pos 0) m n (λ cpu. no_less (by cpu)) h }
  none_left (o ∷ os) = none_by o os (is_rebase o) refl (none_left os)

  one_by : (d o : Deed) (ds os : List Deed) (b : Bool) → is_rebase d ≡ false → is_rebase o ≡ b → Holds ds os → Holds (d ∷ ds) os → Holds (d ∷ ds) (o ∷ os)
  one_by d o ds os true e f rest left = other_rebase o (d ∷ ds) os f left
  one_by d o ds os false e f rest left = both_next d o ds os e f rest

  one_left : (d : Deed) (ds : List Deed) → is_rebase d ≡ false → ((others : List Deed) → Holds ds others) → (others : List Deed) → Holds (d ∷ ds) others
  one_left d ds e rest [] = λ by m n h same out. let more : d ∷ without_rebases ds ≡ [] = sym (kept_deeds d ds false e) ∙ same in cc
  one_left d ds e rest (o ∷ os) = one_by d o ds os (is_rebase o) e refl (rest os) (one_left d ds e rest os)

  all_by : (d : Deed) (ds : List Deed) (b : Bool) → is_rebase d ≡ b → ((others : List Deed) → Holds ds others) → (others : List Deed) → Holds (d ∷ ds) others
  all_by d ds true e rest others = first_rebase d ds others e (rest others)
  all_by d ds false e rest others = one_left d ds e rest others

  all_hold : (deeds others : List Deed) → Holds deeds others
  all_hold [] = none_left
  all_hold (d ∷ ds) = all_by d ds (is_rebase d) refl (all_hold ds)

pub rebases_change_no_answer : LoweredMachineAnswersAlike → RebasedIsLower → RebasesChangeNoAnswer
rebases_change_no_answer alike lower homes by m n deeds others h same out = all_hold alike lower homes deeds others by m n h same out

-- ---- without rebases
-- no deed of a list is a rebase
abbrev NoRebases : List Deed → Type 0
NoRebases [] = Unit {0}
NoRebases (d ∷ ds) = (is_rebase d ≡ false) × NoRebases ds

none_are_by : (d : Deed) (ds : List Deed) (b : Bool) → is_rebase d ≡ b → NoRebases (without_rebases ds) → NoRebases (cond (not b) (d ∷ without_rebases ds) (without_rebases ds))
none_are_by d ds true e rest = rest
none_are_by d ds false e rest = (e, rest)

none_are : (ds : List Deed) → NoRebases (without_rebases ds)
none_are [] = tt
none_are (d ∷ ds) = none_are_by d ds (is_rebase d) refl (none_are ds)

all_kept : (ds : List Deed) → NoRebases ds → without_rebases ds ≡ ds
all_kept [] h = refl
all_kept (d ∷ ds) h = kept_deeds d ds false h.0 ∙ ap (λ (x : List Deed). d ∷ x) (all_kept ds h.1)

lines_kept : (homes : List ℕ) (m : Machine) (ds : List Deed) → NoRebases ds → lines_without_rebases (lines_of homes m ds) ≡ lines_of homes m ds
lines_kept homes m [] h = refl
lines_kept homes m (d ∷ ds) h =
    kept (record { deed = d; answer = (whole homes d m).0 }) (lines_of homes (whole homes d m).1 ds) false h.0
    ∙ ap (λ (ls : List Line). record { deed = d; answer = (whole homes d m).0 } ∷ ls) (lines_kept homes (whole homes d m).1 ds h.1)

never_lowered : (homes : List ℕ) (m : Machine) (ds : List Deed) (cpu : ℕ) → NoRebases ds → lowered_at cpu (lines_of homes m ds) ≡ pos 0
never_lowered homes m [] cpu h = refl
never_lowered homes m (d ∷ ds) cpu h =
    nothing_more (number_at cpu d (whole homes d m).0) (lowered_at cpu (lines_of homes (whole homes d m).1 ds))
    (no_number cpu d (whole homes d m).0 h.0) (never_lowered homes (whole homes d m).1 ds cpu h.1)
  where
    nothing_more : (x y : ℤ) → x ≡ pos 0 → y ≡ pos 0 → x +ℤ y ≡ pos 0
    nothing_more x y e f = omega (arith, ints, e, f)

pub rebases_can_be_left_out : RebasesChangeNoAnswer → RebasesCanBeLeftOut
rebases_can_be_left_out law homes m deeds out =
    let none : NoRebases (without_rebases deeds) = none_are deeds in
    let both : AreAlikeButForRebases (λ (cpu : ℕ). pos 0) (lines_of homes m (without_rebases deeds)) (lines_of homes m deeds)
    (machine_after homes m (without_rebases deeds)) (machine_after homes m deeds) =
    law homes (λ (cpu : ℕ). pos 0) m m (without_rebases deeds) deeds (machine_same m) (all_kept (without_rebases deeds) none) (sym out) in
    record {
      lines = sym both.lines ∙ lines_kept homes m (without_rebases deeds) none;
      machines = machine_by (λ (cpu : ℕ). (pos 0 +ℤ lowered_at cpu (lines_of homes m deeds)) -ℤ lowered_at cpu (lines_of homes m (without_rebases deeds)))
          (λ (cpu : ℕ). lowered_at cpu (lines_of homes m deeds)) (machine_after homes m (without_rebases deeds)) (machine_after homes m deeds)
          (λ cpu. alone (lowered_at cpu (lines_of homes m deeds)) (lowered_at cpu (lines_of homes m (without_rebases deeds))) (never_lowered homes m (without_rebases deeds) cpu none))
          both.machines;
    }
  where
    alone : (x y : ℤ) → y ≡ pos 0 → (pos 0 +ℤ x) -ℤ y ≡ x
    alone x y e = omega (arith, ints, e)

pub rebased_histories_are_alike : RebasesChangeNoAnswer → RebasedHistoriesAreAlike
rebased_histories_are_alike law homes start lines others is other_is same out =
    subst (λ (ls : List Line). AreAlikeButForRebases (λ (cpu : ℕ). pos 0) ls others (machine_told homes start lines) (machine_told homes start others)) (sym is)
    (subst (λ (ls : List Line). AreAlikeButForRebases (λ (cpu : ℕ). pos 0) (lines_of homes start (deeds_of lines)) ls (machine_told homes start lines) (machine_told homes start others))
    (sym other_is)
    (law homes (λ (cpu : ℕ). pos 0) start start (deeds_of lines) (deeds_of others) (machine_same start) same
    (subst (AreOutTogether (lines_of homes start (deeds_of lines))) other_is (subst (λ (ls : List Line). AreOutTogether ls others) is out))))
