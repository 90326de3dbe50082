-- The schedules of all CPUs grow line by line, and their lines give their texts.
use Rattle.std.proofs.Common.{◌≡◌, ◌≢◌, ℕ, ◌+◌, ◌<◌, ◌≤◌, List, [], ◌∷◌, ◌++◌, length, get_or, set, take, map, refl, sym, ap, ◌∙◌, ⊎_elim, arith}
use Rattle.std.proofs.lemmas.List.{append-nil, flat_map_more, get_or-map, get_or-set_same, get_or-set_other, length-map, map-set, take_more}
use Rattle.std.proofs.lemmas.List.FromFn.{fill_by_all, get_or-map-range_with_len, length-map-range_with_len}
use Rattle.std.proofs.{lemmas.Bool.cases_order, lemmas.Bool.Decides.nat_tests, lemmas.Grind.flat_map-append}
use Rattle.eevdf_ops.specs.{declared.deeds.Line.Line, Parts.decider}
use Rattle.eevdf_report.specs.{TextDeed.schedule_line, TextReport.schedule_at, TextReport.schedule_of}
use Rattle.eevdf_report.specs.TextSchedules.{own_line, own_lines, schedule_lines, schedules_of}

-- the schedule of one CPU
pub schedule-at : (cpus c : ℕ) (lines : List Line) → c < cpus → get_or (schedules_of cpus lines) c [] ≡ own_lines c lines
schedule-at cpus c lines low = get_or-map-range_with_len (λ c. own_lines c lines) 0 cpus c c [] low (omega arith)

pub length-schedules_of : (cpus : ℕ) (lines : List Line) → length (schedules_of cpus lines) ≡ cpus
length-schedules_of cpus lines = length-map-range_with_len (λ c. own_lines c lines) 0 cpus

-- each schedule grows by what a line adds to it
schedules_of-append : (cpus : ℕ) (lines : List Line) (l : Line) (was now : List (List Line)) → was ≡ schedules_of cpus lines → length now ≡ length was → ((c : ℕ) → c < length was → get_or now c [] ≡ get_or was c [] ++ own_line c l) → now ≡ schedules_of cpus (lines ++ l ∷ [])
schedules_of-append cpus lines l was now e many each =
    let n : length was ≡ cpus = ap length e ∙ length-schedules_of cpus lines in
    fill_by_all (λ c. own_lines c (lines ++ l ∷ [])) now cpus [] (many ∙ n)
    (λ c low.
    let below : c < length was = omega arith in
    each c below
    ∙ ap (λ (t : List Line). t ++ own_line c l) (ap (λ (ts : List (List Line)). get_or ts c []) e ∙ schedule-at cpus c lines low)
    ∙ flat_map_more (own_line c) [] lines l)

pub schedules_of-more : (cpus : ℕ) (lines : List Line) (i : ℕ) (l : Line) (was now : List (List Line)) → i < length lines → l ≡ get_or lines i l → was ≡ schedules_of cpus (take i lines) → length now ≡ length was
    → ((c : ℕ) → c < length was → get_or now c [] ≡ get_or was c [] ++ own_line c l) → now ≡ schedules_of cpus (take (i + 1) lines)
schedules_of-more cpus lines i l was now low here e many each =
    schedules_of-append cpus (take i lines) l was now e many each
    ∙ ap (schedules_of cpus) (ap (λ (m : Line). take i lines ++ m ∷ []) here ∙ sym (take_more lines i l low))

is_own : (l : Line) (c : ℕ) → c ≡ decider l.deed → own_line c l ≡ l ∷ []
is_own l c e = grind (arith, nat_tests)

is_other : (l : Line) (c : ℕ) → c ≢ decider l.deed → own_line c l ≡ []
is_other l c e = grind (arith, nat_tests)

module _ {X : Type 0} (f : X → List Line) where
  -- a line stands in the schedule of its CPU
  added_own : (texts : List X) (was now : X) (l : Line) (c : ℕ) → c ≡ decider l.deed → c < length texts → was ≡ get_or texts c was → f now ≡ f was ++ l ∷ [] → get_or (map f (set texts c now)) c [] ≡ get_or (map f texts) c [] ++ own_line c l
  added_own texts was now l c e low here is =
      let many : c < length (map f texts) = omega (arith, length-map texts f) in
      rw (is_own l c e, map-set, get_or-set_same (map f texts) c (f now) [] many, get_or-map f texts c was [] low, ← here) is

  added_other : (texts : List X) (now : X) (l : Line) (i c : ℕ) → i ≡ decider l.deed → c ≢ i → get_or (map f (set texts i now)) c [] ≡ get_or (map f texts) c [] ++ own_line c l
  added_other texts now l i c e other =
      let o : c ≢ decider l.deed = omega arith in
      rw (is_other l c o, append-nil, map-set, get_or-set_other (map f texts) i c (f now) [] other) refl

  pub added : (texts : List X) (was now : X) (l : Line) (i c : ℕ) → i ≡ decider l.deed → i < length texts → was ≡ get_or texts i was → f now ≡ f was ++ l ∷ [] → get_or (map f (set texts i now)) c [] ≡ get_or (map f texts) c [] ++ own_line c l
  added texts was now l i c e low here is =
      ⊎_elim (λ q. rw q (added_own texts was now l i e low here is))
      (λ r. added_other texts now l i c e (⊎_elim (λ h. omega arith) (λ h. omega arith) r))
      (cases_order c i)

-- a line of any other CPU stands in none
pub not_added : (texts : List (List Line)) (l : Line) (c : ℕ) → length texts ≤ decider l.deed → c < length texts → get_or texts c [] ≡ get_or texts c [] ++ own_line c l
not_added texts l c high low =
    let other : c ≢ decider l.deed = omega arith in
    rw (is_other l c other, append-nil) refl

own_text : (c : ℕ) (l : Line) → c ≡ decider l.deed → schedule_at c l ≡ schedule_line l
own_text c l e = grind (arith, nat_tests)

other_text : (c : ℕ) (l : Line) → c ≢ decider l.deed → schedule_at c l ≡ []
other_text c l e = grind (arith, nat_tests)

one_own : (c : ℕ) (l : Line) → c ≡ decider l.deed → schedule_lines (own_line c l) ≡ schedule_at c l
one_own c l e = rw (is_own l c e, own_text c l e, append-nil)

one_other : (c : ℕ) (l : Line) → c ≢ decider l.deed → schedule_lines (own_line c l) ≡ schedule_at c l
one_other c l o = rw (is_other l c o, other_text c l o)

one_line : (c : ℕ) (l : Line) → schedule_lines (own_line c l) ≡ schedule_at c l
one_line c l =
    ⊎_elim (λ e. one_own c l e)
    (λ r. one_other c l (⊎_elim (λ h. omega arith) (λ h. omega arith) r))
    (cases_order c (decider l.deed))

-- the lines of a CPU give the text of its schedule
pub texts_of_own : (c : ℕ) (lines : List Line) → schedule_lines (own_lines c lines) ≡ schedule_of c lines
texts_of_own c [] = refl
texts_of_own c (l ∷ lines) =
    flat_map-append schedule_line (own_line c l) (own_lines c lines)
    ∙ cc (one_line c l, texts_of_own c lines)
