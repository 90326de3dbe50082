-- The deeds of a machine are calls of the queue of each CPU, one after the other.
use Rattle.std.proofs.Common.{◌≡◌, ℕ, ◌+◌, Bool, true, false, cond, List, [], ◌∷◌, length, Option, Some, None, refl, sym, ap, ◌∙◌, subst, arith}
use Rattle.std.specs.Prelude.{◌==◌}
use Rattle.std.proofs.lemmas.Bool.Decides.{nat_tests}
use Rattle.eevdf_queue.specs.{declared.answers.TickAnswer.TickAnswer, State.State, Tick.tick}
use Rattle.eevdf_queue.specs.declared.answers.TickAnswer.TheVariants as ticked_answer
use Rattle.eevdf_ops.specs.{declared.deeds.Deed.Deed, declared.deeds.Answer.Answer}
use Rattle.eevdf_ops.specs.declared.deeds.Answer.TheVariants as answered
use Rattle.eevdf_ops.specs.declared.deeds.Deed.TheVariants as deed
use Rattle.eevdf_ops.specs.{Machine.Machine, Machine.queue_at, OneQueue.answer_of_tick, Places.AreCpus, Setup.is_allowed, Whole.whole, Whole.lines_of, Whole.machine_after}
use Rattle.eevdf_ops.proofs.{MapCounts.equal, WholePlaces.length-whole}
use Rattle.std.specs.List.{AllByRecursion}
use Rattle.eevdf_fairness.specs.{Tallies.if_charged_to, Lines.charged_to, Lines.ticked_on}
use Rattle.eevdf_fairness.specs.Lines as lines
use Rattle.eevdf_dozes.specs.Stretches.{Event, Picks, Ticks, Becomes, picked, ticked, charged_for, charges}
use Rattle.eevdf_dozes.specs.{Shares.time_of}
use Rattle.eevdf_dozes.specs.Histories.{Call, Tick, Touch, after_calls, events_of, AreCalls}
use Rattle.eevdf_dozes.specs.OneCpu.{call_at, calls_at, and_then, charged_at, charged_on, AreAllowedDeeds, GoesByCalls, DeedsAreCalls}
use Rattle.eevdf_dozes.proofs.CallsOfDeeds.{IsStep, after_maybe, TouchesOne, ticks_in, ticked_at, step}

-- ---- a number for each tick, by the queue before it and its nanoseconds, summed up
abbrev Measure : Type 0
Measure = State → ℕ → ℕ

abbrev over_events : Measure → State → List Event → ℕ
over_events g q [] = 0
over_events g q (Picks ∷ events) = over_events g (picked q) events
over_events g q (Ticks ns ∷ events) = g q ns + over_events g (ticked q ns) events
over_events g q (Becomes r ∷ events) = over_events g r events

all_charges : (t : ℕ) (q : State) (events : List Event) → charges t q events ≡ over_events (charged_for t) q events
all_charges t q [] = refl
all_charges t q (Picks ∷ events) = all_charges t (picked q) events
all_charges t q (Ticks ns ∷ events) = ap (λ (x : ℕ). charged_for t q ns + x) (all_charges t (ticked q ns) events)
all_charges t q (Becomes r ∷ events) = all_charges t r events

abbrev time_for : ℕ → Measure
time_for t q ns = if_charged_to t (tick q ns).0 ns

all_times : (t : ℕ) (q : State) (events : List Event) → time_of t q events ≡ over_events (time_for t) q events
all_times t q [] = refl
all_times t q (Picks ∷ events) = all_times t (picked q) events
all_times t q (Ticks ns ∷ events) = ap (λ (x : ℕ). time_for t q ns + x) (all_times t (ticked q ns) events)
all_times t q (Becomes r ∷ events) = all_times t r events

abbrev over_tick : Measure → State → Option ℕ → ℕ
over_tick g q None = 0
over_tick g q (Some ns) = g q ns

-- ---- one call more
first_after : (o : Option Call) (q : State) (calls : List Call) → after_calls q (and_then o calls) ≡ after_calls (after_maybe q o) calls
first_after None q calls = refl
first_after (Some one) q calls = refl

first_calls : (o : Option Call) (q : State) (calls : List Call) → TouchesOne q o → AreCalls (after_maybe q o) calls → AreCalls q (and_then o calls)
first_calls (Some (Touch task r)) q calls h rest = (h, rest)
first_calls o q calls h rest = rest

first_over : (g : Measure) (o : Option Call) (q : State) (calls : List Call)
    → over_events g q (events_of q (and_then o calls)) ≡ over_tick g q (ticks_in o) + over_events g (after_maybe q o) (events_of (after_maybe q o) calls)
first_over g (Some (Tick ns)) q calls = refl
first_over g o q calls = omega arith

-- ---- what a deed's tick counts
module _ (homes : List ℕ) (cpu : ℕ) where
  same_test : (at : ℕ) (b : Bool) → (cpu == at) ≡ b → (at == cpu) ≡ b
  same_test at true e = grind (arith, nat_tests)
  same_test at false e = grind (arith, nat_tests)

  charged_here : (t : ℕ) (q : State) (ns : ℕ) (b : Bool) → over_tick (charged_for t) q (cond b (Some ns) None) ≡ cond b (charged_for t q ns) 0
  charged_here t q ns true = refl
  charged_here t q ns false = refl

  charged_then : (t : ℕ) (m : Machine) (d : Deed) → over_tick (charged_for t) (queue_at m cpu) (ticked_at cpu d) ≡ charged_at cpu t m d
  charged_then t m (deed.Tick at ns) = charged_here t (queue_at m cpu) ns (cpu == at)
  charged_then t m d = refl

  none_timed : (t : ℕ) (a : Answer) → charged_to t a 0 ≡ 0
  none_timed t (answered.Charged task resched) = no_time (task == t)
    where
      no_time : (b : Bool) → cond {A = ℕ} b 0 0 ≡ 0
      no_time true = refl
      no_time false = refl
  none_timed t a = refl

  told_time : (t ns : ℕ) (a : TickAnswer) → charged_to t (answer_of_tick a) ns ≡ if_charged_to t a ns
  told_time t ns (ticked_answer.Charged task resched) = refl
  told_time t ns ticked_answer.Idle = refl
  told_time t ns ticked_answer.Range = refl

  timed_here : (t : ℕ) (m : Machine) (at ns : ℕ) (b : Bool) → (cpu == at) ≡ b
      → over_tick (time_for t) (queue_at m cpu) (cond b (Some ns) None) ≡ charged_to t (answer_of_tick (tick (queue_at m at) ns).0) (cond b ns 0)
  timed_here t m at ns true e =
      subst (λ (c : ℕ). time_for t (queue_at m cpu) ns ≡ charged_to t (answer_of_tick (tick (queue_at m c) ns).0) ns) (equal cpu at e)
      (sym (told_time t ns (tick (queue_at m cpu) ns).0))
  timed_here t m at ns false e = sym (none_timed t (answer_of_tick (tick (queue_at m at) ns).0))

  timed_then : (t : ℕ) (m : Machine) (d : Deed) → over_tick (time_for t) (queue_at m cpu) (ticked_at cpu d) ≡ charged_to t (whole homes d m).0 (ticked_on cpu d)
  timed_then t m (deed.Tick at ns) =
      timed_here t m at ns (cpu == at) refl
      ∙ ap (λ (b : Bool). charged_to t (answer_of_tick (tick (queue_at m at) ns).0) (cond b ns 0)) (sym (same_test at (cpu == at) refl))
  timed_then t m d = sym (none_timed t (whole homes d m).0)

  -- ---- all deeds
  one_more : (m : Machine) (d : Deed) (ds : List Deed) → IsStep (call_at homes cpu m d) (ticked_at cpu d) (queue_at m cpu) (queue_at (whole homes d m).1 cpu)
      → GoesByCalls homes cpu (whole homes d m).1 ds → GoesByCalls homes cpu m (d ∷ ds)
  one_more m d ds one rest = record {
    after = subst (λ (r : State). queue_at (machine_after homes (whole homes d m).1 ds) cpu ≡ after_calls r calls) one.after rest.after ∙ sym (first_after o q calls);
    calls = first_calls o q calls one.touches (subst (λ (r : State). AreCalls r calls) one.after rest.calls);
    charges = λ t.
        all_charges t q (events_of q (and_then o calls)) ∙ sums (charged_for t) (charged_at cpu t m d) (charged_on homes cpu t (whole homes d m).1 ds) (charged_then t m d)
        (sym (all_charges t next (events_of next calls)) ∙ rest.charges t);
    times = λ t.
        all_times t q (events_of q (and_then o calls)) ∙ sums (time_for t) (charged_to t (whole homes d m).0 (ticked_on cpu d)) (lines.time_of t cpu (lines_of homes (whole homes d m).1 ds)) (timed_then t m d)
        (sym (all_times t next (events_of next calls)) ∙ rest.times t);
  }
    where
      q : State
      q = queue_at m cpu

      next : State
      next = queue_at (whole homes d m).1 cpu

      o : Option Call
      o = call_at homes cpu m d

      calls : List Call
      calls = calls_at homes cpu (whole homes d m).1 ds

      both : (a b c e x : ℕ) → x ≡ a + b → a ≡ c → b ≡ e → x ≡ c + e
      both a b c e x h i j = omega (arith, h, i, j)

      sums : (g : Measure) (first others : ℕ) → over_tick g q (ticked_at cpu d) ≡ first → over_events g next (events_of next calls) ≡ others
          → over_events g q (events_of q (and_then o calls)) ≡ first + others
      sums g first others h i =
          both (over_tick g q (ticks_in o)) (over_events g (after_maybe q o) (events_of (after_maybe q o) calls)) first others (over_events g q (events_of q (and_then o calls)))
          (first_over g o q calls) (ap (over_tick g q) one.ticks ∙ h) (subst (λ (r : State). over_events g r (events_of r calls) ≡ others) one.after i)

  goes : (m : Machine) (ds : List Deed) → AreAllowedDeeds homes m ds → GoesByCalls homes cpu m ds
  goes m [] allowed = record { after = refl; calls = tt; charges = λ t. refl; times = λ t. refl }
  goes m (d ∷ ds) allowed =
      let same : length m ≡ length (whole homes d m).1 = sym (length-whole homes d m) in
      one_more m d ds (step homes m cpu d (record { allowed = allowed.each.0; cpus = allowed.cpus }))
      (goes (whole homes d m).1 ds (record {
        cpus = subst (λ (n : ℕ). AreCpus n homes) same allowed.cpus;
        each = subst (λ (n : ℕ). AllByRecursion (λ (x : Deed). is_allowed n homes x ≡ true) ds) same allowed.each.1;
      }))

pub deeds_are_calls : DeedsAreCalls
deeds_are_calls homes m deeds cpu allowed = goes homes cpu m deeds allowed
