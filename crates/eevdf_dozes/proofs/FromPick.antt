-- Deeds of all CPUs as calls of one of them, by parts, and where the first is a pick of it.
use Rattle.std.proofs.Common.{◌≡◌, ℕ, ◌++◌, Bool, true, cond, ◌||◌, List, [], ◌∷◌, length, Option, Some, None, refl, sym, ap}
use Rattle.std.proofs.Common.{◌∙◌, subst}
use Rattle.std.specs.List.{AllByRecursion}
use Rattle.std.proofs.lemmas.List.{get_or-set_same}
use Rattle.eevdf_queue.specs.State.{State, empty_state}
use Rattle.eevdf_ops.specs.{declared.deeds.Deed.Deed, declared.deeds.Deed.TheVariants.Pick, Machine.Machine, Machine.queue_at}
use Rattle.eevdf_ops.specs.{Places.AreCpus, Setup.is_allowed, Whole.whole, Whole.machine_after}
use Rattle.eevdf_ops.proofs.{DeedNames.decider_below, MapCounts.itself, WholePlaces.length-whole}
use Rattle.eevdf_dozes.specs.Stretches.{Watch, picked, charges}
use Rattle.eevdf_dozes.specs.Histories as call
use Rattle.eevdf_dozes.specs.Histories.{Call, Touch, after_call, after_calls, events_of, run_after, AreCalls, AreAllowed}
use Rattle.eevdf_dozes.specs.{Ahead.charged_by, OneCpu.call_at, OneCpu.calls_at, OneCpu.and_then, OneCpu.AreAllowedDeeds}
use Rattle.eevdf_dozes.specs.{OneCpu.GoesByCalls, OneCpu.DeedsAreCalls}
use Rattle.eevdf_dozes.specs.OneCpuStretches.{KeepTo, from_pick, queue_after, charged_since}
use Rattle.eevdf_dozes.proofs.CallsOfDeeds.{IsStep, after_maybe, ticked_at, step}

-- ---- the calls are allowed
pub are_allowed : (w : Watch) (ran : ℕ) (q : State) (calls : List Call) → AreCalls q calls → KeepTo w ran calls → AreAllowed w ran q calls
are_allowed w ran q [] these keep = tt
are_allowed w ran q (Touch task r ∷ calls) these keep = ((keep.0.0, (keep.0.1, these.0)), are_allowed w ran r calls these.1 keep.1)
are_allowed w ran q (one ∷ calls) these keep = (keep.0, are_allowed w (run_after ran one) (after_call q one) calls these keep.1)

-- ---- parts of a list of deeds
module _ (homes : List ℕ) where
  pub rest_allowed : (m : Machine) (d : Deed) (ds : List Deed) → AreAllowedDeeds homes m (d ∷ ds)
      → AreAllowedDeeds homes (whole homes d m).1 ds
  rest_allowed m d ds allowed =
      let same : length m ≡ length (whole homes d m).1 = sym (length-whole homes d m) in
      record {
        cpus = subst (λ (n : ℕ). AreCpus n homes) same allowed.cpus;
        each = subst (λ (n : ℕ). AllByRecursion (λ (x : Deed). is_allowed n homes x ≡ true) ds) same allowed.each.1;
      }

  all_before : (P : Deed → Type 0) (before deeds : List Deed) → AllByRecursion P (before ++ deeds) → AllByRecursion P before
  all_before P [] deeds all = tt
  all_before P (d ∷ before) deeds all = (all.0, all_before P before deeds all.1)

  pub before_allowed : (m : Machine) (before deeds : List Deed) → AreAllowedDeeds homes m (before ++ deeds) → AreAllowedDeeds homes m before
  before_allowed m before deeds allowed =
      record { cpus = allowed.cpus; each = all_before (λ (x : Deed). is_allowed (length m) homes x ≡ true) before deeds allowed.each }

  pub later_allowed : (m : Machine) (before deeds : List Deed) → AreAllowedDeeds homes m (before ++ deeds)
      → AreAllowedDeeds homes (machine_after homes m before) deeds
  later_allowed m [] deeds allowed = allowed
  later_allowed m (d ∷ before) deeds allowed = later_allowed (whole homes d m).1 before deeds (rest_allowed m d (before ++ deeds) allowed)

  then_appended : (o : Option Call) (before calls : List Call) → and_then o (before ++ calls) ≡ and_then o before ++ calls
  then_appended None before calls = refl
  then_appended (Some one) before calls = refl

  pub calls_appended : (cpu : ℕ) (m : Machine) (before deeds : List Deed)
      → calls_at homes cpu m (before ++ deeds) ≡ calls_at homes cpu m before ++ calls_at homes cpu (machine_after homes m before) deeds
  calls_appended cpu m [] deeds = refl
  calls_appended cpu m (d ∷ before) deeds =
      let n : Machine = (whole homes d m).1 in
      ap (and_then (call_at homes cpu m d)) (calls_appended cpu n before deeds)
      ∙ then_appended (call_at homes cpu m d) (calls_at homes cpu n before) (calls_at homes cpu (machine_after homes n before) deeds)

-- ---- what holds before each deed holds before each call
module _ (homes : List ℕ) (cpu : ℕ) where
  pub one_step : (m : Machine) (d : Deed) (ds : List Deed) → AreAllowedDeeds homes m (d ∷ ds)
      → queue_at (whole homes d m).1 cpu ≡ after_maybe (queue_at m cpu) (call_at homes cpu m d)
  one_step m d ds allowed =
      let one : IsStep (call_at homes cpu m d) (ticked_at cpu d) (queue_at m cpu) (queue_at (whole homes d m).1 cpu) =
      step homes m cpu d (record { allowed = allowed.each.0; cpus = allowed.cpus }) in
      one.after

  module _ (Holds : State → Type 0) (HoldsAlong : State → List Call → Type 0) (HoldsOn : Machine → List Deed → Type 0)
      (more : (q : State) (one : Call) (calls : List Call) → Holds q → HoldsAlong (after_call q one) calls → HoldsAlong q (one ∷ calls))
      (last : (m : Machine) → HoldsOn m [] → HoldsAlong (queue_at m cpu) [])
      (first : (m : Machine) (d : Deed) (ds : List Deed) → HoldsOn m (d ∷ ds) → Holds (queue_at m cpu) × HoldsOn (whole homes d m).1 ds) where
    first_along : (o : Option Call) (q r : State) (calls : List Call) → r ≡ after_maybe q o → Holds q → HoldsAlong r calls
        → HoldsAlong q (and_then o calls)
    first_along None q r calls is here rest = subst (λ (s : State). HoldsAlong s calls) is rest
    first_along (Some one) q r calls is here rest = more q one calls here (subst (λ (s : State). HoldsAlong s calls) is rest)

    pub along : (m : Machine) (ds : List Deed) → AreAllowedDeeds homes m ds → HoldsOn m ds → HoldsAlong (queue_at m cpu) (calls_at homes cpu m ds)
    along m [] allowed all = last m all
    along m (d ∷ ds) allowed all =
        let n : Machine = (whole homes d m).1 in
        let both : Holds (queue_at m cpu) × HoldsOn n ds = first m d ds all in
        first_along (call_at homes cpu m d) (queue_at m cpu) (queue_at n cpu) (calls_at homes cpu n ds) (one_step m d ds allowed) both.0
        (along n ds (rest_allowed homes m d ds allowed) both.1)

-- ---- from a pick on
module _ (homes : List ℕ) (cpu : ℕ) (m : Machine) (deeds : List Deed) (allowed : AreAllowedDeeds homes m (from_pick cpu deeds)) where
  abbrev q : State
  q = queue_at m cpu

  abbrev n : Machine
  n = (whole homes (Pick cpu) m).1

  abbrev calls : List Call
  calls = calls_at homes cpu n deeds

  pub after_pick_is : queue_at n cpu ≡ picked q
  after_pick_is = get_or-set_same m cpu _ empty_state (decider_below (length m) homes (Pick cpu) allowed.each.0)

  pub at_pick : calls_at homes cpu m (from_pick cpu deeds) ≡ call.Pick ∷ calls
  at_pick = ap (λ (b : Bool). and_then (cond {A = Option Call} (b || (b || b)) (Some call.Pick) None) calls) (itself cpu)

  module _ (are_calls : DeedsAreCalls) where
    goes : GoesByCalls homes cpu n deeds
    goes = are_calls homes n deeds cpu (rest_allowed homes m (Pick cpu) deeds allowed)

    pub all_goes : GoesByCalls homes cpu m (from_pick cpu deeds)
    all_goes = are_calls homes m (from_pick cpu deeds) cpu allowed

    pub allowed_then : (w : Watch) → KeepTo w 0 (calls_at homes cpu m (from_pick cpu deeds)) → AreAllowed w 0 (picked q) calls
    allowed_then w keep =
        are_allowed w 0 (picked q) calls (subst (λ (s : State). AreCalls s calls) after_pick_is goes.calls)
        (subst (KeepTo w 0) at_pick keep).1

    pub come_to : after_calls (picked q) calls ≡ queue_after homes cpu m deeds
    come_to = ap (λ (s : State). after_calls s calls) (sym after_pick_is) ∙ sym goes.after

    pub charged_then : (task : ℕ) → charged_by task (picked q) calls ≡ charged_since homes cpu task m deeds
    charged_then task = sym (ap (λ (cs : List Call). charges task q (events_of q cs)) at_pick) ∙ all_goes.charges task
