-- While no task is taken, what was refused once stays refused.
use Rattle.std.proofs.Common.{◌≡◌, ℕ, ◌+◌, ◌≤◌, Bool, true, false, cond, List, [], ◌∷◌, ◌++◌, refl, sym, ap, subst, ◌∙◌, arith}
use Rattle.std.specs.Prelude.{ℤ, is_some, nat_lt, Option, Some, None, Ok, Err}
use Rattle.std.specs.{FinMap.get, List.AllByRecursion}
use Rattle.std.proofs.lemmas.Bool.Decides.{nat_tests}
use Rattle.eevdf_weight.specs.Weight.{weight_of}
use Rattle.eevdf_queue.specs.{declared.entry.Entry.Entry, State.State, State.Contents, Moves.sleeper_of, Placing.can_place}
use Rattle.eevdf_ops.specs.{declared.deeds.Deed.Deed, declared.deeds.Answer.Answer, declared.deeds.Deed.TheVariants.Pull}
use Rattle.eevdf_ops.specs.declared.deeds.Answer.TheVariants.{Balanced, Range}
use Rattle.eevdf_ops.specs.{Machine.Machine, Machine.queue_at, Places.count, Transfers.pulled, Whole.whole, Whole.lines_of, Whole.machine_after}
use Rattle.eevdf_ops.specs.WholePull.{offer, load_of, decision, is_lighter}
use Rattle.eevdf_ops.proofs.{Carried.Carries, Carried.offer-carries, Carried.offer-candidate}
use Rattle.eevdf_balance.specs.{Sweeps.taken, Squares.load_at, Squares.is_turn_or_pull, Squares.pulls_that_took}
use Rattle.eevdf_balance.specs.HalfShare.{IsRefused}
use Rattle.eevdf_balance.specs.AfterLastPull.{IsOffered, BalancedRefusesCandidate, KeepTasks, WasRefused, RefusalsStay, HalfAfterLastPull}
use Rattle.eevdf_balance.proofs.SameWeights.{AllWeighTheSame, nice_in, itself, both, weighs-the-same}
use Rattle.eevdf_balance.proofs.HalfShare.{balanced_gives_half}

-- ---- one pull
not_lighter : (a w b : ℕ) → nat_lt (a + w) b ≡ false → b ≤ a + w
not_lighter a w b h = grind (arith, nat_tests)

heavy_by : (q s : State) (p : Contents) (b c : Bool) → is_lighter (load_of q) p (load_of s) ≡ b → (pulled (cond b (cond c (Ok p) (Err Range)) (Err Balanced)) q s).0 ≡ Balanced
    → load_of s ≤ load_of q + weight_of p.nice
heavy_by q s p true true is e = cc
heavy_by q s p true false is e = cc
heavy_by q s p false c is e = not_lighter (load_of q) (weight_of p.nice) (load_of s) is

refused_by : (m : Machine) (cpu source task : ℕ) (o : Option Contents) → offer (queue_at m source) ≡ o → IsOffered m source task
    → (pulled (decision (queue_at m cpu) (load_at m source) o) (queue_at m cpu) (queue_at m source)).0 ≡ Balanced → IsRefused m cpu source task
refused_by m cpu source task None is offered e = cc
refused_by m cpu source task (Some p) is offered e =
    let s : State = queue_at m source in
    let c : Carries s p.task p = offer-carries s p is in
    let both_are : Some p.task ≡ Some task = sym (offer-candidate s p is) ∙ offered in
    let same : p.task ≡ task = cc in
    let heavy = heavy_by (queue_at m cpu) s p (is_lighter (load_at m cpu) p (load_of s)) (can_place (queue_at m cpu) (sleeper_of p)) refl e in
    record {
      entry = c.entry;
      here = ap (get s.runnable) (sym same) ∙ c.here;
      no_lighter = subst (λ (n : ℤ). load_of s ≤ load_at m cpu + weight_of n) c.same_nice heavy;
    }

pub balanced_refuses_candidate : BalancedRefusesCandidate
balanced_refuses_candidate homes m cpu source task offered e = refused_by m cpu source task (offer (queue_at m source)) refl offered e

-- ---- while no task is taken
untaken : (o : Option ℕ) (n : ℕ) → count (is_some o) + n ≡ 0 → o ≡ None
untaken None n h = refl
untaken (Some t) n h = absurd (let no : ⊥ = omega (arith, h) in no)

first_none : (a : Answer) (n : ℕ) → count (is_some (taken a)) + n ≡ 0 → taken a ≡ None
first_none a n h = untaken (taken a) n h

all_kept : (homes : List ℕ) (m : Machine) (deeds : List Deed) → AllByRecursion (λ (d : Deed). is_turn_or_pull d ≡ true) deeds → pulls_that_took (lines_of homes m deeds) ≡ 0
    → AllWeighTheSame m (machine_after homes m deeds)
all_kept homes m [] kinds none k = itself (queue_at m k).runnable
all_kept homes m (d ∷ ds) kinds none k =
    let n : Machine = (whole homes d m).1 in
    both (queue_at m k).runnable (queue_at n k).runnable (queue_at (machine_after homes n ds) k).runnable
    (weighs-the-same homes d m kinds.0 (first_none (whole homes d m).0 (pulls_that_took (lines_of homes n ds)) none) k)
    (all_kept homes n ds kinds.1 (omega (arith, none)) k)

-- from a moment on
kept_from : (homes : List ℕ) (m : Machine) (before rest : List Deed) → AllByRecursion (λ (d : Deed). is_turn_or_pull d ≡ true) (before ++ rest)
    → pulls_that_took (lines_of homes m (before ++ rest)) ≡ 0 → AllWeighTheSame (machine_after homes m before) (machine_after homes m (before ++ rest))
kept_from homes m [] rest kinds none = all_kept homes m rest kinds none
kept_from homes m (d ∷ before) rest kinds none = kept_from homes (whole homes d m).1 before rest kinds.1 (omega (arith, none))

level_by : (o : Option Entry) (nice : ℤ) → nice_in o ≡ Some nice → (e : Entry) × ((o ≡ Some e) × (e.nice ≡ nice))
level_by None nice h = cc
level_by (Some e) nice h = (e, (refl, (let is : e.nice ≡ nice = cc in is)))

still_refused : (m n : Machine) (cpu source task : ℕ) → AllWeighTheSame m n → IsRefused m cpu source task → IsRefused n cpu source task
still_refused m n cpu source task same r =
    let found = level_by (get (queue_at n source).runnable task) r.entry.nice ((same source).each task ∙ ap nice_in r.here) in
    let weighs : weight_of found.0.nice ≡ weight_of r.entry.nice = ap weight_of found.1.1 in
    record { entry = found.0; here = found.1.0; no_lighter = omega (arith, r.no_lighter, (same source).load, (same cpu).load, weighs) }

was_refused : (homes : List ℕ) (m : Machine) (deeds : List Deed) (cpu source task : ℕ) → KeepTasks homes m deeds → WasRefused homes m deeds cpu source task
    → IsRefused (machine_after homes m deeds) cpu source task
was_refused homes m deeds cpu source task keep was =
    let reached : Machine = machine_after homes m was.before in
    let rest : List Deed = Pull cpu source ∷ was.later in
    let kinds = subst (λ (ds : List Deed). AllByRecursion (λ (d : Deed). is_turn_or_pull d ≡ true) ds) was.done keep.kinds in
    let none = subst (λ (ds : List Deed). pulls_that_took (lines_of homes m ds) ≡ 0) was.done keep.none_taken in
    subst (λ (ds : List Deed). IsRefused (machine_after homes m ds) cpu source task) (sym was.done)
    (still_refused reached (machine_after homes m (was.before ++ rest)) cpu source task (kept_from homes m was.before rest kinds none)
    (balanced_refuses_candidate homes reached cpu source task was.offered was.balanced))

pub refusals_stay : RefusalsStay
refusals_stay homes m deeds cpu source keep were = record {
  least = were.least;
  first = were.first;
  second = were.second;
  apart = were.apart;
  refused_first = was_refused homes m deeds cpu source were.first keep were.first_was;
  refused_second = was_refused homes m deeds cpu source were.second keep were.second_was;
}

pub half_after_last_pull : HalfAfterLastPull
half_after_last_pull homes m deeds rate parts cpu source task e keep were ideal_rate here =
    balanced_gives_half (machine_after homes m deeds) rate parts cpu source task e ideal_rate (refusals_stay homes m deeds cpu source keep were) here
