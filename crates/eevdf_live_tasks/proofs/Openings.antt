-- The numbers that tasks have from the beginning are taken one by one.
use Rattle.std.proofs.Common.{◌≡◌, ◌≢◌, ℕ, ◌+◌, ◌<◌, ◌≤◌, Bool, true, false, ◌==◌, if◌then◌else◌, Some, None, nat_lt, List, length, get_or, set, refl, sym, ap, subst, ◌∙◌, arith}
use Rattle.std.proofs.lemmas.List.{get_or_default, get_or_past, get_or-map, get_or-set_other, get_or-set_same, length-set}
use Rattle.std.proofs.lemmas.Bool.{eqb-true, eqb-false}
use Rattle.eevdf_queue.specs.Numbers.{checked_number, number_limit}
use Rattle.eevdf_ops.specs.{Setup.Setup, Setup.home_of, Setup.homes_of, declared.task_spec.TaskSpec.TaskSpec}
use Rattle.eevdf_free_tasks.specs.Parts.{Part}
use Rattle.eevdf_free_tasks.specs.Slots.{slot_of, with_taken}
use Rattle.eevdf_free_tasks.specs.declared.slot.Slot.{Slot}
use Rattle.eevdf_free_tasks.specs.declared.slot.Slot.TheVariants.{Elsewhere, Free, Begun, Taken}
use Rattle.eevdf_live_tasks.specs.Openings.{AreKept, HasKept, IsKept, kept, kept_as}

within : (own : List Slot) (k : ℕ) → slot_of own k ≡ Begun → k < length own
within own k here = grind (arith, get_or_past own k Elsewhere)

kept-here : (own : List Slot) (k : ℕ) → slot_of own k ≡ Begun → slot_of (kept own k) k ≡ Taken
kept-here own k here =
    ap (λ (x : Slot). slot_of (kept_as x own k) k) here ∙ get_or-set_same own k Taken Elsewhere (within own k here)

apart-as : (x : Slot) (own : List Slot) (k task : ℕ) → task ≢ k → slot_of (kept_as x own k) task ≡ slot_of own task
apart-as Elsewhere own k task other = refl
apart-as Free own k task other = refl
apart-as Begun own k task other = get_or-set_other own k task Taken Elsewhere other
apart-as Taken own k task other = refl

still-as : (x : Slot) (own : List Slot) (k : ℕ) → x ≢ Begun → kept_as x own k ≡ own
still-as Elsewhere own k other = refl
still-as Free own k other = refl
still-as Begun own k other = absurd (other refl)
still-as Taken own k other = refl

module _ (s : Setup) (k cpu : ℕ) (before now : Part) (h : IsKept s k cpu before now) where
  as-before : slot_of now.own k ≡ slot_of before.own k
  as-before = h.others k (λ less. let no : ⊥ = omega (arith, less) in absurd no)

  taken-at : (task : ℕ) (b : Bool) → (task == k) ≡ b → task < k + 1 → home_of (homes_of s) task ≡ cpu → slot_of before.own task ≡ Begun → slot_of (kept now.own k) task ≡ Taken
  taken-at task true is less home begun =
      let same = eqb-true task k is in
      let there : slot_of now.own k ≡ Begun = as-before ∙ ap (slot_of before.own) (sym same) ∙ begun in
      ap (slot_of (kept now.own k)) same ∙ kept-here now.own k there
  taken-at task false is less home begun =
      let other = eqb-false task k is in
      let below : task < k = grind (arith, other, less) in
      apart-as (slot_of now.own k) now.own k task other ∙ h.taken task below home begun

  others-at : home_of (homes_of s) k ≡ cpu → (task : ℕ) (b : Bool) → (task == k) ≡ b
      → (task < k + 1 → home_of (homes_of s) task ≡ cpu → slot_of before.own task ≢ Begun) → slot_of (kept now.own k) task ≡ slot_of before.own task
  others-at home task true is none =
      let same = eqb-true task k is in
      let below : task < k + 1 = omega (arith, same) in
      let at : home_of (homes_of s) task ≡ cpu = ap (home_of (homes_of s)) same ∙ home in
      let apart : slot_of now.own k ≢ Begun = λ begun. none below at (ap (slot_of before.own) same ∙ sym as-before ∙ begun) in
      ap (λ (own : List Slot). slot_of own task) (still-as (slot_of now.own k) now.own k apart) ∙ ap (slot_of now.own) same ∙ as-before ∙ ap (slot_of before.own) (sym same)
  others-at home task false is none =
      apart-as (slot_of now.own k) now.own k task (eqb-false task k is) ∙ h.others task (λ less. none (omega (arith, less)))

  -- of the next number too, at its home
  kept-home : home_of (homes_of s) k ≡ cpu → IsKept s (k + 1) cpu before (record now { own = kept now.own k })
  kept-home home = record {
    part = ap (λ (p : Part). record p { own = kept now.own k }) h.part;
    taken = λ task less at begun. taken-at task (task == k) refl less at begun;
    others = λ task none. others-at home task (task == k) refl none;
  }

  -- and elsewhere
  kept-away : home_of (homes_of s) k ≢ cpu → IsKept s (k + 1) cpu before now
  kept-away away = record {
    part = h.part;
    taken = λ task less at begun.
        let other : task ≢ k = λ same. away (ap (home_of (homes_of s)) (sym same) ∙ at) in
        h.taken task (grind (arith, other, less)) at begun;
    others = λ task none. h.others task (λ less. none (omega (arith, less)));
  }

pub kept-none : (s : Setup) (parts : List Part) → AreKept s 0 parts parts
kept-none s parts = record {
  all = refl;
  each = λ cpu part below at. subst (λ (p : Part). IsKept s 0 cpu part p) (sym at) (record { part = refl; taken = λ task less. let no : ⊥ = omega (arith, less) in absurd no; others = λ task none. refl });
}

next-at : (s : Setup) (k home : ℕ) (before now after : List Part) → AreKept s k before now → HasKept home k now after → home_of (homes_of s) k ≡ home
    → (cpu : ℕ) (part : Part) (b : Bool) → (cpu == home) ≡ b → cpu < length before → get_or before cpu part ≡ part → IsKept s (k + 1) cpu part (get_or after cpu part)
next-at s k home before now after h one is cpu part true at below found =
    let same = eqb-true cpu home at in
    let mine : Part = get_or now cpu part in
    let inside : cpu < length now = omega (arith, below, h.all) in
    let there : get_or now home mine ≡ mine = ap (λ j. get_or now j mine) (sym same) ∙ get_or_default now cpu mine part inside in
    let result : get_or after cpu part ≡ record mine { own = kept mine.own k } =
    get_or_default after cpu part mine (omega (arith, inside, one.all)) ∙ ap (λ j. get_or after j mine) same ∙ one.here mine (omega (arith, inside, same)) there in
    subst (λ (p : Part). IsKept s (k + 1) cpu part p) (sym result) (kept-home s k cpu part mine (h.each cpu part below found) (is ∙ sym same))
next-at s k home before now after h one is cpu part false at below found =
    let other = eqb-false cpu home at in
    subst (λ (p : Part). IsKept s (k + 1) cpu part p) (sym (one.apart cpu part other))
    (kept-away s k cpu part (get_or now cpu part) (h.each cpu part below found) (λ same. other (sym same ∙ is)))

pub kept-next : {s : Setup} {k : ℕ} {before now after : List Part} (home : ℕ) → AreKept s k before now → HasKept home k now after → home_of (homes_of s) k ≡ home → AreKept s (k + 1) before after
kept-next {s = s} {k = k} {before = before} {now = now} {after = after} home h one is = record {
  all = one.all ∙ h.all;
  each = λ cpu part below found. next-at s k home before now after h one is cpu part (cpu == home) refl below found;
}

-- where there is no such part nothing changes
pub kept_nowhere : (home task : ℕ) (parts : List Part) → length parts ≤ home → HasKept home task parts parts
kept_nowhere home task parts past = record {
  all = refl;
  here = λ part below at. let no : ⊥ = omega (arith, below, past) in absurd no;
  apart = λ cpu part other. refl;
}

pub kept_set : (home task : ℕ) (parts : List Part) (before after : Part) → home < length parts → before ≡ get_or parts home before → after ≡ record before { own = kept before.own task }
    → HasKept home task parts (set parts home after)
kept_set home task parts before after below at is = record {
  all = length-set parts home after;
  here = λ part inside found.
      let same : before ≡ part = at ∙ get_or_default parts home before part below ∙ found in
      get_or-set_same parts home after part below ∙ is ∙ ap (λ (p : Part). record p { own = kept p.own task }) same;
  apart = λ cpu part other. get_or-set_other parts home cpu after part other;
}

-- a number was taken, since it has begun, or wasn't, since it hasn't
pub kept_some : (before after : Part) (task : ℕ) → slot_of before.own task ≡ Begun → after ≡ record before { own = with_taken before.own task }
    → after ≡ record before { own = kept before.own task }
kept_some before after task begun is = is ∙ ap (λ (x : Slot). record before { own = kept_as x before.own task }) (sym begun)

pub kept_same : (before after : Part) (task : ℕ) → slot_of before.own task ≢ Begun → after ≡ before → after ≡ record before { own = kept before.own task }
kept_same before after task other is = is ∙ ap (λ (own : List Slot). record before { own = own }) (sym (still-as (slot_of before.own task) before.own task other))

pub home-is : (s : Setup) (k : ℕ) (spec : TaskSpec) → k < length s.tasks → spec ≡ get_or s.tasks k spec → home_of (homes_of s) k ≡ spec.home
home-is s k spec below is = get_or-map (λ (t : TaskSpec). t.home) s.tasks k spec 0 below ∙ ap (λ (t : TaskSpec). t.home) (sym is)

either-is : (b : Bool) (n task : ℕ) → (if b then Some n else None) ≡ Some task → n ≡ task
either-is true n task is = cc
either-is false n task is = cc

-- the next number is that of its task
pub number-is : (n task : ℕ) → checked_number n ≡ Some task → n ≡ task
number-is n task is = either-is (nat_lt n number_limit) n task is

-- one number more, by its task
pub kept-task : {s : Setup} {n : ℕ} {before now after : List Part} (task : ℕ) (spec : TaskSpec) → AreKept s n before now → n ≡ task → n < length s.tasks → spec ≡ get_or s.tasks task spec
    → HasKept spec.home task now after → AreKept s (n + 1) before after
kept-task {s = s} {n = n} {before = before} {now = now} {after = after} task spec h same below is one =
    kept-next spec.home h (subst (λ (k : ℕ). HasKept spec.home k now after) (sym same) one)
    (home-is s n spec below (is ∙ ap (λ (k : ℕ). get_or s.tasks k spec) (sym same)))
