-- No runnable task is past its own deadline, whatever becomes of the tasks.
use Rattle.std.proofs.Common.{◌≡◌, ℕ, Bool, true, false, cond, Option, Some, None, refl, sym, ap, subst, ◌∙◌, to_z, of_z, arith}
use Rattle.std.specs.Prelude.{ℤ, pos, ◌+ℤ◌, ◌-ℤ◌, ◌≤ℤ◌}
use Rattle.std.specs.{Option.option_map, Ordering.nat_cmp, Ordering.eq_by_cmp, Cmp.nat_cmp_total}
use Rattle.std.specs.FinMap.{empty, insert, remove, get, get-empty, get-insert, get-remove}
use Rattle.std.proofs.lemmas.Int.{ints, to_z-of_z}
use mir.Syntax.{w64}
use mir.Val.{SFits}
use Rattle.eevdf_queue.specs.{declared.entry.Entry.Entry, State.State, State.Sleeper, Sums.Tasks, Kept.NoneIsPastDue}
use Rattle.eevdf_queue.specs.{Moves.fresh_entry, Moves.is_entry_in_range, Moves.entry_in_range, Moves.request_of, Yield.yielded}
use Rattle.eevdf_queue.specs.{Tick.aged, Tick.is_used_up, Tick.charged, Placing.placement, Placing.placed_entry, Wake.waking_runtime, Wake.waking_entry}
use Rattle.eevdf_queue.specs.Rebase.{lowered_entry, lowered_tasks}
use Rattle.eevdf_queue.proofs.LoweredMaps.{get-lowered}

-- ---- one entry
-- a fresh request ends no earlier than it starts
pub fresh_due : (v nice : ℤ) (slice : ℕ) → v ≤ℤ (fresh_entry v nice slice).d
fresh_due v nice slice = omega (arith, ints)

-- who is charged isn't past the deadline that it then has
pub charged_due : (e : Entry) (ns : ℕ) → (charged e ns).v ≤ℤ (charged e ns).d
charged_due e ns =
    by (is_used_up e ns) refl
  where
    by : (b : Bool) → is_used_up e ns ≡ b
        → (cond b (fresh_entry (aged e ns) e.nice e.slice) (record e { v = aged e ns })).v
        ≤ℤ (cond b (fresh_entry (aged e ns) e.nice e.slice) (record e { v = aged e ns })).d
    by true is = omega (arith, ints)
    by false is = omega (arith, ints, is)

pub charged_in_time : (e f : Entry) (ns : ℕ) → f ≡ charged e ns → f.v ≤ℤ f.d
charged_in_time e f ns is = subst (λ (x : Entry). x.v ≤ℤ x.d) (sym is) (charged_due e ns)

later_still : (v d : ℤ) (n : ℕ) → v ≤ℤ d → v ≤ℤ (d +ℤ pos n)
later_still v d n h = omega (arith, ints, h)

-- nor is who yields
pub yielded_in_time : (e f : Entry) → f ≡ yielded e → e.v ≤ℤ e.d → f.v ≤ℤ f.d
yielded_in_time e f is h = subst (λ (x : Entry). x.v ≤ℤ x.d) (sym is) (later_still e.v e.d (request_of e.nice e.slice) h)

-- nor who gets a fresh request
pub started_due : (v nice : ℤ) (slice : ℕ) (e : Entry) → entry_in_range (fresh_entry v nice slice) ≡ Some e → e.v ≤ℤ e.d
started_due v nice slice e =
    by (is_entry_in_range (fresh_entry v nice slice))
  where
    by : (b : Bool) → cond b (Some (fresh_entry v nice slice)) None ≡ Some e → e.v ≤ℤ e.d
    by true h = let same : fresh_entry v nice slice ≡ e = cc in subst (λ (x : Entry). x.v ≤ℤ x.d) same (fresh_due v nice slice)
    by false h = cc

-- so it is of who joins, and of who wakes
pub placed_due : (q : State) (s : Sleeper) (e : Entry) → placed_entry q s ≡ Some e → e.v ≤ℤ e.d
placed_due q s e h = started_due (placement q s) s.nice s.slice e h

pub waking_due : (q : State) (s : Sleeper) (place : Option ℤ) (e : Entry) → waking_entry q s place ≡ Some e → e.v ≤ℤ e.d
waking_due q s place e h = started_due (waking_runtime q s place) s.nice s.slice e h

-- and of an entry that is written part by part as it was read
pub read_in_time : (v d : ℤ) → SFits w64 v → SFits w64 d → v ≤ℤ d → to_z w64 (of_z w64 v) ≤ℤ to_z w64 (of_z w64 d)
read_in_time v d f g h =
    subst (λ (x : ℤ). x ≤ℤ to_z w64 (of_z w64 d)) (sym (to_z-of_z w64 v f))
    (subst (λ (y : ℤ). v ≤ℤ y) (sym (to_z-of_z w64 d g)) h)

-- ---- all tasks
pub due_in_none : (tasks : Tasks) → tasks ≡ empty → NoneIsPastDue tasks
due_in_none tasks is t e here = let none : get tasks t ≡ None = ap (λ (m : Tasks). get m t) is ∙ get-empty nat_cmp t in cc

found_before : (tasks : Tasks) (t u : ℕ) (f : Entry) → NoneIsPastDue tasks → (b : Bool) → cond b None (get tasks u) ≡ Some f → f.v ≤ℤ f.d
found_before tasks t u f due true is = cc
found_before tasks t u f due false is = due u f is

pub due_without : (tasks : Tasks) (t : ℕ) → NoneIsPastDue tasks → NoneIsPastDue (remove tasks t)
due_without tasks t due u f found =
    found_before tasks t u f due (eq_by_cmp nat_cmp u t) (sym (get-remove nat_cmp_total tasks t u) ∙ found)

found_after : (tasks : Tasks) (e : Entry) (u : ℕ) (f : Entry) → e.v ≤ℤ e.d → NoneIsPastDue tasks → (b : Bool) → cond b (Some e) (get tasks u) ≡ Some f → f.v ≤ℤ f.d
found_after tasks e u f timely due true is = let same : e ≡ f = cc in subst (λ (x : Entry). x.v ≤ℤ x.d) same timely
found_after tasks e u f timely due false is = due u f is

pub due_with : (tasks : Tasks) (t : ℕ) (e : Entry) → e.v ≤ℤ e.d → NoneIsPastDue tasks → NoneIsPastDue (insert tasks t e)
due_with tasks t e timely due u f found =
    found_after tasks e u f timely due (eq_by_cmp nat_cmp u t) (sym (get-insert nat_cmp_total tasks t e u) ∙ found)

-- the tasks afterwards
pub due_left : (tasks after : Tasks) (t : ℕ) → after ≡ remove tasks t → NoneIsPastDue tasks → NoneIsPastDue after
due_left tasks after t is due = subst NoneIsPastDue (sym is) (due_without tasks t due)

pub due_written : (tasks after : Tasks) (t : ℕ) (e : Entry) → after ≡ insert tasks t e → e.v ≤ℤ e.d → NoneIsPastDue tasks → NoneIsPastDue after
due_written tasks after t e is timely due = subst NoneIsPastDue (sym is) (due_with tasks t e timely due)

lowered_due : (v d by : ℤ) → v ≤ℤ d → (v -ℤ by) ≤ℤ (d -ℤ by)
lowered_due v d by h = omega (arith, ints, h)

found_lower : (by : ℤ) (o : Option Entry) (f : Entry) → ((e : Entry) → o ≡ Some e → e.v ≤ℤ e.d) → option_map (lowered_entry by) o ≡ Some f → f.v ≤ℤ f.d
found_lower by None f due is = cc
found_lower by (Some e) f due is =
    let same : lowered_entry by e ≡ f = cc in
    subst (λ (x : Entry). x.v ≤ℤ x.d) same (lowered_due e.v e.d by (due e refl))

pub due_lowered : (by : ℤ) (tasks after : Tasks) → after ≡ lowered_tasks by tasks → NoneIsPastDue tasks → NoneIsPastDue after
due_lowered by tasks after is due u f found =
    found_lower by (get tasks u) f (λ e here. due u e here)
    (sym (get-lowered by tasks u) ∙ sym (ap (λ (m : Tasks). get m u) is) ∙ found)
