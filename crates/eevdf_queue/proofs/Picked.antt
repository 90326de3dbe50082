-- What the number that is picked says of the tasks.
use Rattle.std.proofs.Common.{◌≡◌, ℕ, Option, Some, None, refl, sym, ap, ◌∙◌}
use Rattle.std.specs.Prelude.{ℤ, ◌↔◌, IfSome, IsNone}
use Rattle.std.specs.Option.{option_map}
use Rattle.std.specs.FinMap.{empty, entries}
use Rattle.eevdf_queue.specs.{declared.entry.Entry.Entry, Laws.PickIsFirst, Laws.PickOfNobody, Laws.SecondPickChangesNothing, Order.earliest}
use Rattle.eevdf_queue.specs.Sums.{Tasks, total_weight, total_moment}
use Rattle.eevdf_queue.specs.Pick.{IsPick, is_eligible, is_eligible_at, pick_of, view_picked_by, view_after_pick}
use Rattle.eevdf_queue.proofs.{MapFolds.entries-empty, Mean.nobody}
use Rattle.eevdf_queue.proofs.{SortedEntries.distinct_entries, Picking.IsEarliest, Picking.earliest_is, Picking.pick_is}

pub picked : (tasks : Tasks) (r : Option ℕ) → r ≡ pick_of tasks → IfSome r (IsPick tasks)
picked tasks None e = tt
picked tasks (Some t) e = pick_is tasks t (sym e)

none_by : (tasks : Tasks) (o : Option (ℕ × Entry)) → IsEarliest (is_eligible tasks) (entries tasks) o → option_map (λ (a : ℕ × Entry). a.0) o ≡ None → tasks ≡ empty
none_by tasks None h e = nobody tasks h
none_by tasks (Some a) h e = cc

none_then_empty : (tasks : Tasks) → pick_of tasks ≡ None → tasks ≡ empty
none_then_empty tasks e =
    none_by tasks (earliest (is_eligible tasks) (entries tasks)) (earliest_is (is_eligible tasks) (entries tasks) (distinct_entries tasks)) e

empty_then_none : pick_of empty ≡ None
empty_then_none = ap (λ es. option_map (λ (a : ℕ × Entry). a.0) (earliest (is_eligible empty) es)) entries-empty

pub none_picked : (tasks : Tasks) (r : Option ℕ) → r ≡ pick_of tasks → IsNone r ↔ (tasks ≡ empty)
none_picked tasks None e = (λ _. none_then_empty tasks (sym e), λ _. refl)
none_picked tasks (Some t) e =
    (λ h. cc, λ is. let k : Some t ≡ None = e ∙ ap pick_of is ∙ empty_then_none in cc)

-- the first of those that are eligible at the sums over the tasks is the pick
pub first_is_pick : (tasks : Tasks) (r : Option ℕ) (weight : ℕ) (moment : ℤ) → weight ≡ total_weight tasks → moment ≡ total_moment tasks
    → r ≡ option_map (λ (a : ℕ × Entry). a.0) (earliest (is_eligible_at weight moment) (entries tasks)) → r ≡ pick_of tasks
first_is_pick tasks r weight moment h k e = e
    ∙ ap (λ (w : ℕ). option_map (λ (a : ℕ × Entry). a.0) (earliest (is_eligible_at w moment) (entries tasks))) h
    ∙ ap (λ (s : ℤ). option_map (λ (a : ℕ × Entry). a.0) (earliest (is_eligible_at (total_weight tasks) s) (entries tasks))) k

pub pick_is_first : PickIsFirst
pick_is_first = pick_is

pub pick_of_nobody : PickOfNobody
pick_of_nobody tasks = none_picked tasks (pick_of tasks) refl

-- a pick changes neither the runnable tasks nor how deep their nodes stand
pub second_pick_changes_nothing : SecondPickChangesNothing
second_pick_changes_nothing w =
    by (pick_of w.state.runnable) refl
  where
    by : (o : Option ℕ) → pick_of w.state.runnable ≡ o → view_after_pick (view_picked_by w o) ≡ view_picked_by w o
    by None e = ap (view_picked_by (view_picked_by w None)) e
    by (Some t) e = ap (view_picked_by (view_picked_by w (Some t))) e
