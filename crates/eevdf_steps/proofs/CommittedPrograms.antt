-- The deeds that a complete order commits follow the callers' programs.
use Rattle.std.proofs.Common.{◌≡◌, ◌≢◌, ℕ, suc, ◌+◌, ◌<◌, Bool, true, false, cond, List, [], ◌∷◌, ◌++◌, length, drop, sym, ap, subst, ◌∙◌, arith, refl}
use Rattle.std.proofs.Math.ListN.{length-replicate}
use Rattle.std.proofs.lemmas.{List.drop_all, List.get_or-set_other, List.Elements.filter-append, Grind.common_steps}
use Rattle.std.specs.Prelude.{◌==◌, Option, Some, None}
use Rattle.std.specs.Option.{option_to_list}
use Rattle.eevdf_ops.specs.{declared.deeds.Op.Op, declared.deeds.Deed.Deed, declared.deeds.Line.Line, Parts.decider}
use Rattle.eevdf_ops.specs.Programs.{deeds_by, deeds_of, lines_by}
use Rattle.eevdf_steps.specs.{declared.micro.Micro.Micro, declared.plan.Step.Step, MicroSteps.steps_by, Orders.counters_at_start}
use Rattle.eevdf_steps.specs.Orders.{order_fault}
use Rattle.eevdf_steps.specs.Plan.{Plan, callers, program}
use Rattle.eevdf_steps.specs.Counters.{Counters, count_of, counted, step_next, unfinished}
use Rattle.eevdf_steps.specs.Requests.{Progress, progress_after, progress_at_start, progress_by, progress_step}
use Rattle.eevdf_steps.specs.Commits.{commits, committed, committed_by}
use Rattle.eevdf_steps.proofs.{CommittedLines.FitsPrograms, Lists.drop_next, Lists.got_past, SoundSteps.is_caller}
use Rattle.eevdf_steps.proofs.{ProgramSteps.FitsSteps, ProgramSteps.operations_fit, Holders.count_first}
use Rattle.eevdf_steps.proofs.LawfulOrders.{done_by_all, faultless_whole, length-progress_step, whole_ends}

pub own_deeds : (found : Option ℕ) (x : ℕ) (o : Op) (m : Micro) → deeds_by x (option_to_list (committed found x o m)) ≡ option_to_list (committed found x o m)
own_deeds found x o m = grind arith

pub other_deeds : (found : Option ℕ) (p x : ℕ) (o : Op) (m : Micro) → x ≢ p → deeds_by p (option_to_list (committed found x o m)) ≡ []
other_deeds found p x o m apart = grind arith

pub deeds_joined : (p : ℕ) (a b : List Deed) → deeds_by p (a ++ b) ≡ deeds_by p a ++ deeds_by p b
deeds_joined p a b = filter-append (λ (d : Deed). decider d == p) a b

abbrev Left : Plan → Counters → ℕ → List Deed → Type 0
Left plan counters p deeds = FitsSteps p deeds (drop (count_of counters p) (steps_by plan p))

pub count_own : (counters : Counters) (p : ℕ) → p < length counters → count_of (counted counters p) p ≡ suc (count_of counters p)
count_own counters p h = grind (arith, common_steps)

pub count_other : (counters : Counters) (p q : ℕ) → q ≢ p → count_of (counted counters p) q ≡ count_of counters q
count_other counters p q apart = get_or-set_other counters p q (count_of counters p + 1) 0 apart

-- the step of a caller, for itself and for another
own_step : (plan : Plan) (g : Progress) (x : ℕ) (s : Step) (rest : List Deed) → x < length g.counters → step_next plan g.counters x ≡ Some s
    → Left plan (counted g.counters x) x (deeds_by x rest) → Left plan g.counters x (deeds_by x (committed_by g x (Some s) ++ rest))
own_step plan g x s rest h e later = grind (arith, drop_next, deeds_joined, own_deeds, count_own)

other_step : (plan : Plan) (g : Progress) (x p : ℕ) (s : Step) (rest : List Deed) → p ≢ x
    → Left plan (counted g.counters x) p (deeds_by p rest) → Left plan g.counters p (deeds_by p (committed_by g x (Some s) ++ rest))
other_step plan g x p s rest apart later = grind (arith, common_steps)

any_step : (plan : Plan) (g : Progress) (x p : ℕ) (r : Option Step) (rest : List Deed) → length g.counters ≡ callers plan → step_next plan g.counters x ≡ r
    → Left plan (progress_by plan g x r).counters p (deeds_by p rest) → Left plan g.counters p (deeds_by p (committed_by g x r ++ rest))
any_step plan g x p None rest each e later = later
any_step plan g x p (Some s) rest each e later = grind (arith, own_step, is_caller, other_step)

-- a caller's deeds of an order that ends with everybody done fit the steps that it has still to do
deeds_fit : (plan : Plan) (g : Progress) (order : List ℕ) (p : ℕ) → length g.counters ≡ callers plan → unfinished plan (progress_after plan g order).counters ≡ None
    → Left plan g.counters p (deeds_by p (commits plan g order))
deeds_fit plan g [] p each done = search (drop_all, got_past, done_by_all)
deeds_fit plan g (x ∷ order) p each done = grind (arith, deeds_fit plan (progress_step plan g x) order p, any_step, length-progress_step)

pub deeds_of_lines : (p : ℕ) (lines : List Line) → deeds_of (lines_by p lines) ≡ deeds_by p (deeds_of lines)
deeds_of_lines p [] = refl
deeds_of_lines p (l ∷ lines) = with_line p l (lines_by p lines) (deeds_by p (deeds_of lines)) (decider l.deed == p) (deeds_of_lines p lines)
  where
    with_line : (p : ℕ) (l : Line) (ls : List Line) (ds : List Deed) (b : Bool) → deeds_of ls ≡ ds → deeds_of (cond b (l ∷ ls) ls) ≡ cond b (l.deed ∷ ds) ds
    with_line p l ls ds true e = ap (λ (rest : List Deed). l.deed ∷ rest) e
    with_line p l ls ds false e = e

-- the lines of an order without fault follow the programs
pub programs_fit : (plan : Plan) (order : List ℕ) (lines : List Line) → order_fault plan (counters_at_start plan) 0 order ≡ None
    → deeds_of lines ≡ commits plan (progress_at_start plan) order → FitsPrograms plan lines
programs_fit plan order lines faultless same p =
    operations_fit plan p (program plan p) (deeds_of (lines_by p lines))
    (subst (λ (ds : List Deed). FitsSteps p ds (steps_by plan p)) (sym (deeds_of_lines p lines ∙ ap (λ (ds : List Deed). deeds_by p ds) same))
    (subst (λ (k : ℕ). FitsSteps p (deeds_by p (commits plan (progress_at_start plan) order)) (drop k (steps_by plan p))) (count_first (callers plan) p)
    (deeds_fit plan (progress_at_start plan) order p (length-replicate (callers plan) 0)
    (whole_ends plan (progress_at_start plan) order (faultless_whole plan (counters_at_start plan) 0 order faultless)))))
