-- Orders that are made place by place, each by a caller that may step.
use Rattle.std.proofs.Common.{◌≡◌, ℕ, ◌+◌, ◌<◌, ◌≤◌, Bool, true, false, cond, ◌&&◌, List, [], ◌∷◌, ◌++◌, length, sym, ap, ◌∙◌, arith, refl}
use Rattle.std.proofs.Math.ListN.{length-append}
use Rattle.std.proofs.lemmas.Bool.{false≢true, and_parts, ltb-true}
use Rattle.std.specs.Option.{option_map}
use Rattle.std.specs.Prelude.{not, nat_lt, is_none, is_some, is_ok, is_err, if◌then◌else◌, Option, Some, None, Result, Ok, Err}
use Rattle.eevdf_ops.specs.Setup.{Setup}
use Rattle.eevdf_steps.specs.{declared.micro.Micro.Micro, declared.step_fault.StepFault.TheVariants.NoCaller, Requests.Progress}
use Rattle.eevdf_steps.specs.{Requests.progress_by, MicroState.MicroState, MicroState.micro_by}
use Rattle.eevdf_steps.specs.Plan.{Plan, callers, plan_of}
use Rattle.eevdf_steps.specs.Counters.{Counters, counted, may_step, next, refused_next, step_next, unfinished}
use Rattle.eevdf_steps.specs.Orders.{counters_after, counters_at_start, is_lawful, play_fault}
use Rattle.eevdf_steps.specs.Players.{Player, player_start, player_step}
use Rattle.eevdf_steps.proofs.LawfulOrders.{whole_is_played}
use Rattle.eevdf_orders.specs.CallerSteps.{IsStepFrom}

-- a player that a lawful order has led to where it is
pub record IsPlaced (plan : Plan) (a : Player) (order : List ℕ) : Type 0 where
  pub plan_is : a.plan ≡ plan
  pub counters : a.state.progress.counters ≡ counters_after (counters_at_start plan) order
  pub lawful : is_lawful plan (counters_at_start plan) order ≡ true

pub placed_first : (s : Setup) (a : Player) → a ≡ player_start s → IsPlaced (plan_of s) a []
placed_first s a e = record {
  plan_is = ap (λ (b : Player). b.plan) e;
  counters = ap (λ (b : Player). b.state.progress.counters) e;
  lawful = refl;
}

-- ---- a caller that may step

-- it is a caller, and it has a step to do
pub record HasStep (plan : Plan) (counters : Counters) (p : ℕ) : Type 0 where
  pub below : p < callers plan
  pub has_step : is_some (step_next plan counters p) ≡ true

mapped_some : {A B : Type 0} (f : A → B) (o : Option A) → is_some (option_map f o) ≡ true → is_some o ≡ true
mapped_some f None e = e
mapped_some f (Some x) e = refl

stepper : (plan : Plan) (counters : Counters) (p : ℕ) (b : Bool) (m : Option Micro) → nat_lt p (callers plan) ≡ b → next plan counters p ≡ m
    → is_none (cond b (refused_next plan counters m) (Some NoCaller)) ≡ true → HasStep plan counters p
stepper plan counters p true (Some m) e f h = record {
  below = ltb-true p (callers plan) e;
  has_step = mapped_some _ (step_next plan counters p) (ap (λ (o : Option Micro). is_some o) f);
}
stepper plan counters p true None e f h = absurd (false≢true h)
stepper plan counters p false m e f h = absurd (false≢true h)

pub has_step_of : (plan : Plan) (counters : Counters) (p : ℕ) → may_step plan counters p ≡ true → HasStep plan counters p
has_step_of plan counters p h = stepper plan counters p (nat_lt p (callers plan)) (next plan counters p) refl refl h

progress_counted : (plan : Plan) (g : Progress) (p : ℕ) (o : _) → is_some o ≡ true → (progress_by plan g p o).counters ≡ counted g.counters p
progress_counted plan g p None h = absurd (false≢true h)
progress_counted plan g p (Some s) h = refl

micro_counted : (plan : Plan) (s : MicroState) (p : ℕ) (o : _) → is_some o ≡ true → is_some (step_next plan s.progress.counters p) ≡ true
    → (micro_by plan s p o).progress.counters ≡ counted s.progress.counters p
micro_counted plan s p None h there = absurd (false≢true h)
micro_counted plan s p (Some x) h there = progress_counted plan s.progress p (step_next plan s.progress.counters p) there

counted_by : (a : Player) (p : ℕ) → may_step a.plan a.state.progress.counters p ≡ true → (player_step a p).state.progress.counters ≡ counted a.state.progress.counters p
counted_by a p may =
    let st : HasStep a.plan a.state.progress.counters p = has_step_of a.plan a.state.progress.counters p may in
    micro_counted a.plan a.state p (step_next a.plan a.state.progress.counters p) st.has_step st.has_step

-- ---- one place more

after_more : (counters : Counters) (order : List ℕ) (p : ℕ) → counters_after counters (order ++ p ∷ []) ≡ counted (counters_after counters order) p
after_more counters [] p = refl
after_more counters (q ∷ order) p = after_more (counted counters q) order p

lawful_more : (plan : Plan) (counters : Counters) (order : List ℕ) (p : ℕ) → is_lawful plan counters order ≡ true → may_step plan (counters_after counters order) p ≡ true
    → is_lawful plan counters (order ++ p ∷ []) ≡ true
lawful_more plan counters [] p h may = ap (λ (b : Bool). b && true) may
lawful_more plan counters (q ∷ order) p h may =
    let parts : (may_step plan counters q ≡ true) × (is_lawful plan (counted counters q) order ≡ true)
    = and_parts (may_step plan counters q) (is_lawful plan (counted counters q) order) h in
    ap (λ (b : Bool). b && is_lawful plan (counted counters q) (order ++ p ∷ [])) parts.0 ∙ lawful_more plan (counted counters q) order p parts.1 may

may_there : (plan : Plan) (a : Player) (order : List ℕ) (p : ℕ) → IsPlaced plan a order → may_step a.plan a.state.progress.counters p ≡ true
    → may_step plan (counters_after (counters_at_start plan) order) p ≡ true
may_there plan a order p placed may =
    sym (ap (λ (pl : Plan). may_step pl a.state.progress.counters p) placed.plan_is ∙ ap (λ (cs : Counters). may_step plan cs p) placed.counters) ∙ may

pub placed_more : (plan : Plan) (a b : Player) (order : List ℕ) (first p : ℕ) → IsPlaced plan a order → IsStepFrom a first p b → IsPlaced plan b (order ++ p ∷ [])
placed_more plan a b order first p placed stepped = record {
  plan_is = ap (λ (c : Player). c.plan) stepped.done ∙ placed.plan_is;
  counters =
      ap (λ (c : Player). c.state.progress.counters) stepped.done ∙ counted_by a p stepped.next.may
      ∙ ap (λ (cs : Counters). counted cs p) placed.counters ∙ sym (after_more (counters_at_start plan) order p);
  lawful = lawful_more plan (counters_at_start plan) order p placed.lawful (may_there plan a order p placed stepped.next.may);
}

-- ---- the end

-- where nobody is ready any more, the order has no fault
pub placed_whole : (plan : Plan) (a : Player) (order : List ℕ) → IsPlaced plan a order → length order ≤ 1000000
    → is_none (unfinished a.plan a.state.progress.counters) ≡ true → play_fault plan order ≡ None
placed_whole plan a order placed short none =
    whole_is_played plan order short (record {
      lawful = placed.lawful;
      complete = sym (ap (λ (pl : Plan). is_none (unfinished pl a.state.progress.counters)) placed.plan_is ∙ ap (λ (cs : Counters). is_none (unfinished plan cs)) placed.counters)
          ∙ none;
    })

-- ---- what the code has of it

-- what was pushed stands at the end
pub pushed : {A B E : Type 0} (r : Result B E) (xs ys : List A) (x : A) → ys ≡ (if is_ok r then xs ++ x ∷ [] else xs) → false ≡ is_err r → ys ≡ xs ++ x ∷ []
pushed (Ok u) xs ys x e h = e
pushed (Err f) xs ys x e h = absurd (false≢true h)

pub one_place_more : (xs ys : List ℕ) (x n : ℕ) → ys ≡ xs ++ x ∷ [] → length xs ≡ n → length ys ≡ n + 1
one_place_more xs ys x n e h = ap (λ (zs : List ℕ). length zs) e ∙ length-append xs (x ∷ []) ∙ ap (λ (k : ℕ). k + 1) h

pub below_count : (plan : Plan) (a : Player) (order : List ℕ) (caller count : ℕ) → IsPlaced plan a order → caller < callers a.plan → count ≡ callers plan → caller < count
below_count plan a order caller count placed h e =
    let same : callers a.plan ≡ callers plan = ap (λ (pl : Plan). callers pl) placed.plan_is in
    omega (arith, same, h, e)

-- nobody is ready exactly where nobody is unfinished
pub nobody_unfinished : (r u : Option ℕ) (b : Bool) → is_some r ≡ not b → b ≡ true → is_none r ≡ is_none u → is_none u ≡ true
nobody_unfinished None u b e h n = sym n
nobody_unfinished (Some p) u b e h n = absurd (false≢true (sym (e ∙ ap (λ (t : Bool). not t) h)))

pub somebody_unfinished : (u : Option ℕ) → false ≡ is_none u → is_some u ≡ true
somebody_unfinished None n = absurd (false≢true n)
somebody_unfinished (Some p) n = refl
