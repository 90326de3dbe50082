-- From what an order comes to, to what is answered.
use Rattle.std.proofs.Common.{◌≡◌, ◌≢◌, ◌⊎◌, ℕ, ◌+◌, Bool, true, false, List, [], ◌∷◌, length, refl, sym, ap, subst, ◌∙◌, inl, inr}
use Rattle.std.specs.Prelude.{nat_lt, if◌then◌else◌, Option, Some, None, Ok, Err}
use Rattle.std.specs.{Option.option_map, List.list_all}
use Rattle.eevdf_ops.specs.Setup.{Setup, allows, homes_of}
use Rattle.eevdf_ops.specs.{Programs.deeds_of, Followed.FollowsPrograms, Histories.IsOneThread, declared.deeds.Line.Line}
use Rattle.eevdf_ops.specs.{Machine.Machine, Machine.start, Places.IsPlaced, Outcome.Outcome, Outcome.machine_of}
use Rattle.eevdf_steps.specs.{Commits.deeds_committed, declared.step_fault.StepFault.StepFault}
use Rattle.eevdf_steps.specs.{declared.play_fault.PlayFault.PlayFault, Plan.Plan, Plan.plan_of, MicroState.micro, Plays.IsOutcome}
use Rattle.eevdf_steps.specs.Plays.{IsPlay}
use Rattle.eevdf_bench.specs.{declared.command.Kind.TheVariants.Replay, Reports.IsPlayed, Reports.IsReport}
use Rattle.eevdf_bench.specs.declared.workbench_fault.BenchFault.{BenchFault}
use Rattle.eevdf_bench.proofs.{OwnDeeds.own_deeds, LeftLists.all_left}
use Rattle.eevdf_steps.specs.declared.step_fault.StepFault.TheVariants as step
use Rattle.eevdf_steps.specs.declared.play_fault.PlayFault.TheVariants.{TooLong, Memory, Short}
use Rattle.eevdf_steps.specs.Counters.{Counters, counted, refusal, unfinished}
use Rattle.eevdf_steps.specs.Orders.{IsWhole, counters_at_start, fault_or, most_places, order_fault, play_fault}
use Rattle.eevdf_bench.specs.declared.workbench_fault.BenchFault.TheVariants as bench
use Rattle.eevdf_workload.specs.Meaning.{Workload}
use Rattle.eevdf_bench.specs.Runs.{IsFault, Makes, order_report, play_refusal, replay_report, state_report, text_unless}
use Rattle.eevdf_report.specs.{TextReport.report_text, declared.form.Form.Form}

-- no place of an order, nor its end, is too long
end_in_time : (u : Option ℕ) → option_map (λ (p : ℕ). Short p) u ≢ Some TooLong
end_in_time None e = cc
end_in_time (Some p) e = cc

place_in_time : (at : ℕ) (f : Option StepFault) (later : Option PlayFault) → later ≢ Some TooLong → fault_or at f later ≢ Some TooLong
place_in_time at None later in_time e = in_time e
place_in_time at (Some step.NoCaller) later in_time e = cc
place_in_time at (Some step.Done) later in_time e = cc
place_in_time at (Some (step.Blocked cpu holder)) later in_time e = cc

order_in_time : (plan : Plan) (c : Counters) (at : ℕ) (order : List ℕ) → order_fault plan c at order ≢ Some TooLong
order_in_time plan c at [] = end_in_time (unfinished plan c)
order_in_time plan c at (p ∷ order) =
    place_in_time at (refusal plan c p) (order_fault plan (counted c p) (at + 1) order) (order_in_time plan (counted c p) (at + 1) order)

-- an order that isn't too long has no such fault
in_time : (plan : Plan) (order : List ℕ) → nat_lt most_places (length order) ≡ false → play_fault plan order ≢ Some TooLong
in_time plan order short e =
    order_in_time plan (counters_at_start plan) 0 order
    (subst (λ (b : Bool). (if b then Some TooLong else order_fault plan (counters_at_start plan) 0 order) ≡ Some TooLong) short e)

fault_made : (f : PlayFault) → IsFault (bench.Play f) (play_refusal f)
fault_made Memory = inr ((λ e. cc), refl)
fault_made _ = inl refl

memory_made : (fault : Option PlayFault) (text : List ℕ) → fault ≢ Some TooLong → Makes (text_unless fault text) (Err bench.Memory)
memory_made None text in_time = refl
memory_made (Some p) text in_time = inr ((λ e. in_time (ap (λ (q : PlayFault). Some q) e)), refl)

-- the fault of an order that isn't played
refused : (plan : Plan) (order text : List ℕ) (f : PlayFault) → (play_fault plan order ≡ Some f) ⊎ ((nat_lt most_places (length order) ≡ false) × (f ≡ Memory))
    → Makes (text_unless (play_fault plan order) text) (Err (play_refusal f))
refused plan order text f (inl e) = subst (λ (o : Option PlayFault). Makes (text_unless o text) (Err (play_refusal f))) (sym e) (fault_made f)
refused plan order text f (inr e) =
    subst (λ (p : PlayFault). Makes (text_unless (play_fault plan order) text) (Err (play_refusal p))) (sym e.1)
    (memory_made (play_fault plan order) text (in_time plan order e.0))

pub not_replayed : (w : Workload) (form : Form) (s : Setup) (order : List ℕ) (f : PlayFault) (g : BenchFault) → Some order ≡ w.order → s ≡ w.setup → IsPlay s order (Err f) → g ≡ play_refusal f
    → Makes (replay_report w form) (Err g)
not_replayed w form s order f g there same is e =
    subst (λ (b : BenchFault). Makes (replay_report w form) (Err b)) (sym e)
    (subst (λ (o : Option (List ℕ)). Makes (order_report w.setup o form) (Err (play_refusal f))) there
    (subst (λ (t : Setup). Makes (order_report t (Some order) form) (Err (play_refusal f))) same
    (refused (plan_of s) order _ f is)))

-- the report of an outcome is that of the state that the order leaves
reported : (s : Setup) (order : List ℕ) (form : Form) (o : Outcome) → IsOutcome (record { plan = plan_of s; state = micro s order }) o
    → report_text o.lines (machine_of o.queues) o.left form ≡ state_report s (micro s order) form
reported s order form o is =
    ap (λ (ls : List Line). report_text ls (machine_of o.queues) o.left form) is.lines
    ∙ ap (λ (m : Machine). report_text (micro s order).lines m o.left form) is.machine
    ∙ ap (λ (l : List (List ℕ)). report_text (micro s order).lines (micro s order).work.machine l form) (all_left _ o is)

-- and answers an order that is played
played : (s : Setup) (order text : List ℕ) (form : Form) (o : Outcome) → IsPlay s order (Ok o) → text ≡ report_text o.lines (machine_of o.queues) o.left form
    → order_report s (Some order) form ≡ Ok text
played s order text form o is t =
    ap (λ (f : Option PlayFault). text_unless f (state_report s (micro s order) form)) is.0
    ∙ ap (λ (bs : List ℕ). Ok bs) (sym (t ∙ reported s order form o is.1))

pub replayed : (w : Workload) (form : Form) (s : Setup) (order text : List ℕ) (o : Outcome) → Some order ≡ w.order → s ≡ w.setup → IsPlay s order (Ok o)
    → text ≡ report_text o.lines (machine_of o.queues) o.left form → replay_report w form ≡ Ok text
replayed w form s order text o there same is t =
    ap (λ (p : Option (List ℕ)). order_report w.setup p form) (sym there)
    ∙ ap (λ (u : Setup). order_report u (Some order) form) (sym same)
    ∙ played s order text form o is t

-- a workload's order is played, under whichever name of its setup
pub is_played : (w : Workload) (s : Setup) (order : List ℕ) (o : Outcome) → Some order ≡ w.order → s ≡ w.setup → IsWhole (plan_of s) (counters_at_start (plan_of s)) order
    → deeds_of o.lines ≡ deeds_committed s order → FollowsPrograms s o → IsPlayed w o
is_played w s order o there same whole deeds follows = record {
  order = order;
  listed = sym there;
  whole = subst (λ (u : Setup). IsWhole (plan_of u) (counters_at_start (plan_of u)) order) same whole;
  deeds = subst (λ (u : Setup). deeds_of o.lines ≡ deeds_committed u order) same deeds;
  programs = subst (λ (u : Setup). FollowsPrograms u o) same follows;
}

-- and is that of one thread, of what the order commits
pub played_report : (w : Workload) (form : Form) (s : Setup) (order text : List ℕ) (o : Outcome) → Some order ≡ w.order → s ≡ w.setup
    → IsWhole (plan_of s) (counters_at_start (plan_of s)) order → IsOneThread (homes_of s) (start s) (deeds_committed s order) o → list_all (allows s) (deeds_of o.lines) ≡ true
    → FollowsPrograms s o → IsPlaced (homes_of s) (machine_of o.queues) → text ≡ report_text o.lines (machine_of o.queues) o.left form → IsReport Replay w form text
played_report w form s order text o there same whole one allowed follows placed t = record {
  outcome = o;
  one_thread = subst (λ (u : Setup). IsOneThread (homes_of u) (start u) (deeds_of o.lines) o) same (own_deeds (homes_of s) (start s) (deeds_committed s order) o one);
  allowed = subst (λ (u : Setup). list_all (allows u) (deeds_of o.lines) ≡ true) same allowed;
  places = subst (λ (u : Setup). IsPlaced (homes_of u) (machine_of o.queues)) same placed;
  does = is_played w s order o there same whole one.deeds_are follows;
  says = t;
}
