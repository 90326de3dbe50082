-- From what a script, an order and a run come to, to the outcome that is drawn.
use Rattle.std.proofs.Common.{◌≡◌, ℕ, true, List, sym, ap, subst, ◌∙◌}
use Rattle.std.specs.List.{list_all}
use Rattle.std.specs.Prelude.{Some}
use Rattle.eevdf_ops.specs.{declared.deeds.Deed.Deed, Followed.FollowsPrograms, Histories.IsOneThread, Machine.start}
use Rattle.eevdf_ops.specs.{Outcome.Outcome, Outcome.machine_of, OwnRequests.TakesOwnRequests, Programs.deeds_of}
use Rattle.eevdf_ops.specs.Setup.{Setup, allows, homes_of}
use Rattle.eevdf_ops.specs.Whole.{lines_of, machine_after}
use Rattle.eevdf_steps.specs.{Commits.deeds_committed, Orders.IsWhole, Orders.counters_at_start, Plan.plan_of}
use Rattle.eevdf_bench.specs.declared.command.Kind.TheVariants.{Solo, Replay, Run}
use Rattle.eevdf_bench.proofs.{OwnDeeds.own_deeds, ReplayAnswers.is_played, SoloAnswers.done}
use Rattle.eevdf_workload.specs.Meaning.{Workload}
use Rattle.eevdf_timeline.specs.Histories.{IsOutcomeOf}

-- of the workload's setup, under whichever name
of_setup : (w : Workload) (s : Setup) (ds : List Deed) (o : Outcome) → s ≡ w.setup → IsOneThread (homes_of s) (start s) ds o → IsOneThread (homes_of w.setup) (start w.setup) (deeds_of o.lines) o
of_setup w s ds o same one = subst (λ (u : Setup). IsOneThread (homes_of u) (start u) (deeds_of o.lines) o) same (own_deeds (homes_of s) (start s) ds o one)

pub script_done : (w : Workload) (s : Setup) (ds : List Deed) (o : Outcome) → Some ds ≡ w.script → s ≡ w.setup → list_all (allows w.setup) ds ≡ true → o.lines ≡ lines_of (homes_of s) (start s) ds
    → machine_of o.queues ≡ machine_after (homes_of s) (start s) ds → IsOutcomeOf Solo w o
script_done w s ds o there same allowed lines machine =
    let one : IsOneThread (homes_of s) (start s) ds o = done (homes_of s) (start s) ds o lines machine in record {
      one_thread = of_setup w s ds o same one;
      allowed = subst (λ (es : List Deed). list_all (allows w.setup) es ≡ true) (sym one.deeds_are) allowed;
      does = sym there ∙ ap (λ (es : List Deed). Some es) (sym one.deeds_are);
    }

pub order_done : (w : Workload) (s : Setup) (order : List ℕ) (o : Outcome) → Some order ≡ w.order → s ≡ w.setup → IsWhole (plan_of s) (counters_at_start (plan_of s)) order
    → IsOneThread (homes_of s) (start s) (deeds_committed s order) o → list_all (allows s) (deeds_of o.lines) ≡ true → FollowsPrograms s o → IsOutcomeOf Replay w o
order_done w s order o there same whole one allowed follows = record {
  one_thread = of_setup w s (deeds_committed s order) o same one;
  allowed = subst (λ (u : Setup). list_all (allows u) (deeds_of o.lines) ≡ true) same allowed;
  does = is_played w s order o there same whole one.deeds_are follows;
}

pub run_done : (w : Workload) (s : Setup) (o : Outcome) → s ≡ w.setup → IsOneThread (homes_of s) (start s) (deeds_of o.lines) o → list_all (allows s) (deeds_of o.lines) ≡ true → FollowsPrograms s o → TakesOwnRequests s o → IsOutcomeOf Run w o
run_done w s o same one allowed follows own = record {
  one_thread = of_setup w s (deeds_of o.lines) o same one;
  allowed = subst (λ (u : Setup). list_all (allows u) (deeds_of o.lines) ≡ true) same allowed;
  does = record {
    programs = subst (λ (u : Setup). FollowsPrograms u o) same follows;
    own = subst (λ (u : Setup). TakesOwnRequests u o) same own;
  };
}
