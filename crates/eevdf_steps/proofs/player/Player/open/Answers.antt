use Rattle.std.proofs.Common.{replicate, ap, subst, ◌∙◌}
use Rattle.std.specs.Prelude.{None}
use Rattle.eevdf_ops.specs.Machine.{start}
use Rattle.eevdf_steps.specs.{Openings.AreEmpty, Openings.most_lines, Plan.Plan, Plan.callers, Plan.plan_of}
use Rattle.eevdf_steps.specs.Recorded.{done_at_start, recorded}
use Rattle.eevdf_steps.proofs.Beginning.{Opened, playing_open, player_open}
use Rattle.eevdf_steps.proofs.player.Player.open.Goals as goal
use Rattle.eevdf_steps.proofs.player.Player.open.Goals.{In_ok-work}

opened : (c : In_ok-work) → Opened c.args.setup.now c.in_ok-callers.callers c.in_ok-posts.posts c.in_ok-posts.found.items (recorded c.in_ok-work.work c.in_ok-work.journal)
opened c = record {
  sound = c.keeps.ensures.sound;
  plan = c.in_ok-callers.ensures.plan;
  counters = c.in_ok-callers.ensures.counters;
  empty = subst (λ (p : Plan). AreEmpty p c.in_ok-posts.posts) c.plan-plan.ensures c.in_ok-posts.ensures.posts;
  nothing = c.in_ok-posts.ensures.found ∙ ap (λ (p : Plan). replicate (callers p) None) c.plan-plan.ensures;
  placed = c.start_is_placed.ensures.placed;
  is_done = c.in_ok-work.ensures
      ∙ ap (done_at_start (start c.args.setup.now) (callers (plan_of c.args.setup.now))) (c.lines.ensures ∙ ap most_lines c.plan-plan.ensures);
}

pub invariant_of-result : goal.invariant_of-result
invariant_of-result c = playing_open (opened c)

pub returns : goal.returns
returns c = player_open (opened c)
