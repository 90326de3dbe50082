use Rattle.std.proofs.Common.{◌≡◌, ℕ, ◌+◌, ◌<◌, List, ◌++◌, length, drop, take, get_or, sym, ap, subst, ◌∙◌, arith}
use Rattle.std.proofs.Math.Seq.{take-append_seam}
use Rattle.eevdf_ops.specs.declared.deeds.Op.{Op}
use Rattle.eevdf_steps.specs.{Plan.program, Openings.CountPosts, Openings.post_counted}
use Rattle.eevdf_steps.proofs.Reserving.{counted_next, counts_below}
use Rattle.eevdf_steps.proofs.openings.post_counts.Goals as goal

pub count_post-requires-clause-few : goal.count_post-requires-clause-few
count_post-requires-clause-few c =
    let plan = c.args.plan.now in
    let within : c.loop-op.op-index < length (program plan c.args.caller) = subst (λ (ops : List Op). c.loop-op.op-index < length ops) c.program-op-items.ensures.program c.loop-op-test.true in
    λ k below. counts_below plan c.args.caller c.loop-op.op-index k c.deref_mut.result.now c.keeps.ensures within
    (subst (λ (counts : List ℕ). CountPosts plan (take c.loop-op.op-index (program plan c.args.caller)) counts) (sym c.deref_mut.ensures.value) c.loop-op.invariant) below

pub loop-op-preserved : goal.loop-op-preserved
loop-op-preserved c =
    let plan = c.args.plan.now in
    let within : c.loop-op.op-index < length (program plan c.args.caller) = subst (λ (ops : List Op). c.loop-op.op-index < length ops) c.program-op-items.ensures.program c.loop-op-test.true in
    let long : c.loop-op.counts.len ≡ length c.count_post.new.counts
    = omega (arith, c.loop-op.counts.ok.0, c.count_post.auto.counts, ap (λ (l : List ℕ). length l) c.deref_mut.ensures.value) in
    let counted : post_counted plan c.op-item.result c.loop-op.counts.items
    ≡ take c.loop-op.counts.len (c.count_post.new.counts ++ drop (length c.count_post.new.counts) c.loop-op.counts.items)
    = sym (ap (λ (n : ℕ). take n (c.count_post.new.counts ++ drop (length c.count_post.new.counts) c.loop-op.counts.items)) long
    ∙ take-append_seam c.count_post.new.counts (drop (length c.count_post.new.counts) c.loop-op.counts.items)
    ∙ c.count_post.ensures ∙ ap (λ (counts : List ℕ). post_counted plan c.op-item.result counts) c.deref_mut.ensures.value) in
    subst (λ (counts : List ℕ). CountPosts plan (take (c.loop-op.op-index + 1) (program plan c.args.caller)) counts) counted
    (counted_next plan c.args.caller c.loop-op.op-index c.op-item.result c.loop-op.counts.items c.keeps.ensures within
    (c.op-item.is ∙ ap (λ (ops : List Op). get_or ops c.loop-op.op-index c.op-item.result) c.program-op-items.ensures.program) c.loop-op.invariant)
