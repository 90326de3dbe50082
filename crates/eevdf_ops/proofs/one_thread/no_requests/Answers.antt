use Rattle.std.proofs.Common.{◌≡◌, ℕ, [], replicate, ap, ◌∙◌, arith}
use Rattle.eevdf_ops.proofs.GrownLists.{alike_more, length_alike}
use Rattle.eevdf_ops.proofs.one_thread.no_requests.Goals as goal
use Rattle.eevdf_ops.proofs.one_thread.no_requests.Goals.{After-loop-pair}

pub loop-pair-preserved : goal.loop-pair-preserved
loop-pair-preserved c =
    alike_more (λ p. p.items) c.loop-pair.left.items c.push.new.self.items c.new.result c.loop-pair._pair []
    c.in_ok-push.ensures.items c.new.ensures.items c.loop-pair.invariant

all : (c : After-loop-pair) → c.loop-pair._pair ≡ c.args.pairs
all c = omega (arith, c.loop-pair.auto._pair-end, c.loop-pair-test.false)

pub returns-clause-empty : goal.returns-clause-empty
returns-clause-empty c = c.loop-pair.invariant ∙ ap (λ (n : ℕ). replicate n []) (all c)

pub returns-clause-len : goal.returns-clause-len
returns-clause-len c =
    c.loop-pair.left.ok.0 ∙ length_alike (λ p. p.items) c.loop-pair.left.items c.loop-pair._pair [] c.loop-pair.invariant ∙ all c
