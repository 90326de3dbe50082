use Rattle.std.proofs.Common.{ℕ, ◌<◌, ◌≤◌, arith}
use Rattle.std.specs.Prelude.{IsTrue, nat_lt}
use Rattle.std.proofs.lemmas.Bool.Decides.{nat_tests}
use Rattle.eevdf_ops.proofs.SurelyBalanced.{surely_balanced}
use Rattle.eevdf_ops.proofs.pull.is_surely_balanced.Goals as goal

no-more : (a b : ℕ) → IsTrue (lib.Dec.leb a b) → a ≤ b
no-more a b h = grind (arith, nat_tests)

more : (a b : ℕ) → IsTrue (nat_lt a b) → a < b
more a b h = grind (arith, nat_tests)

pub returns-then-len-gt1 : goal.returns-then-len-gt1
returns-then-len-gt1 c = λ h.
    surely_balanced c.args.puller.now.state c.args.source.now.state (omega (arith, c.if-len-gt1.true, c.len.ensures))
    (omega (arith, no-more c.load.result c.load-then-len-gt1.result h, c.load.ensures, c.load-then-len-gt1.ensures))

pub returns-else-len-gt1 : goal.returns-else-len-gt1
returns-else-len-gt1 c = λ h. absurd (omega (arith, c.if-len-gt1.false, more 1 c.len.result h))
