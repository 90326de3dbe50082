use Rattle.std.proofs.Common.{ℕ, ◌≡◌, sym, subst, arith}
use Rattle.std.specs.Prelude.{Result}
use Rattle.eevdf_ops.specs.{declared.deeds.Answer.Answer, declared.halves.Taking.TheVariants.Pull, Halves.CanTake, Machine.queue_at}
use Rattle.eevdf_ops.specs.WholePull.{pull_decision, task_of}
use Rattle.eevdf_ops.proofs.Pulling.{decided}
use Rattle.eevdf_steps.proofs.work.Work.detach.Goals as goal

pub take_out-requires-in-Pull-clause-taking : goal.take_out-requires-in-Pull-clause-taking
take_out-requires-in-Pull-clause-taking c =
    let own = queue_at c.args.self.now.machine c.args.cpu in
    let source = queue_at c.args.self.now.machine c.in-Pull.source in
    let is : c.decide-decided.result ≡ task_of (pull_decision c.args.self.now.machine c.args.cpu c.in-Pull.source) = grind arith in
    subst (λ (r : Result ℕ Answer). CanTake (Pull r) source) (sym is) (decided own source).waits
