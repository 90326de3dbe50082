use Rattle.std.proofs.Common.{ℕ, ap, subst, sym, ◌∙◌}
use Rattle.std.specs.Prelude.{Option, Result}
use Rattle.eevdf_queue.specs.State.{Contents}
use Rattle.eevdf_ops.specs.{declared.deeds.Answer.Answer, declared.halves.Taking.TheVariants.Pull}
use Rattle.eevdf_ops.specs.{Halves.CanTake, Halves.answer_of_taking, Halves.taken_out, Parts.after_joining}
use Rattle.eevdf_ops.proofs.Pulling.{decided}
use Rattle.eevdf_ops.proofs.transfers.pull.Goals as goal

pub moved-requires-clause-taking : goal.moved-requires-clause-taking
moved-requires-clause-taking c =
    subst (λ (r : Result ℕ Answer). CanTake (Pull r) c.args.source.now.state) (sym c.decide.ensures) (decided c.args.queue.now.state c.args.source.now.state).waits

pub returns-clause-answer : goal.returns-clause-answer
returns-clause-answer c =
    c.moved.ensures.answer
    ∙ ap (λ (r : Result ℕ Answer). answer_of_taking (Pull r) (taken_out (Pull r) c.args.source.now.state)) c.decide.ensures
    ∙ (decided c.args.queue.now.state c.args.source.now.state).answer _

pub returns-clause-queue : goal.returns-clause-queue
returns-clause-queue c =
    c.moved.ensures.taker
    ∙ ap (λ (r : Result ℕ Answer). after_joining (taken_out (Pull r) c.args.source.now.state) c.args.queue.now.state) c.decide.ensures
    ∙ ap (λ (o : Option Contents). after_joining o c.args.queue.now.state) (decided c.args.queue.now.state c.args.source.now.state).parcel
