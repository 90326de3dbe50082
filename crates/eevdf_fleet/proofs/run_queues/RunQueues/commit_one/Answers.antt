use Rattle.std.proofs.Common.{ap, map, sym, subst, ◌∙◌}
use Rattle.eevdf_ops.specs.declared.deeds.Line.{Line}
use Rattle.eevdf_queue.specs.declared.queue.Queue.{Queue}
use Rattle.eevdf_fleet.specs.{Board.claims_of, Board.held, Claims.advanced, Fleets.HasWritten}
use Rattle.eevdf_fleet.proofs.{Advances.one-advanced, OwedQueues.one-owes}
use Rattle.eevdf_fleet.specs.{Board.posts_of, PostClaims.IsAsked}
use Rattle.eevdf_fleet.proofs.run_queues.RunQueues.commit_one.Goals as goal

pub returns-clause-claims : goal.returns-clause-claims
returns-clause-claims g c =
    c.commit_line.ensures.claims ∙ ap (λ l. held (map (advanced c.said-said.result) l)) c.requires.done.claimed
    ∙ ap held (one-advanced c.said-said.result c.args.log.now.cpu c.requires.done.before c.args.queue.now.state (c.said-said.ensures.cpu ∙ c.cpu.ensures.cpu)
    (ap (λ (q : Queue). q.state) c.said-said.ensures.queue))

pub commit_line-requires-clause-owed : goal.commit_line-requires-clause-owed
commit_line-requires-clause-owed g c =
    one-owes g.N.Names.kit.terms c.args.log.now.cpu (claims_of c.args.token) c.args.queue.now.state c.args.line.now c.said-said.result c.requires.own c.requires.allowed c.requires.done
    c.said-said.ensures.line (c.said-said.ensures.cpu ∙ c.cpu.ensures.cpu) (ap (λ (q : Queue). q.state) c.said-said.ensures.queue)

pub returns-clause-log : goal.returns-clause-log
returns-clause-log g c = subst (λ (l : Line). HasWritten c.args.log.now c.commit_line.new.log l) c.said-said.ensures.line c.commit_line.ensures.log

pub commit_line-requires-clause-asked : goal.commit_line-requires-clause-asked
commit_line-requires-clause-asked g c = subst (λ (l : Line). IsAsked c.args.log.now.lines (posts_of c.args.token) l.deed) (sym c.said-said.ensures.line) c.requires.asked
