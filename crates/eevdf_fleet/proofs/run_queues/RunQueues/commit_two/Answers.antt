use Rattle.std.proofs.Common.{◌≡◌, List, [], ◌∷◌, map, take, drop, refl, ap, ◌∙◌}
use Rattle.eevdf_fleet.specs.declared.board.claims.{Claim.Claim, Said.Said}
use Rattle.eevdf_fleet.specs.declared.board.claims.Claim.TheVariants as claim
use Rattle.eevdf_fleet.specs.{Board.claims_of, Board.held, Board.posts_of, Claims.advanced}
use Rattle.eevdf_fleet.proofs.{Advances.two-advanced, OwedQueues.two-owes, SentTokens.no-wake-asked}
use Rattle.eevdf_fleet.proofs.run_queues.RunQueues.commit_two.Goals as goal
use Rattle.eevdf_fleet.proofs.run_queues.RunQueues.commit_two.Goals.{After-split}

-- what the committed token claims
claimed : (g : _) (c : After-split g) → claims_of c.commit_line-token.result
    ≡ claim.Queue c.args.said.first.cpu c.args.said.first.queue.value.state ∷ claim.Queue c.args.said.second.cpu c.args.said.second.queue.value.state ∷ []
claimed g c =
    let said : Said = c.args.said in
    c.commit_line-token.ensures.claims ∙ ap (λ l. held (map (advanced said) l)) c.requires.done.claimed
    ∙ ap held (two-advanced said said.first.cpu said.second.cpu c.requires.done.before c.requires.done.other_before said.first.queue.value.state said.second.queue.value.state
    (λ e. c.requires.apart (e ∙ c.requires.own_queue)) refl refl refl refl)

pub returns-clause-first_claim : goal.returns-clause-first_claim
returns-clause-first_claim g c = c.split.ensures.first_claim ∙ ap (λ (cs : List Claim). take 1 cs) (claimed g (goal.at.returns-clause-first_claim g c).After-split)

pub returns-clause-second_claim : goal.returns-clause-second_claim
returns-clause-second_claim g c = c.split.ensures.other_claims ∙ ap (λ (cs : List Claim). drop 1 cs) (claimed g (goal.at.returns-clause-second_claim g c).After-split)

pub commit_line-token-requires-clause-owed : goal.commit_line-token-requires-clause-owed
commit_line-token-requires-clause-owed g c =
    two-owes g.N.Names.kit.terms c.args.log.now.cpu (claims_of c.args.token) c.args.said c.requires.own c.requires.own_queue c.requires.apart c.requires.allowed c.requires.done

pub commit_line-token-requires-clause-asked : goal.commit_line-token-requires-clause-asked
commit_line-token-requires-clause-asked g c = no-wake-asked c.args.log.now.lines (posts_of c.args.token) c.args.said.line.deed c.requires.no_wake
