use Rattle.std.proofs.Common.{◌≡◌, ℕ, List, [], ◌∷◌, ◌++◌, ap, refl, sym, subst, ◌∙◌}
use Rattle.eevdf_ops.specs.declared.{acts.LocalAct.TheVariants.Wake, deeds.Deed.Deed}
use Rattle.eevdf_ops.specs.declared.deeds.Deed.TheVariants as deed
use Rattle.eevdf_fleet.specs.{declared.board.claims.Claim.Claim, declared.board.claims.Claim.TheVariants.Queue, declared.board.claims.PostClaim.PostClaim, Board.claims_of, Board.posts_of, Fleets.Slot}
use Rattle.eevdf_fleet.specs.PostClaims.{IsAsked}
use Rattle.eevdf_fleet.proofs.SentTokens.{asked-left}
use Rattle.eevdf_fleet.proofs.run_queues.RunQueues.wake_on_one.Goals as goal

pub commit_one-kept-requires-clause-done : goal.commit_one-kept-requires-clause-done
commit_one-kept-requires-clause-done g c =
    let number : c.slot.inside.number ≡ c.args.log.now.cpu = ap (λ (s : Slot). s.number) c.slot.view_is ∙ c.requires.number in
    record {
      by = Wake c.args.task c.args.sender;
      local = refl;
      before = c.slot.inside.queue.state;
      claimed = c.join-token.ensures.claims ∙ ap (λ (cs : List Claim). cs ++ claims_of c.replace-own.result) c.requires.alone
          ∙ ap claims_of c.replace-own.ensures.value ∙ c.slot.invariant.1 ∙ ap (λ (n : ℕ). Queue n c.slot.inside.queue.state ∷ []) number;
      answers = c.apply-answer.ensures.answer;
      leaves = c.apply-answer.ensures.after;
    }

pub commit_one-kept-requires-clause-asked : goal.commit_one-kept-requires-clause-asked
commit_one-kept-requires-clause-asked g c =
    let deed : ℕ → Deed = λ cpu. deed.Wake cpu c.args.task c.args.sender in
    subst (λ (ps : List PostClaim). IsAsked c.args.log.now.lines ps (deed c.cpu-cpu.result)) (sym c.join-token.ensures.posts)
    (asked-left c.args.log.now.lines (posts_of c.args.request) (posts_of c.replace-own.result) (deed c.cpu-cpu.result)
    (subst (λ (cpu : ℕ). IsAsked c.args.log.now.lines (posts_of c.args.request) (deed cpu)) (sym c.cpu-cpu.ensures.cpu) c.requires.asked))
