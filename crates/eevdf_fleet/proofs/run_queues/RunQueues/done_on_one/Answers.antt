use Rattle.std.proofs.Common.{◌≡◌, ℕ, [], ◌∷◌, ap, ◌∙◌}
use Rattle.eevdf_fleet.specs.{declared.board.claims.Claim.TheVariants.Queue, Board.claims_of, Board.posts_of, Fleets.Slot}
use Rattle.eevdf_fleet.proofs.SentTokens.{no-wake-asked}
use Rattle.eevdf_fleet.proofs.run_queues.RunQueues.done_on_one.Goals as goal

pub commit_one-requires-clause-done : goal.commit_one-requires-clause-done
commit_one-requires-clause-done g c =
    let number : c.slot.inside.number ≡ c.args.log.now.cpu = ap (λ (s : Slot). s.number) c.slot.view_is ∙ c.requires.number in
    record {
      by = c.args.act;
      local = c.requires.local;
      before = c.slot.inside.queue.state;
      claimed = ap claims_of c.replace-token.ensures.value ∙ c.slot.invariant.1 ∙ ap (λ (n : ℕ). Queue n c.slot.inside.queue.state ∷ []) number;
      answers = c.apply-answer.ensures.answer;
      leaves = c.apply-answer.ensures.after;
    }

pub commit_one-requires-clause-asked : goal.commit_one-requires-clause-asked
commit_one-requires-clause-asked g c = no-wake-asked c.args.log.now.lines (posts_of c.replace-token.result) c.args.deed.now c.requires.no_wake
