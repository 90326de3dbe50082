use Rattle.std.proofs.Common.{◌≡◌, ◌<◌, ◌++◌, ℕ, List, [], ◌∷◌, drop, sym, ap, subst, ◌∙◌}
use Rattle.eevdf_queue.specs.State.{View}
use Rattle.eevdf_ops.specs.{Acts.act_of, Setup.cpus_of, Setup.homes_of}
use Rattle.eevdf_ops.specs.declared.acts.Act.TheVariants as act
use Rattle.eevdf_fleet.specs.{declared.board.claims.Claim.Claim, declared.board.claims.Said.Said, declared.board.claims.Claim.TheVariants.Queue, Board.Known, Board.held}
use Rattle.eevdf_ops.specs.declared.deeds.Line.{Line}
use Rattle.eevdf_fleet.specs.{Board.claims_of, Fleets.Slot, Fleets.setup_of}
use Rattle.eevdf_fleet.proofs.Placed.{none-twice}
use Rattle.eevdf_fleet.proofs.run_queues.RunQueues.done_on_two.Goals as goal
use Rattle.eevdf_fleet.proofs.run_queues.RunQueues.done_on_two.Goals.{After-split-past}

own_number : (g : _) (c : After-split-past g) → c.slot.inside.number ≡ c.args.log.now.cpu
own_number g c = ap (λ (s : Slot). s.number) c.slot.view_is ∙ c.requires.number

other_number : (g : _) (c : After-split-past g) → c.away.inside.number ≡ c.args.away.now.number
other_number g c = ap (λ (s : Slot). s.number) c.away.view_is

-- the claims of the joined token
joined : (g : _) (c : After-split-past g) → claims_of c.join.result ≡ Queue c.args.log.now.cpu c.slot.inside.queue.state ∷ Queue c.args.away.now.number c.away.inside.queue.state ∷ []
joined g c =
    c.join.ensures.claims
    ∙ ap (λ (l : List Claim). l ++ claims_of c.replace-others.result) (ap claims_of c.replace-own.ensures.value ∙ c.slot.invariant.1)
    ∙ ap (λ (l : List Claim). Queue c.slot.inside.number c.slot.inside.queue.state ∷ l) (ap claims_of c.replace-others.ensures.value ∙ c.away.invariant.1)
    ∙ ap (λ (n : ℕ). Queue n c.slot.inside.queue.state ∷ Queue c.away.inside.number c.away.inside.queue.state ∷ []) (own_number g c)
    ∙ ap (λ (n : ℕ). Queue c.args.log.now.cpu c.slot.inside.queue.state ∷ Queue n c.away.inside.queue.state ∷ []) (other_number g c)

pub apply-answer-requires : goal.apply-answer-requires
apply-answer-requires g c =
    let at : After-split-past g = (goal.at.apply-answer-requires g c).After-split-past in
    let lines : List Line = c.look-token.ensures.looked.lines in
    let known : Known g.N.Names.kit.terms lines (Queue c.args.log.now.cpu c.slot.inside.queue.state ∷ Queue c.args.away.now.number c.away.inside.queue.state ∷ []) =
    subst (λ (cs : List Claim). Known g.N.Names.kit.terms lines cs) (joined g at) c.look-token.ensures.looked.known in
    none-twice g.N.Names.kit.terms lines c.args.log.now.cpu c.args.away.now.number c.slot.inside.queue.state c.away.inside.queue.state known (λ e. c.requires.apart (sym e))
    (subst (λ (n : ℕ). n < cpus_of (setup_of g.N.Names.kit)) (own_number g at) c.slot.invariant.2)
    (subst (λ (n : ℕ). n < cpus_of (setup_of g.N.Names.kit)) (other_number g at) c.away.invariant.2)

pub commit_two-own-requires-clause-done : goal.commit_two-own-requires-clause-done
commit_two-own-requires-clause-done g c =
    let at : After-split-past g = (goal.at.commit_two-own-requires-clause-done g c).After-split-past in
    let hs : List ℕ = homes_of (setup_of g.N.Names.kit) in
    let said = c.said_both-said.ensures in
    let first : c.said_both-said.result.first.cpu ≡ c.args.log.now.cpu = ap (λ (s : Said). s.first.cpu) said ∙ c.change-own_change.ensures.cpu ∙ c.cpu-2.ensures.cpu in
    let second : c.said_both-said.result.second.cpu ≡ c.args.away.now.number = ap (λ (s : Said). s.second.cpu) said ∙ c.change.ensures.cpu ∙ other_number g at in
    record {
      by = c.args.transfer;
      across = ap (λ (s : Said). act_of hs s.line.deed) said ∙ c.requires.across ∙ ap (λ (n : ℕ). act.Transfer n c.args.transfer) (sym second);
      before = c.slot.inside.queue.state;
      other_before = c.away.inside.queue.state;
      claimed = c.split-past.ensures.other_claims ∙ ap (λ (cs : List Claim). drop 1 cs) c.look-token.ensures.looked.claims ∙ ap held (joined g at)
          ∙ ap (λ (n : ℕ). Queue n c.slot.inside.queue.state ∷ Queue c.args.away.now.number c.away.inside.queue.state ∷ []) (sym first)
          ∙ ap (λ (n : ℕ). Queue c.said_both-said.result.first.cpu c.slot.inside.queue.state ∷ Queue n c.away.inside.queue.state ∷ []) (sym second);
      answers = ap (λ (s : Said). s.line.answer) said ∙ c.apply-answer.ensures.answer;
      leaves = ap (λ (s : Said). s.first.queue.value.state) said ∙ ap (λ (q : View). q.state) c.change-own_change.ensures.queue ∙ c.apply-answer.ensures.queue;
      other_leaves = ap (λ (s : Said). s.second.queue.value.state) said ∙ ap (λ (q : View). q.state) c.change.ensures.queue ∙ c.apply-answer.ensures.other;
    }
