use Rattle.std.proofs.Common.{refl, sym, ap, ◌∙◌, arith}
use Rattle.std.proofs.lemmas.Bool.{and_from, lt-ltb}
use Rattle.eevdf_ops.specs.Setup.{cpus_of, is_at_home}
use Rattle.eevdf_fleet.specs.{Rings.Takes, Fleets.Parts, Fleets.setup_of}
use Rattle.eevdf_fleet.proofs.SeatParts.{if_none, own-oldest, parts-of, parts-taken, parts-untaken, parts-width, seat-looked, seat-taken}
use Rattle.eevdf_fleet.proofs.SentTokens.{asked-next, sent-alone, sent-token}
use Rattle.eevdf_fleet.proofs.run_queues.RunQueues.drain_one.Goals as goal

pub take-requires-clause-sender : goal.take-requires-clause-sender
take-requires-clause-sender g c = omega (arith, parts-width _ _ _ _ c.seat.invariant.0, c.index.ensures.number, c.requires.sender)

-- a seat from which nothing was taken is as it was
pub invariant_of-seat : goal.invariant_of-seat
invariant_of-seat g c =
    parts-of g.N.Names.kit _ _ _ _ _ _ _
    (parts-untaken _ _ _ _ _ _ _ c.take.ensures.producers c.in_err-request.ensures.none c.seat.invariant.0)
    c.seat.invariant

pub returns-in_err-request-clause-none : goal.returns-in_err-request-clause-none
returns-in_err-request-clause-none g c = if_none c.from_residual.result (seat-looked _ _ _ _ _ c.take.ensures.producers c.seat.view_is)

-- the task that was asked for has its home here
pub wake_on_one-answer-requires-clause-allowed : goal.wake_on_one-answer-requires-clause-allowed
wake_on_one-answer-requires-clause-allowed g c =
    let cpus = cpus_of (setup_of g.N.Names.kit) in
    and_from _ _ (lt-ltb c.seat.inside.log.cpu cpus c.seat.invariant.0.within)
    (and_from _ _ (lt-ltb c.args.sender cpus c.requires.sender)
    (ap (λ hs. is_at_home hs c.in_ok-request.request.task c.seat.inside.log.cpu) (sym c.seat.invariant.3)
    ∙ ap (λ n. is_at_home g.N.Names.kit.rings.homes c.in_ok-request.request.task n) (ap (λ (t : Takes). t.home) (sym c.seat.invariant.0.takes))
    ∙ c.in_ok-request.ensures.follows.at_home))

pub returns-in_err-request-clause-none_own : goal.returns-in_err-request-clause-none_own
returns-in_err-request-clause-none_own g c =
    if_none c.from_residual.result (own-oldest _ _ _ _ _ _ c.index.result c.args.sender c.seat.invariant.0 (ap (λ (p : Parts). p.seat) c.seat.view_is) c.index.ensures.number c.in_err-request.ensures.own)

pub invariant_of-seat-2 : goal.invariant_of-seat-2
invariant_of-seat-2 g c =
    parts-of g.N.Names.kit _ _ _ _ _ _ _
    (parts-taken _ _ _ _ _ _ _ _ _ _ _ _ _ c.seat.invariant.0 c.index.ensures.number c.requires.sender c.take.ensures.producers c.in_ok-request.ensures.some c.wake_on_one-answer.ensures.log)
    c.seat.invariant

pub returns-clause-some : goal.returns-clause-some
returns-clause-some g c =
    seat-taken _ _ _ _ _ _ _ _ _ c.wake_on_one-answer.ensures.log c.take.ensures.producers c.seat.view_is (ap (λ (p : Parts). p.seat.cpu) c.seat.view_is) refl
    (own-oldest _ _ _ _ _ _ c.index.result c.args.sender c.seat.invariant.0 (ap (λ (p : Parts). p.seat) c.seat.view_is) c.index.ensures.number c.in_ok-request.ensures.own)

-- its token claims that it was posted
pub wake_on_one-answer-requires-clause-request : goal.wake_on_one-answer-requires-clause-request
wake_on_one-answer-requires-clause-request g c = sent-token _ _ _ _ c.in_ok-request.ensures.follows.sent g.N.Names.kit.board g.N.Names.kit.terms c.seat.invariant.4 c.seat.invariant.5

pub wake_on_one-answer-requires-clause-alone : goal.wake_on_one-answer-requires-clause-alone
wake_on_one-answer-requires-clause-alone g c = sent-alone _ _ _ _ c.in_ok-request.ensures.follows.sent

pub wake_on_one-answer-requires-clause-asked : goal.wake_on_one-answer-requires-clause-asked
wake_on_one-answer-requires-clause-asked g c =
    asked-next _ _ _ _ g.N.Names.kit.rings c.index.result c.args.sender c.seat.inside.log.cpu c.in_ok-request.request c.seat.invariant.0 c.index.ensures.number c.requires.sender
    refl c.in_ok-request.ensures.follows
