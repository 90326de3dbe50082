use Rattle.std.proofs.Common.{◌≡◌, ◌<◌, ◌++◌, ℕ, List, ◌∷◌, length, set, sym, ap, subst, ◌∙◌, arith}
use Rattle.eevdf_ops.specs.{Setup.cpus_of}
use Rattle.eevdf_fleet.specs.{declared.board.claims.Claim.Claim, declared.board.claims.Claim.TheVariants.Queue}
use Rattle.eevdf_fleet.specs.{Board.Known, Board.claims_of, Claims.AllTell, Closings.AllPut, Closings.queue_count, Fleets.setup_of}
use Rattle.eevdf_fleet.proofs.Closings.{none-put, put-more}
use Rattle.eevdf_fleet.proofs.closing.close_locks.Goals as goal

pub loop-lock-init : goal.loop-lock-init
loop-lock-init g c = record {
  token = c.requires.token;
  tell = λ lines tell. tell;
  put = λ lines known. none-put (cpus_of (setup_of g.N.Names.kit)) c.args.queues.items (claims_of c.args.token) c.requires.none;
  count = omega (arith, c.requires.none, c.requires.locks);
  cpus = c.requires.queues;
}

pub loop-lock-preserved : goal.loop-lock-preserved
loop-lock-preserved g c =
    let t = g.N.Names.kit.terms in
    let cpus = cpus_of (setup_of g.N.Names.kit) in
    let n = c.number.inside.number in
    let q = c.number.inside.queue in
    let claims : claims_of c.join-token.result ≡ Queue n q.state ∷ claims_of c.loop-lock.token = c.join-token.ensures.claims ∙ ap (λ (l : List Claim). l ++ claims_of c.loop-lock.token) c.number.invariant.1 in
    let within : n < length c.loop-lock.queues.items = omega (arith, c.number.invariant.2, c.loop-lock.invariant.cpus, c.loop-lock.queues.ok.0) in
    record {
      token = c.join-token.ensures.token;
      tell = λ lines tell. c.loop-lock.invariant.tell lines (subst (λ (cs : List Claim). AllTell t lines cs) claims tell).1;
      put = λ lines known.
          subst (λ (k : ℕ). AllPut cpus (set c.loop-lock.queues.items k q) (claims_of c.join-token.result)) (sym c.index.ensures.number)
          (subst (λ (cs : List Claim). AllPut cpus (set c.loop-lock.queues.items n q) cs) (sym claims)
          (put-more t lines cpus c.loop-lock.queues.items n q (claims_of c.loop-lock.token) (subst (λ (cs : List Claim). Known t lines cs) claims known) c.number.invariant.2 within (c.loop-lock.invariant.put lines)));
      count = omega (arith, ap queue_count claims, c.in-Some.ensures.cases, c.loop-lock.invariant.count);
      cpus = c.loop-lock.invariant.cpus;
    }

pub returns-clause-all : goal.returns-clause-all
returns-clause-all g c = omega (arith, c.loop-lock.invariant.count, c.in_default.ensures.cases)
