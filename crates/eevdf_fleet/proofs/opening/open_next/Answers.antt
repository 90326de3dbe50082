use Rattle.std.proofs.Common.{◌≡◌, ◌<◌, ◌+◌, ℕ, List, [], ◌∷◌, ◌++◌, length, take, drop, set, get_or, sym, ap, subst, ◌∙◌, arith}
use Rattle.eevdf_queue.specs.State.{View}
use Rattle.eevdf_ops.specs.{Outcome.machine_of}
use Rattle.eevdf_ops.specs.declared.deeds.Line.{Line}
use Rattle.eevdf_fleet.specs.{declared.board.claims.Claim.Claim, declared.board.claims.Claim.TheVariants.Seat, declared.board.claims.Claim.TheVariants.Past}
use Rattle.eevdf_fleet.specs.{Board.claims_of, Claims.claims_from, Fleets.SeatLog, Fleets.quota_of}
use Rattle.eevdf_fleet.specs.SeatLogs.{IsRecord, own_in}
use Rattle.eevdf_fleet.proofs.Openings.{first-claims, first-record, fresh-log-of, knows-first, next-claims, other-claims}
use Rattle.eevdf_fleet.proofs.opening.open_next.Goals as goal
use Rattle.eevdf_fleet.proofs.opening.open_next.Goals.{After-replace-queue}

within : (g : _) (c : After-replace-queue g) → c.args.cpu < length c.args.opened.now.queues.items
within g c = omega (arith, c.requires.queue, c.args.opened.now.queues.ok.0)

taken : (g : _) (c : After-replace-queue g) → c.replace-queue.result ≡ get_or c.args.opened.now.queues.items c.args.cpu c.replace-queue.result
taken g c =
    c.replace-queue.ensures.value ∙ c.index_mut.ensures.value ∙ ap (λ (v : View). get_or c.args.opened.now.queues.items c.index.result v) (sym c.replace-queue.ensures.value)
    ∙ ap (λ (n : ℕ). get_or c.args.opened.now.queues.items n c.replace-queue.result) c.index.ensures.number

-- the claims of the CPU's own token
own : (g : _) (c : After-replace-queue g) → claims_of c.split_two-own.result.0 ≡ Past [] ∷ Seat c.args.cpu [] ∷ []
own g c =
    c.split_two-own.ensures.first_claims ∙ ap (λ (l : List Claim). take 2 l) (ap claims_of c.replace-token.ensures.value)
    ∙ first-claims c.args.opened.now.queues.items c.args.cpu (claims_of c.args.opened.now.token) (within g c) c.requires.claims

pub invariant_of-log : goal.invariant_of-log
invariant_of-log g c =
    let claims : claims_of c.split_two-own.result.0 ≡ Past [] ∷ Seat c.args.cpu [] ∷ [] =
    c.split_two-own.ensures.first_claims ∙ ap (λ (l : List Claim). take 2 l) (ap claims_of c.replace-token.ensures.value)
    ∙ first-claims c.args.opened.now.queues.items c.args.cpu (claims_of c.args.opened.now.token) (omega (arith, c.requires.queue, c.args.opened.now.queues.ok.0)) c.requires.claims in (
      c.split_two-own.ensures.first,
      knows-first g.N.Names.kit.terms c.args.cpu (claims_of c.split_two-own.result.0) c.requires.begun claims,
      subst (λ (ls : List Line). IsRecord g.N.Names.kit.terms.quota ls c.in_ok-lines.lines c.args.room) (sym (ap own_in claims))
          (first-record g.N.Names.kit.terms.quota c.in_ok-lines.lines c.args.room c.in_ok-lines.ensures.items c.requires.room c.in_ok-lines.ensures.capacity),
      c.requires.cpu,
    )

pub invariant_of-slot : goal.invariant_of-slot
invariant_of-slot g c =
    let at : After-replace-queue g = (goal.at.invariant_of-slot g c).After-replace-queue in (
      c.split-kept.ensures.first,
      c.split-kept.ensures.first_claim ∙ ap (λ (l : List Claim). take 1 l) c.split_two-own.ensures.other_claims
          ∙ ap (λ (l : List Claim). take 1 (drop 2 l)) (ap claims_of c.replace-token.ensures.value
          ∙ next-claims c.args.opened.now.queues.items c.args.cpu c.replace-queue.result (claims_of c.args.opened.now.token) (within g at) (taken g at) c.requires.claims),
      c.requires.cpu,
    )

pub returns-clause-log : goal.returns-clause-log
returns-clause-log g c =
    let at : After-replace-queue g = (goal.at.returns-clause-log g c).After-replace-queue in
    c.in_ok-push.ensures.items ∙ ap (λ (l : SeatLog). c.args.opened.now.logs.items ++ l ∷ [])
    (fresh-log-of (quota_of g.N.Names.kit) c.args.cpu c.args.room (claims_of c.split_two-own.result.0) (own g at) c.requires.room)

pub returns-clause-claims : goal.returns-clause-claims
returns-clause-claims g c =
    let at : After-replace-queue g = (goal.at.returns-clause-claims g c).After-replace-queue in
    other-claims c.args.opened.now.queues.items c.args.cpu c.replace-queue.result c.replace-queue.new.dest (claims_of c.args.opened.now.token) (claims_of c.split-kept.result.1)
    (within g at) (taken g at) c.requires.claims
    (c.split-kept.ensures.other_claims ∙ ap (λ (l : List Claim). drop 1 l) c.split_two-own.ensures.other_claims ∙ ap (λ (l : List Claim). drop 1 (drop 2 l)) (ap claims_of c.replace-token.ensures.value))
    ∙ ap (λ (n : ℕ). claims_from (c.args.cpu + 1) (drop (c.args.cpu + 1) (machine_of (set c.args.opened.now.queues.items n c.replace-queue.new.dest)))) (sym c.index.ensures.number)
