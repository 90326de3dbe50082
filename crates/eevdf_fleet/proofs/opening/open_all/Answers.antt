use Rattle.std.proofs.Common.{◌≡◌, ◌≤◌, ◌+◌, ℕ, length, drop, sym, ap, ◌∙◌, arith}
use Rattle.eevdf_ops.specs.{Outcome.machine_of, Setup.cpus_of}
use Rattle.eevdf_fleet.specs.{Board.claims_of, Claims.claims_from, Fleets.fresh_log, Fleets.fresh_logs, Fleets.quota_of, Fleets.setup_of}
use Rattle.eevdf_fleet.proofs.Openings.{last-claims, fresh-more}
use Rattle.eevdf_fleet.proofs.opening.open_all.Goals as goal

pub open_next-requires-clause-token : goal.open_next-requires-clause-token
open_next-requires-clause-token g c = c.loop-number.invariant.0

pub open_next-requires-clause-claims : goal.open_next-requires-clause-claims
open_next-requires-clause-claims g c =
    c.loop-number.invariant.1 ∙ ap (λ (n : ℕ). claims_from n (drop n (machine_of c.loop-number.opened.queues.items))) (sym c.numbered.ensures)

pub open_next-requires-clause-queue : goal.open_next-requires-clause-queue
open_next-requires-clause-queue g c = omega (arith, c.numbered.ensures, c.loop-number-test.true, c.loop-number.invariant.4, c.loop-number.invariant.5)

pub open_next-requires-clause-cpu : goal.open_next-requires-clause-cpu
open_next-requires-clause-cpu g c = omega (arith, c.numbered.ensures, c.loop-number-test.true, c.loop-number.invariant.5)

pub loop-number-preserved : goal.loop-number-preserved
loop-number-preserved g c = (
  c.in_ok-open_next.ensures.token,
  c.in_ok-open_next.ensures.claims ∙ ap (λ (n : ℕ). claims_from (n + 1) (drop (n + 1) (machine_of c.open_next.new.opened.queues.items))) c.numbered.ensures,
  fresh-more (quota_of g.N.Names.kit) c.loop-number.number c.loop-number.opened.logs.items c.open_next.new.opened.logs.items (fresh_log (quota_of g.N.Names.kit) c.numbered.result) c.loop-number.invariant.2
      (ap (fresh_log (quota_of g.N.Names.kit)) c.numbered.ensures) c.in_ok-open_next.ensures.log,
  c.in_ok-open_next.ensures.lock ∙ ap (λ (n : ℕ). n + 1) c.loop-number.invariant.3,
  c.in_ok-open_next.ensures.queues ∙ c.loop-number.invariant.4,
  c.loop-number.invariant.5,
)

pub returns-clause-logs : goal.returns-clause-logs
returns-clause-logs g c =
    let all : c.loop-number.number ≡ cpus_of (setup_of g.N.Names.kit) = omega (arith, c.loop-number-test.false, c.loop-number.auto.number-end, c.loop-number.invariant.5) in
    c.loop-number.invariant.2 ∙ ap (fresh_logs (quota_of g.N.Names.kit)) all

pub returns-clause-locks : goal.returns-clause-locks
returns-clause-locks g c = omega (arith, c.loop-number-test.false, c.loop-number.auto.number-end, c.loop-number.invariant.3, c.loop-number.invariant.5)

pub returns-clause-claims : goal.returns-clause-claims
returns-clause-claims g c =
    let ended : length c.loop-number.opened.queues.items ≤ c.loop-number.number = omega (arith, c.loop-number-test.false, c.loop-number.invariant.4, c.loop-number.invariant.5, c.loop-number.opened.queues.ok.0) in
    last-claims c.loop-number.opened.queues.items c.loop-number.number (claims_of c.loop-number.opened.token) ended c.loop-number.invariant.1
