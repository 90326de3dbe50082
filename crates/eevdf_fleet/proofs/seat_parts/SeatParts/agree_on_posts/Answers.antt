use Rattle.std.proofs.Common.{ℕ, subst}
use mathlib.Core.List.{IsPrefix}
use Rattle.eevdf_ops.specs.Programs.{lines_by, wakes_from}
use Rattle.eevdf_fleet.specs.Fleets.{Parts, posted_to}
use Rattle.eevdf_fleet.specs.Rings as rings
use Rattle.eevdf_fleet.proofs.seat_parts.SeatParts.agree_on_posts.Goals as goal

pub returns-clause-agree : goal.returns-clause-agree
returns-clause-agree g c =
    subst (λ (p : Parts). (home : ℕ) → IsPrefix (wakes_from p.seat.cpu (lines_by home c.args.seen.now)) (posted_to p.seat home)) c.self.view_is
    (subst (λ (n : ℕ). (home : ℕ) → IsPrefix (wakes_from n (lines_by home c.args.seen.now)) (rings.posted_to c.self.inside.producers home)) c.self.invariant.0.posts.sender_is
    c.agree.ensures.agree)
