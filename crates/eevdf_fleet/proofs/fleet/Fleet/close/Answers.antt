use Rattle.std.proofs.Common.{◌≡◌, List, sym, subst, ◌∙◌}
use Rattle.std.specs.Prelude.{All, IfSome}
use Rattle.eevdf_ops.specs.{declared.deeds.Line.Line, Programs.lines_by}
use Rattle.eevdf_fleet.specs.Fleets.{Seat}
use Rattle.eevdf_fleet.proofs.PostsTold.{each-of}
use Rattle.eevdf_fleet.proofs.fleet.Fleet.close.Goals as goal

pub returns-clause-logs : goal.returns-clause-logs
returns-clause-logs g c =
    let closed = c.close-lines.ensures in
    let same : c.of.result.lines ≡ closed.lines = c.of.ensures.lines ∙ subst (λ o. IfSome o (λ all. all.items ≡ closed.lines)) c.in-Some.is closed.journal in
    subst (λ (l : List Line). All (λ (s : Seat). lines_by s.cpu l ≡ s.log) c.args.seats.items) (sym same)
    (subst (λ (ss : List Seat). All (λ (s : Seat). lines_by s.cpu closed.lines ≡ s.log) ss) c.parts_in.ensures (each-of closed.lines c.parts_in.result.items closed.seats))
