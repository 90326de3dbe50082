use Rattle.std.proofs.Common.{◌≡◌, ◌*◌, List, length, map, sym, ap, subst, ◌∙◌}
use Rattle.std.proofs.{lemmas.List.length-map, lemmas.List.Elements.All-map}
use Rattle.std.specs.Prelude.{All}
use Rattle.eevdf_ops.specs.{declared.deeds.Line.Line, Setup.cpus_of}
use Rattle.eevdf_fleet.specs.{declared.board.claims.Claim.Claim, Board.Known, Board.claims_of}
use Rattle.eevdf_fleet.specs.Closings.{IsOfLines, with_journal}
use Rattle.eevdf_fleet.specs.{Rings.AreLeft, Rings.Returned, Fleets.Parts, Fleets.Seat, Fleets.seats_in, Fleets.setup_of}
use Rattle.eevdf_fleet.proofs.{Closings.journal-has, Closings.whole-machine, Closings.without-journal, PostsTold.all-told, PostsTold.each-of, PostsTold.seats-returned}
use Rattle.eevdf_fleet.proofs.closing.Closing.close.Goals as goal
use Rattle.eevdf_fleet.proofs.closing.Closing.close.Goals.{After-look}

pub into_left-requires : goal.into_left-requires
into_left-requires g c =
    let cpus = cpus_of (setup_of g.N.Names.kit) in
    seats-returned cpus (seats_in c.args.seats.items) _ c.requires (All-map (λ (s : Seat). length s.posted ≡ cpus) (λ (p : Parts). p.seat) c.args.seats.items c.close_seats-token.ensures.posted) c.close_seats-token.ensures.ends

-- what is known of all claims
known : (g : _) (c : After-look g) → Known g.N.Names.kit.terms c.look.ensures.looked.lines (with_journal c.close_journal-token.result.1 (claims_of c.close_locks-token.result.0))
known g c =
    subst (λ (cs : List Claim). Known g.N.Names.kit.terms c.look.ensures.looked.lines cs) c.close_journal-token.ensures.claims c.look.ensures.looked.known

pub returns : goal.returns
returns g c =
    let t = g.N.Names.kit.terms in
    let cpus = cpus_of (setup_of g.N.Names.kit) in
    let at : After-look g = (goal.at.returns g c).After-look in
    let lines : List Line = c.look.ensures.looked.lines in
    let queues : Known t lines (claims_of c.close_locks-token.result.0) = without-journal t lines c.close_journal-token.result.1 (claims_of c.close_locks-token.result.0) (known g at) in
    let seats : All (IsOfLines lines) c.args.seats.items = c.close_seats-token.ensures.tell lines (c.close_locks-token.ensures.tell lines queues.tell) in
    let left : AreLeft c.close_seats-token.result.1 (map (λ l. l.items) c.into_left.result.items) = c.into_left.ensures in
    record {
      lines = lines;
      kept = queues.kept;
      seats = seats;
      machine = whole-machine t lines c.close_locks-token.result.1.items (claims_of c.close_locks-token.result.0) queues (c.close_locks-token.ensures.put lines queues) c.close_locks-token.ensures.all
          (sym c.close_locks-token.result.1.ok.0 ∙ c.close_locks-token.ensures.cpus);
      posts = all-told cpus (seats_in c.args.seats.items) lines _ c.requires (each-of lines c.args.seats.items seats)
          (subst (λ (r : Returned). AreLeft r (map (λ l. l.items) c.into_left.result.items)) c.close_seats-token.ensures.ends left);
      left = sym (length-map c.into_left.result.items (λ l. l.items)) ∙ left.each ∙ ap (λ (r : Returned). r.cpus * r.cpus) c.close_seats-token.ensures.ends;
      cpus = sym c.close_locks-token.result.1.ok.0 ∙ c.close_locks-token.ensures.cpus;
      recorded = c.close_journal-token.ensures.kept ∙ c.self.invariant.1;
      journal = journal-has t lines c.close_journal-token.result.1 (claims_of c.close_locks-token.result.0) (c.close_journal-token.ensures.kept ∙ c.self.invariant.1) (known g at);
    }
