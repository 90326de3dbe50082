use Rattle.std.proofs.Common.{◌≡◌, ◌<◌, ℕ, List, [], ◌∷◌, length, ap, sym, subst, ◌∙◌, arith}
use Rattle.std.specs.Prelude.{All}
use Rattle.std.proofs.{lemmas.List.length-map, lemmas.List.map-append, lemmas.List.map-id, lemmas.List.Elements.All-nil, lemmas.List.Elements.All-push}
use Rattle.std.proofs.{lemmas.Iterator.Adapters.YieldsList-from_vec, lemmas.Iterator.Consumers.YieldsList-end, lemmas.Iterator.Consumers.YieldsList-turn}
use Rattle.eevdf_ops.specs.{Setup.cpus_of}
use Rattle.eevdf_fleet.specs.{declared.board.claims.Claim.Claim, Claims.AllTell, Closings.IsOfLines, Closings.queue_count, Rings.Returned}
use Rattle.eevdf_fleet.specs.Fleets.{Parts, Seat, posts_by, returned, seats_in, setup_of, taken_by}
use Rattle.eevdf_fleet.proofs.PostsTold.{returned-more}
use Rattle.eevdf_fleet.proofs.closing.close_seats.Goals as goal
use Rattle.eevdf_fleet.proofs.closing.close_seats.Goals.{In-Some}

pub loop-seat-preserved : goal.loop-seat-preserved
loop-seat-preserved g c =
    let cpus = cpus_of (setup_of g.N.Names.kit) in
    let t = g.N.Names.kit.terms in record {
      token = c.close_seat-token.ensures.token;
      tell = λ lines tell.
          let told = subst (λ (cs : List Claim). AllTell t lines cs) c.close_seat-token.ensures.claims tell in
          All-push (IsOfLines lines) c.loop-seat.yielded c.in-Some.seat (c.loop-seat.invariant.tell lines told.1.1) (record { log = told.1.0; seen = told.0 });
      none = omega (arith, ap queue_count c.close_seat-token.ensures.claims, c.loop-seat.invariant.none);
      posted = All-push (λ (p : Parts). length p.seat.posted ≡ cpus) c.loop-seat.yielded c.in-Some.seat c.loop-seat.invariant.posted c.close_seat-token.ensures.posted;
      ends = returned-more cpus (seats_in c.loop-seat.yielded) c.in-Some.seat.seat c.loop-seat.ends c.close_seat-token.new.ends c.loop-seat.invariant.ends c.close_seat-token.ensures.ends
          ∙ ap (λ (ss : List Seat). returned cpus ss) (sym (map-append (λ (p : Parts). p.seat) c.loop-seat.yielded (c.in-Some.seat ∷ [])));
    }

-- there is room for the ends of this seat
more : (g : _) (c : In-Some g) → length c.loop-seat.yielded < cpus_of (setup_of g.N.Names.kit)
more g c =
    let turn = YieldsList-turn (YieldsList-from_vec {s = c.into_iter-seat-iterator.result} c.args.seats.items c.into_iter-seat-iterator.ensures.into_iter_gives.0 (c.into_iter-seat-iterator.ensures.into_iter_gives.1 ∙ c.args.seats.ok.0)) c.loop-seat.yielded c.loop-seat.seat-iterator c.loop-seat.yielded_by c.next.result c.next.new.self c.in-Some.seat c.in-Some.is c.next.ensures.steps in
    subst (λ (n : ℕ). length c.loop-seat.yielded < n) (sym (length-map c.args.seats.items (λ (p : Parts). p.seat)) ∙ c.requires.seats.all) turn.0

pub close_seat-token-requires-clause-posts : goal.close_seat-token-requires-clause-posts
close_seat-token-requires-clause-posts g c =
    let cpus = cpus_of (setup_of g.N.Names.kit) in
    subst (λ (r : Returned). length r.posts < r.cpus) (sym c.loop-seat.invariant.ends)
    (subst (λ (n : ℕ). n < cpus) (sym (length-map (seats_in c.loop-seat.yielded) posts_by ∙ length-map c.loop-seat.yielded (λ (p : Parts). p.seat))) (more g (goal.at.close_seat-token-requires-clause-posts g c).In-Some))

pub close_seat-token-requires-clause-takes : goal.close_seat-token-requires-clause-takes
close_seat-token-requires-clause-takes g c =
    let cpus = cpus_of (setup_of g.N.Names.kit) in
    subst (λ (r : Returned). length r.takes < r.cpus) (sym c.loop-seat.invariant.ends)
    (subst (λ (n : ℕ). n < cpus) (sym (length-map (seats_in c.loop-seat.yielded) (taken_by cpus) ∙ length-map c.loop-seat.yielded (λ (p : Parts). p.seat))) (more g (goal.at.close_seat-token-requires-clause-takes g c).In-Some))

pub close_seat-token-requires-clause-token : goal.close_seat-token-requires-clause-token
close_seat-token-requires-clause-token g c = c.loop-seat.invariant.token

pub loop-seat-init : goal.loop-seat-init
loop-seat-init g c = record {
  token = c.requires.token;
  tell = λ lines tell. All-nil (IsOfLines lines);
  none = ap queue_count c.requires.claims;
  posted = All-nil (λ (p : Parts). length p.seat.posted ≡ cpus_of (setup_of g.N.Names.kit));
  ends = c.requires.ends;
}

pub returns : goal.returns
returns g c =
    let cpus = cpus_of (setup_of g.N.Names.kit) in
    let end = (YieldsList-end (YieldsList-from_vec {s = c.into_iter-seat-iterator.result} c.args.seats.items c.into_iter-seat-iterator.ensures.into_iter_gives.0 (c.into_iter-seat-iterator.ensures.into_iter_gives.1 ∙ c.args.seats.ok.0)) c.loop-seat.yielded c.loop-seat.seat-iterator c.loop-seat.yielded_by c.next.result c.next.new.self c.in-None.is c.next.ensures.steps).0 in
    let all : c.loop-seat.yielded ≡ c.args.seats.items = sym (map-id c.loop-seat.yielded) ∙ end in
    record {
      token = c.loop-seat.invariant.token;
      tell = λ lines tell. subst (λ ps. All (IsOfLines lines) ps) all (c.loop-seat.invariant.tell lines tell);
      none = c.loop-seat.invariant.none;
      posted = subst (λ ps. All (λ (p : Parts). length p.seat.posted ≡ cpus) ps) all c.loop-seat.invariant.posted;
      ends = c.loop-seat.invariant.ends ∙ ap (λ ps. returned cpus (seats_in ps)) all;
    }
