use Rattle.std.proofs.Common.{◌≡◌, ◌<◌, ℕ, length, map, reverse, vec_len, sym, ap, ◌∙◌, arith}
use Rattle.std.specs.List.{range_with_len}
use Rattle.std.proofs.{lemmas.List.map-id, lemmas.List.FromFn.length-map-range_with_len, lemmas.Option.MatchOption-at_none}
use Rattle.std.proofs.lemmas.Slice.Zip.{AllZip-map}
use Rattle.eevdf_ops.specs.Setup.{cpus_of}
use Rattle.eevdf_fleet.specs.Fleets.{capacity_of, fresh_log, fresh_parts, quota_of, setup_of}
use Rattle.eevdf_fleet.specs.Rings.{no_posts, no_takes}
use Rattle.eevdf_fleet.proofs.Openings.{fresh-parts, fresh-seat, front-more, popped}
use Rattle.eevdf_fleet.proofs.opening.make_seats.Goals as goal
use Rattle.eevdf_fleet.proofs.opening.make_seats.Goals.{in_default-via-in-Some+in-Some+in_default, in_default-via-in-Some+in_default, in_default-via-in_default}

pub loop-init : goal.loop-init
loop-init g c =
    let cpus = cpus_of (setup_of g.N.Names.kit) in
    let count : vec_len c.args.logs.now ≡ cpus = omega (arith, c.args.logs.now.ok.0, ap length c.requires.logs, length-map-range_with_len (fresh_log (quota_of g.N.Names.kit)) 0 cpus) in
    record {
      end = c.len-end.ensures ∙ count;
      rest = omega (arith, count);
      logs = c.requires.logs ∙ ap (λ (n : ℕ). map (fresh_log (quota_of g.N.Names.kit)) (range_with_len 0 n)) (sym count);
      producers = c.requires.producers ∙ ap (λ (n : ℕ). map (no_posts (capacity_of g.N.Names.kit) cpus) (range_with_len 0 n)) (sym count);
      consumers = c.requires.consumers ∙ ap (λ (n : ℕ). map (no_takes cpus) (range_with_len 0 n)) (sym count);
      seats = ap reverse c.requires.none;
    }

pub invariant_of-push : goal.invariant_of-push
invariant_of-push g c =
    let cpus = cpus_of (setup_of g.N.Names.kit) in
    let log = popped (fresh_log (quota_of g.N.Names.kit)) (vec_len c.loop.logs) c.loop.logs.items c.pop.new.self.items c.in-Some-Some-Some.log c.loop.invariant.logs c.in-Some-Some-Some.ensures.items in
    let posts = popped (no_posts (capacity_of g.N.Names.kit) cpus) (vec_len c.loop.logs) c.loop.producers.items c.pop-in-loop.new.self.items c.in-Some-Some-Some.producers c.loop.invariant.producers c.in-Some-Some-Some.ensures'.items in
    let takes = popped (no_takes cpus) (vec_len c.loop.logs) c.loop.consumers.items c.pop-in-loop-2.new.self.items c.in-Some-Some-Some.consumers c.loop.invariant.consumers c.in-Some-Some-Some.ensures''.items in
    let same_posts : length c.pop-in-loop.new.self.items ≡ length c.pop.new.self.items = omega (arith, log.0, posts.0) in
    let same_takes : length c.pop-in-loop-2.new.self.items ≡ length c.pop.new.self.items = omega (arith, log.0, takes.0) in (
      fresh-parts (quota_of g.N.Names.kit) (capacity_of g.N.Names.kit) cpus (length c.pop.new.self.items) _ _ _ log.2 (posts.2 ∙ ap (no_posts (capacity_of g.N.Names.kit) cpus) same_posts) (takes.2 ∙ ap (no_takes cpus) same_takes) (omega (arith, log.0, c.loop.invariant.rest)),
      AllZip-map (λ (n : ℕ). n) c.args.homes.now.items c.in_ok-homes.homes.items c.in_ok-homes.ensures.cases.0 ∙ map-id c.args.homes.now.items ∙ c.requires.homes,
      c.requires.homes_below,
      c.requires.ring_homes,
      c.requires.ring_board,
      c.requires.ring_terms,
    )

pub unreachable-requires : goal.unreachable-requires
unreachable-requires g c =
    let cpus = cpus_of (setup_of g.N.Names.kit) in
    let some : 0 < vec_len c.loop.logs = omega (arith, c.loop-test.true, c.loop.invariant.end, c.loop.invariant.rest) in
    elim c.in_default.branch [
      | in_default-via-in-Some+in-Some+in_default w ↦
          absurd (omega (arith, some, w.in_default.ensures''.cases, c.loop.consumers.ok.0, ap length c.loop.invariant.consumers, length-map-range_with_len (no_takes cpus) 0 (vec_len c.loop.logs)))
      | in_default-via-in-Some+in_default w ↦
          absurd (omega (arith, some, MatchOption-at_none _ _ w.in_default.is-1 c.pop-in-loop.ensures.cases, c.loop.producers.ok.0, ap length c.loop.invariant.producers, length-map-range_with_len (no_posts (capacity_of g.N.Names.kit) cpus) 0 (vec_len c.loop.logs)))
      | in_default-via-in_default w ↦ absurd (omega (arith, some, MatchOption-at_none _ _ w.in_default.is-0 c.pop.ensures.cases))
    ]

pub loop-preserved : goal.loop-preserved
loop-preserved g c =
    let cpus = cpus_of (setup_of g.N.Names.kit) in
    let log = popped (fresh_log (quota_of g.N.Names.kit)) (vec_len c.loop.logs) c.loop.logs.items c.pop.new.self.items c.in-Some-Some-Some.log c.loop.invariant.logs c.in-Some-Some-Some.ensures.items in
    let posts = popped (no_posts (capacity_of g.N.Names.kit) cpus) (vec_len c.loop.logs) c.loop.producers.items c.pop-in-loop.new.self.items c.in-Some-Some-Some.producers c.loop.invariant.producers c.in-Some-Some-Some.ensures'.items in
    let takes = popped (no_takes cpus) (vec_len c.loop.logs) c.loop.consumers.items c.pop-in-loop-2.new.self.items c.in-Some-Some-Some.consumers c.loop.invariant.consumers c.in-Some-Some-Some.ensures''.items in
    let k : length c.pop.new.self.items ≡ vec_len c.pop.new.self = sym c.pop.new.self.ok.0 in
    let same_posts : length c.pop-in-loop.new.self.items ≡ vec_len c.pop.new.self = omega (arith, log.0, posts.0, k) in
    let same_takes : length c.pop-in-loop-2.new.self.items ≡ vec_len c.pop.new.self = omega (arith, log.0, takes.0, k) in
    record {
      end = c.loop.invariant.end;
      rest = omega (arith, c.loop.invariant.rest, log.0, k);
      logs = log.1 ∙ ap (λ (n : ℕ). map (fresh_log (quota_of g.N.Names.kit)) (range_with_len 0 n)) k;
      producers = posts.1 ∙ ap (λ (n : ℕ). map (no_posts (capacity_of g.N.Names.kit) cpus) (range_with_len 0 n)) same_posts;
      consumers = takes.1 ∙ ap (λ (n : ℕ). map (no_takes cpus) (range_with_len 0 n)) same_takes;
      seats = front-more (fresh_parts (quota_of g.N.Names.kit) (capacity_of g.N.Names.kit) cpus) (vec_len c.pop.new.self) (vec_len c.loop.logs) c.loop.counter c.loop.seats.items c.push.new.self.items _ (omega (arith, log.0, k)) c.loop.invariant.seats
          (fresh-seat (quota_of g.N.Names.kit) (capacity_of g.N.Names.kit) cpus (vec_len c.pop.new.self) _ _ (log.2 ∙ ap (fresh_log (quota_of g.N.Names.kit)) k) (posts.2 ∙ ap (no_posts (capacity_of g.N.Names.kit) cpus) same_posts)) c.in_ok-push-in-Some-Some-Some.ensures.items;
    }

pub returns : goal.returns
returns g c =
    let cpus = cpus_of (setup_of g.N.Names.kit) in
    let none : vec_len c.loop.logs ≡ 0 = omega (arith, c.loop-test.false, c.loop.auto.counter-end, c.loop.invariant.end, c.loop.invariant.rest) in
    let all : c.loop.counter ≡ cpus = omega (arith, none, c.loop.invariant.rest) in
    c.reverse.ensures.items ∙ c.loop.invariant.seats ∙ ap (λ (n : ℕ). map (fresh_parts (quota_of g.N.Names.kit) (capacity_of g.N.Names.kit) cpus) (range_with_len n c.loop.counter)) none ∙ ap (λ (n : ℕ). map (fresh_parts (quota_of g.N.Names.kit) (capacity_of g.N.Names.kit) cpus) (range_with_len 0 n)) all
