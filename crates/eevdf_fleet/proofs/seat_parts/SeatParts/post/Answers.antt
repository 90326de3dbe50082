use Rattle.std.proofs.Common.{◌≡◌, ℕ, List, length, eq-eqb, sym, ap, ◌∙◌, arith}
use Rattle.std.proofs.{lemmas.Bool.and_from, lemmas.Bool.ltb-true}
use Rattle.std.proofs.lemmas.Result.{on_ok_weaker, on_err_weaker}
use Rattle.eevdf_ops.specs.Setup.{cpus_of, home_of, homes_of, is_at_home}
use Rattle.eevdf_fleet.specs.Fleets.{Parts, free_at, parts_of, posted_to, setup_of}
use Rattle.eevdf_fleet.specs.Rings as rings
use Rattle.eevdf_fleet.proofs.SeatParts.{parts-of, parts-posted, seat-posted}
use Rattle.eevdf_fleet.proofs.seat_parts.SeatParts.post.Goals as goal

pub post-requires-clause-home : goal.post-requires-clause-home
post-requires-clause-home g c = omega (arith, c.home-home.ensures.below, c.self.invariant.0.posts.to_all)

-- the task has its home there
pub post-requires-clause-at_home : goal.post-requires-clause-at_home
post-requires-clause-at_home g c =
    ap (λ (homes : List ℕ). is_at_home homes c.args.task c.home-home.result) c.self.invariant.3
    ∙ and_from _ _ c.requires (eq-eqb (home_of (homes_of (setup_of g.N.Names.kit)) c.args.task) c.home-home.result (sym c.home-home.ensures.home))

pub invariant_of-self : goal.invariant_of-self
invariant_of-self g c =
    parts-of g.N.Names.kit _ _ _ _ _ _ _
    (parts-posted c.post.result (cpus_of (setup_of g.N.Names.kit)) c.self.inside.log c.self.inside.consumers c.self.inside.producers c.post.new.self c.home-home.result c.args.task
    c.post.ensures.accepted c.post.ensures.refused c.self.invariant.0)
    c.self.invariant

pub returns-clause-accepted : goal.returns-clause-accepted
returns-clause-accepted g c =
    on_ok_weaker c.post.result (λ more. seat-posted _ _ _ _ _ _ _ more c.home-home.ensures.home c.self.view_is) c.post.ensures.accepted

pub returns-clause-refused : goal.returns-clause-refused
returns-clause-refused g c = on_err_weaker c.post.result (λ same. ap (parts_of c.self.inside.log) same ∙ c.self.view_is) c.post.ensures.refused

pub returns-clause-full : goal.returns-clause-full
returns-clause-full g c =
    on_err_weaker c.post.result (λ none. ap (λ (k : ℕ). rings.free_to c.post.new.self k) (sym c.home-home.ensures.home) ∙ none) c.post.ensures.full

pub returns-clause-free : goal.returns-clause-free
returns-clause-free g c =
    let same : rings.free_to c.self.inside.producers c.home-home.result ≡ free_at c.args.self.now.free (home_of (homes_of (setup_of g.N.Names.kit)) c.args.task)
    = ap (λ (k : ℕ). rings.free_to c.self.inside.producers k) c.home-home.ensures.home ∙ ap (λ (p : Parts). free_at p.free (home_of (homes_of (setup_of g.N.Names.kit)) c.args.task)) c.self.view_is in
    λ some. c.post.ensures.free (omega (arith, some, same))

pub returns-clause-room : goal.returns-clause-room
returns-clause-room g c =
    let same : rings.posted_to c.self.inside.producers c.home-home.result ≡ posted_to c.args.self.now.seat (home_of (homes_of (setup_of g.N.Names.kit)) c.args.task)
    = ap (λ (k : ℕ). rings.posted_to c.self.inside.producers k) c.home-home.ensures.home ∙ ap (λ (p : Parts). posted_to p.seat (home_of (homes_of (setup_of g.N.Names.kit)) c.args.task)) c.self.view_is in
    λ few. c.post.ensures.room (omega (arith, ap length same))

pub returns-clause-home : goal.returns-clause-home
returns-clause-home g c = c.self.invariant.2 c.args.task (ltb-true c.args.task (length (homes_of (setup_of g.N.Names.kit))) c.requires)

pub returns-clause-homes : goal.returns-clause-homes
returns-clause-homes g c = ap (λ (p : Parts). length p.seat.posted) (sym c.self.view_is) ∙ c.self.invariant.0.posts.to_all
