use Rattle.std.proofs.Common.{ℕ, length, sym, ap, ◌∙◌}
use Rattle.eevdf_fleet.specs.{Fleets.capacity_of, Rings.Rings, Rings.all_no_posts, Rings.all_no_takes}
use Rattle.eevdf_fleet.specs.PostClaims.{posts_from}
use Rattle.eevdf_fleet.proofs.opening.open_seats.Goals as goal

pub make_seats-requires-clause-producers : goal.make_seats-requires-clause-producers
make_seats-requires-clause-producers g c = c.in_ok-producers.ensures.producers ∙ ap (λ (r : Rings). all_no_posts r.capacity (length r.rings)) c.requires.rings
    ∙ ap (λ (r : Rings). all_no_posts (capacity_of g.N.Names.kit) (length r.rings)) (sym c.requires.rings) ∙ ap (all_no_posts (capacity_of g.N.Names.kit)) c.requires.cpus

pub make_seats-requires-clause-ring_homes : goal.make_seats-requires-clause-ring_homes
make_seats-requires-clause-ring_homes g c = ap (λ (r : Rings). r.homes) (sym c.requires.rings) ∙ c.requires.ring_homes

pub make_seats-requires-clause-ring_board : goal.make_seats-requires-clause-ring_board
make_seats-requires-clause-ring_board g c = ap (λ (r : Rings). r.board) (sym c.requires.rings) ∙ c.requires.ring_board

pub make_seats-requires-clause-ring_terms : goal.make_seats-requires-clause-ring_terms
make_seats-requires-clause-ring_terms g c = ap (λ (r : Rings). r.terms) (sym c.requires.rings) ∙ c.requires.ring_terms

pub named-requires-clause-posts : goal.named-requires-clause-posts
named-requires-clause-posts g c = c.requires.posts ∙ ap (λ (n : ℕ). posts_from n 0 n) (sym c.requires.cpus)

pub make_seats-requires-clause-consumers : goal.make_seats-requires-clause-consumers
make_seats-requires-clause-consumers g c = c.in_ok-producers.ensures.consumers ∙ ap all_no_takes c.requires.cpus
