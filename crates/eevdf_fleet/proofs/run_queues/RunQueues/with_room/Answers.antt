use Rattle.std.proofs.Common.{◌≡◌, ◌≤◌, ap, subst, ◌∙◌}
use Rattle.eevdf_ops.specs.{Places.AreCpus, Setup.cpus_of, Setup.homes_of}
use Rattle.eevdf_fleet.specs.{declared.board.claims.Terms.Terms, Fleets.Kit, Fleets.setup_of}
use Rattle.std.specs.Prelude.{Some}
use Rattle.eevdf_fleet.specs.Claims.{no_posts}
use Rattle.eevdf_fleet.proofs.run_queues.RunQueues.with_room.Goals as goal

pub invariant_of-queues : goal.invariant_of-queues
invariant_of-queues g c =
    let terms : c.kit.inside.board.table.shared.key ≡ g.N.Names.kit.terms = ap (λ (k : Kit). k.terms) (c.kit.view_is ∙ c.requires.kit) in (
      c.kit.invariant.3 ∙ ap (λ (t : Terms). homes_of t.setup.value) terms,
      c.in_ok-opened.ensures.locks,
      subst (λ (t : Terms). AreCpus (cpus_of t.setup.value) (homes_of t.setup.value)) terms c.kit.invariant.8,
      subst (λ (t : Terms). cpus_of t.setup.value ≤ 64) terms c.kit.invariant.9,
      c.open_journal-journal.ensures.journal,
    )

pub returns : goal.returns
returns g c = c.in_ok-seats.ensures

pub open_seats-requires-clause-ring_homes : goal.open_seats-requires-clause-ring_homes
open_seats-requires-clause-ring_homes g c = c.kit.invariant.11 ∙ ap (λ (k : Kit). homes_of (setup_of k)) (c.kit.view_is ∙ c.requires.kit)

pub open_seats-requires-clause-ring_board : goal.open_seats-requires-clause-ring_board
open_seats-requires-clause-ring_board g c = c.kit.invariant.12 ∙ ap (λ (k : Kit). k.board) (c.kit.view_is ∙ c.requires.kit)

pub open_seats-requires-clause-ring_terms : goal.open_seats-requires-clause-ring_terms
open_seats-requires-clause-ring_terms g c = c.kit.invariant.13 ∙ ap (λ (k : Kit). Some k.terms) (c.kit.view_is ∙ c.requires.kit)

pub open_seats-requires-clause-posts : goal.open_seats-requires-clause-posts
open_seats-requires-clause-posts g c = c.split_all_posts-posts.ensures.post_claims ∙ c.kit.invariant.2 ∙ ap (λ (k : Kit). no_posts k.terms) (c.kit.view_is ∙ c.requires.kit)
