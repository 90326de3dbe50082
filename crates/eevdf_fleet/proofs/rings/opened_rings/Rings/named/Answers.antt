use Rattle.std.proofs.Common.{◌≡◌, ℕ, length, ap, sym, subst, ◌∙◌}
use Rattle.eevdf_fleet.specs.{RingEnds.lists_of, OpenedRings.AreOpened, Requests.source_at, Requests.terms_in, Rings.Rings}
use Rattle.eevdf_fleet.specs.PostClaims.{posts_from}
use Rattle.eevdf_fleet.proofs.{RingOpenings.length-lists, RingNaming.opened-as}
use Rattle.eevdf_fleet.proofs.rings.opened_rings.Rings.named.Goals as goal

pub producers_by_sender-requires-clause-rows : goal.producers_by_sender-requires-clause-rows
producers_by_sender-requires-clause-rows g c =
    (opened-as g.N.Names.kit.rings c.self.inside.board.value.table_id (terms_in c.self.inside.board.value.views) c.self.inside.capacity c.self.inside.homes.value.items (lists_of c.self.inside.producers.items) (lists_of c.self.inside.consumers.items) (c.self.view_is ∙ c.requires.rings)
    (subst (λ (n : ℕ). AreOpened c.self.inside.capacity (source_at c.self.inside.board.value.table_id (terms_in c.self.inside.board.value.views) c.self.inside.homes.value.items) n (lists_of c.self.inside.producers.items) (lists_of c.self.inside.consumers.items)) (sym (length-lists c.self.inside.producers.items)) c.self.invariant)).0

pub producers_by_sender-requires-clause-capacity : goal.producers_by_sender-requires-clause-capacity
producers_by_sender-requires-clause-capacity g c = ap (λ (r : Rings). r.capacity) (c.self.view_is ∙ c.requires.rings)

pub consumers_by_home-requires : goal.consumers_by_home-requires
consumers_by_home-requires g c =
    (opened-as g.N.Names.kit.rings c.self.inside.board.value.table_id (terms_in c.self.inside.board.value.views) c.self.inside.capacity c.self.inside.homes.value.items (lists_of c.self.inside.producers.items) (lists_of c.self.inside.consumers.items) (c.self.view_is ∙ c.requires.rings)
    (subst (λ (n : ℕ). AreOpened c.self.inside.capacity (source_at c.self.inside.board.value.table_id (terms_in c.self.inside.board.value.views) c.self.inside.homes.value.items) n (lists_of c.self.inside.producers.items) (lists_of c.self.inside.consumers.items)) (sym (length-lists c.self.inside.producers.items)) c.self.invariant)).1

pub producers_by_sender-requires-clause-board : goal.producers_by_sender-requires-clause-board
producers_by_sender-requires-clause-board g c = ap (λ (r : Rings). r.board) (sym c.requires.rings) ∙ c.requires.board

pub producers_by_sender-requires-clause-terms : goal.producers_by_sender-requires-clause-terms
producers_by_sender-requires-clause-terms g c = ap (λ (r : Rings). r.terms) (sym c.requires.rings) ∙ c.requires.terms

pub producers_by_sender-requires-clause-posts : goal.producers_by_sender-requires-clause-posts
producers_by_sender-requires-clause-posts g c =
    let rows : length c.args.self.rings ≡ length c.self.inside.producers.items = ap (λ (r : Rings). length r.rings) (sym c.self.view_is) ∙ length-lists c.self.inside.producers.items in
    c.requires.posts ∙ ap (λ (n : ℕ). posts_from n 0 n) rows
