use Rattle.std.proofs.Common.{List, ℕ, refl, ap, ◌∙◌}
use Rattle.atomic_table.specs.declared.badge.Badge.{Badge}
use Rattle.eevdf_fleet.specs.{declared.board.claims.View.View, Requests.source_at, Requests.terms_in}
use Rattle.eevdf_fleet.proofs.rings.request.Request.mark.Goals as goal

pub returns : goal.returns
returns c = record {
  lead = record { sender = c.args.sender; home = c.args.home; homes = c.of-homes.result; board = c.of-board.result };
  says = c.of.ensures;
  home_is = refl;
  source_is = ap (λ (b : Badge View). source_at b.table_id (terms_in b.views) c.of-homes.result.value.items c.args.sender) c.of-board.ensures
      ∙ ap (λ (hs : List ℕ). source_at c.args.board.now.table_id (terms_in c.args.board.now.views) hs c.args.sender) (ap (λ v. v.items) c.of-homes.ensures);
}
