use Rattle.eevdf_fleet.proofs.BoardOpening.{opens}
use Rattle.eevdf_fleet.proofs.board.Board.open.Goals as goal

pub of_words-requires : goal.of_words-requires
of_words-requires c = opens c.args.terms.now c.requires
