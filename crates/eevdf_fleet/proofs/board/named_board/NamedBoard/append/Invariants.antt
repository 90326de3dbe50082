use Rattle.std.specs.Prelude.{Some}
use Rattle.eevdf_fleet.proofs.board.named_board.NamedBoard.append.Given as goal

abbrev pub ghosts-append_as : goal.ghosts-append_as
ghosts-append_as g a = record { said = Some a.said.now }
