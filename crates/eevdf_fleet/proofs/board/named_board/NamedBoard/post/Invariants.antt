use Rattle.eevdf_fleet.proofs.board.named_board.NamedBoard.post.Given as goal

abbrev pub ghosts-post_as : goal.ghosts-post_as
ghosts-post_as g a = record { home = a.home; task = a.task }
