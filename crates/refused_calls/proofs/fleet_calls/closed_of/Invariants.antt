use Rattle.refused_calls.proofs.fleet_calls.closed_of.Given as goal

abbrev pub ghosts-closed : goal.ghosts-closed
ghosts-closed g a = record { kit = a.kit }
