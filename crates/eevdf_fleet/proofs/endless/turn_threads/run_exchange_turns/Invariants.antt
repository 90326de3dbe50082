use Rattle.eevdf_fleet.proofs.endless.turn_threads.run_exchange_turns.Given as goal

abbrev pub ghosts-run_on_fleet : goal.ghosts-run_on_fleet
ghosts-run_on_fleet g a = record { kit = a.kit }
