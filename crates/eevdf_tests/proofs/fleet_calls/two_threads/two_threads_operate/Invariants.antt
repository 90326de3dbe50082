use Rattle.eevdf_tests.proofs.fleet_calls.two_threads.two_threads_operate.Given as goal

abbrev pub ghosts-two_operate : goal.ghosts-two_operate
ghosts-two_operate g a = record { kit = a.kit }
