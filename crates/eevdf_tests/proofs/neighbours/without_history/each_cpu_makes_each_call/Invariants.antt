use Rattle.eevdf_tests.proofs.neighbours.without_history.each_cpu_makes_each_call.Given as goal

abbrev pub ghosts-make_calls : goal.ghosts-make_calls
ghosts-make_calls g a = record { kit = a.kit }
