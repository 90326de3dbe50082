use Rattle.eevdf_tests.proofs.comings.with_history.tasks_come_and_go.Given as goal

abbrev pub ghosts-make_calls : goal.ghosts-make_calls
ghosts-make_calls g a = record { kit = a.kit }
