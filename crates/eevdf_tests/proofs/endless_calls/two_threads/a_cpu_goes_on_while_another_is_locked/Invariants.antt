use Rattle.eevdf_tests.proofs.endless_calls.two_threads.a_cpu_goes_on_while_another_is_locked.Given as goal

abbrev pub ghosts-one_holds : goal.ghosts-one_holds
ghosts-one_holds g a = record { kit = a.kit }
