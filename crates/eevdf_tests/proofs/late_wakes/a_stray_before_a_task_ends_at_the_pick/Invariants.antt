use Rattle.eevdf_tests.proofs.late_wakes.a_stray_before_a_task_ends_at_the_pick.Given as goal

abbrev pub ghosts-comes_before_a_task : goal.ghosts-comes_before_a_task
ghosts-comes_before_a_task g a = record { kit = a.kit }
