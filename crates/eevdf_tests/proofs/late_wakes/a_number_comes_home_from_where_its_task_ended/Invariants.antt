use Rattle.eevdf_tests.proofs.late_wakes.a_number_comes_home_from_where_its_task_ended.Given as goal

abbrev pub ghosts-ends_elsewhere : goal.ghosts-ends_elsewhere
ghosts-ends_elsewhere g a = record { kit = a.kit }
