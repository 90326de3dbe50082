use Rattle.eevdf_tests.proofs.late_wakes.held_begin.no_task_has_a_number_before_its_begin_is_done.Given as goal

abbrev pub ghosts-begin_held : goal.ghosts-begin_held
ghosts-begin_held g a = record { kit = a.kit }
