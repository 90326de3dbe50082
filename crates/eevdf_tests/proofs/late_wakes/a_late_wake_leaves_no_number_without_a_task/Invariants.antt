use Rattle.eevdf_tests.proofs.late_wakes.a_late_wake_leaves_no_number_without_a_task.Given as goal

abbrev pub ghosts-ends_before_its_wake : goal.ghosts-ends_before_its_wake
ghosts-ends_before_its_wake g a = record { kit = a.kit }
