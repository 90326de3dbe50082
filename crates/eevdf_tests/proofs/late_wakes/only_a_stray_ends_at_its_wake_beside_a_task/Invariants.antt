use Rattle.eevdf_tests.proofs.late_wakes.only_a_stray_ends_at_its_wake_beside_a_task.Given as goal

abbrev pub ghosts-wake_beside_a_task : goal.ghosts-wake_beside_a_task
ghosts-wake_beside_a_task g a = record { kit = a.kit }
