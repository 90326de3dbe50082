use Rattle.eevdf_tests.proofs.late_wakes.a_stray_that_was_pulled_ends_at_its_pick.Given as goal

abbrev pub ghosts-is_pulled_before : goal.ghosts-is_pulled_before
ghosts-is_pulled_before g a = record { kit = a.kit }
