use Rattle.eevdf_tests.proofs.endless_calls.moments.comparing_moments_changes_nothing.Given as goal

abbrev pub ghosts-goes_on : goal.ghosts-goes_on
ghosts-goes_on g a = record { kit = a.kit }
