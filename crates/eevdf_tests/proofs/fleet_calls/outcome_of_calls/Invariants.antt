use Rattle.eevdf_tests.proofs.fleet_calls.outcome_of_calls.Given as goal

abbrev pub ghosts-outcome_of : goal.ghosts-outcome_of
ghosts-outcome_of g a = record { kit = a.kit }
