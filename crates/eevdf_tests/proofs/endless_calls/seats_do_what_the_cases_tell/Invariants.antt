use Rattle.eevdf_tests.proofs.endless_calls.seats_do_what_the_cases_tell.Given as goal

abbrev pub ghosts-check_case : goal.ghosts-check_case
ghosts-check_case g a = record { kit = a.kit }
