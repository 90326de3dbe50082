use Rattle.eevdf_tests.proofs.endless_calls.no_quota.a_seat_goes_on_without_a_quota.Given as goal

abbrev pub ghosts-seat_goes_on : goal.ghosts-seat_goes_on
ghosts-seat_goes_on g a = record { kit = a.kit }
