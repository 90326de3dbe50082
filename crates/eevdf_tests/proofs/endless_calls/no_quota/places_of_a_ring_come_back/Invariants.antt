use Rattle.eevdf_tests.proofs.endless_calls.no_quota.places_of_a_ring_come_back.Given as goal

abbrev pub ghosts-places_come_back : goal.ghosts-places_come_back
ghosts-places_come_back g a = record { kit = a.kit }
