use Rattle.eevdf_tests.proofs.endless_calls.listed.a_drain_names_a_wake_of_each_of_sixty_four_seats.Given as goal

abbrev pub ghosts-all_ask_twice : goal.ghosts-all_ask_twice
ghosts-all_ask_twice g a = record { kit = a.kit }
