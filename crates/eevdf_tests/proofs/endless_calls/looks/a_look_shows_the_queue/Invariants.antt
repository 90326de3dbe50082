use Rattle.eevdf_tests.proofs.endless_calls.looks.a_look_shows_the_queue.Given as goal

abbrev pub ghosts-looks_and_meets : goal.ghosts-looks_and_meets
ghosts-looks_and_meets g a = record { kit = a.kit }
