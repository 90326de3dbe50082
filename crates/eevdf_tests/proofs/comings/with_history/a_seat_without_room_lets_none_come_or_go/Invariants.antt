use Rattle.eevdf_tests.proofs.comings.with_history.a_seat_without_room_lets_none_come_or_go.Given as goal

abbrev pub ghosts-are_refused : goal.ghosts-are_refused
ghosts-are_refused g a = record { kit = a.kit }
