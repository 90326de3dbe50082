use Rattle.eevdf_tests.proofs.endless_calls.listed.a_post_sees_whether_it_is_alone.Given as goal

abbrev pub ghosts-looks_at_its_ring : goal.ghosts-looks_at_its_ring
ghosts-looks_at_its_ring g a = record { kit = a.kit }
