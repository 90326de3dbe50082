use Rattle.eevdf_tests.proofs.endless_calls.listed.a_woken_task_of_earlier_deadline_preempts.Given as goal

abbrev pub ghosts-preempts : goal.ghosts-preempts
ghosts-preempts g a = record { kit = a.kit }
