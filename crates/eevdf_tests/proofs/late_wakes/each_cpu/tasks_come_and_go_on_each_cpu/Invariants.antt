use Rattle.eevdf_tests.proofs.late_wakes.each_cpu.tasks_come_and_go_on_each_cpu.Given as goal

abbrev pub ghosts-come_and_go : goal.ghosts-come_and_go
ghosts-come_and_go g a = record { kit = a.kit }
