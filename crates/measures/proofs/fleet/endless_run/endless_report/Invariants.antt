use Rattle.measures.proofs.fleet.endless_run.endless_report.Given as goal

abbrev pub ghosts-worked_out : goal.ghosts-worked_out
ghosts-worked_out g a = record { kit = a.kit }
