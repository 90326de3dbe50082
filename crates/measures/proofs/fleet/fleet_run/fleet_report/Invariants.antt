use Rattle.measures.proofs.fleet.fleet_run.fleet_report.Given as goal

abbrev pub ghosts-report_of : goal.ghosts-report_of
ghosts-report_of g a = record { kit = a.kit }
