use Rattle.measures.proofs.fleet.twins.twins_report.Given as goal

abbrev pub ghosts-kept_twin : goal.ghosts-kept_twin
ghosts-kept_twin g a = record { kit = a.kit }

abbrev pub ghosts-endless_twin : goal.ghosts-endless_twin
ghosts-endless_twin g a = record { kit = a.kit }
