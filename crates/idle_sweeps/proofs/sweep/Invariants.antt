use Rattle.idle_sweeps.proofs.sweep.Given as goal

abbrev pub ghosts-sweep_on : goal.ghosts-sweep_on
ghosts-sweep_on g a = record { kit = a.kit }
