use Rattle.job_bench.proofs.fleet_job.fleet_run.Given as goal

abbrev pub ghosts-worked_out : goal.ghosts-worked_out
ghosts-worked_out g a = record { kit = a.kit }
