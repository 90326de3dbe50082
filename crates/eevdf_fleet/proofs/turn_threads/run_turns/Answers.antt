use Rattle.eevdf_fleet.proofs.turn_threads.run_turns.Goals as goal

pub returns-clause-turns : goal.returns-clause-turns
returns-clause-turns g c = c.run_on_fleet.ensures.turns
