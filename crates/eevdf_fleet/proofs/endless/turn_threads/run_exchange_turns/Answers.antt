use Rattle.eevdf_fleet.proofs.endless.turn_threads.run_exchange_turns.Goals as goal

pub returns : goal.returns
returns g c = c.run_on_fleet.ensures
