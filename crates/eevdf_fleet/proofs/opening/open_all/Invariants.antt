use Rattle.std.proofs.Common.{◌≡◌, drop, vec_len}
use Rattle.eevdf_ops.specs.{Outcome.machine_of, Setup.cpus_of}
use Rattle.eevdf_fleet.specs.{Board.IsToken, Board.claims_of, Claims.claims_from, Fleets.fresh_logs, Fleets.quota_of, Fleets.setup_of}
use Rattle.eevdf_fleet.proofs.opening.open_all.Given as goal

abbrev pub invariant-loop-number : goal.invariant-loop-number
invariant-loop-number g l =
    IsToken g.N.Names.kit.board g.N.Names.kit.terms l.opened.token
    × (claims_of l.opened.token ≡ claims_from l.number (drop l.number (machine_of l.opened.queues.items)))
    × (l.opened.logs.items ≡ fresh_logs (quota_of g.N.Names.kit) l.number)
    × (vec_len l.opened.locks ≡ l.number)
    × (vec_len l.opened.queues ≡ cpus_of (setup_of g.N.Names.kit))
    × (l.cpus ≡ cpus_of (setup_of g.N.Names.kit))
