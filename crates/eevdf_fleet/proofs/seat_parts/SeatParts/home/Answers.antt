use Rattle.std.proofs.Common.{◌≡◌, ℕ, List, length, arith}
use Rattle.std.proofs.lemmas.Bool.{ltb-true}
use Rattle.eevdf_ops.specs.Setup.{home_of, homes_of}
use Rattle.eevdf_fleet.specs.Fleets.{setup_of}
use Rattle.eevdf_fleet.proofs.seat_parts.SeatParts.home.Goals as goal

pub returns-clause-home : goal.returns-clause-home
returns-clause-home g c = let homes_are : c.self.inside.homes.items ≡ homes_of (setup_of g.N.Names.kit) = c.self.invariant.1 in cc

pub returns-clause-below : goal.returns-clause-below
returns-clause-below g c =
    let homes : List ℕ = homes_of (setup_of g.N.Names.kit) in
    let homes_are : c.self.inside.homes.items ≡ homes = c.self.invariant.1 in
    let home : c.index.result ≡ home_of homes c.args.task = cc in
    omega (arith, home, c.self.invariant.2 c.args.task (ltb-true c.args.task (length homes) c.requires))
