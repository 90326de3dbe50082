use denote.Param.Send.{sendable}
use Rattle.std.proofs.Common.{◌≡◌, ℕ, List, ap, subst, sym, ◌∙◌}
use Rattle.std.specs.Prelude.{Some, slice_get, vec_len}
use Rattle.eevdf_ops.proofs.setup.Setup.TheSendSync as setup
use Rattle.eevdf_ops.specs.{Followed.FollowsPrograms, Followed.program_of, OwnRequests.TakesOwnRequests, Setup.Setup, Setup.cpus_of}
use Rattle.eevdf_fleet.specs.{Fleets.AreSeats, Fleets.Seat, Fleets.capacity_of, Fleets.fresh, Fleets.quota_of, Fleets.setup_of, ProgramRuns.AreRun, ProgramRuns.HasRun, SeatWorks.AreDone}
use Rattle.eevdf_fleet.proofs.Crossing.{fleet_sync, seat_send}
use Rattle.eevdf_fleet.proofs.ProgramSeats.{done-run, runs-follow, runs-take-own}
use Rattle.eevdf_fleet.proofs.SeatLists.{by-places-at, fresh-counted, done-seats}
use Rattle.eevdf_fleet.proofs.program_threads.run_on_fleet.Goals as goal
use Rattle.eevdf_fleet.proofs.program_threads.run_on_fleet.Goals.{After-run_seats}

pub run_seats-requires-sync-W : goal.run_seats-requires-sync-W
run_seats-requires-sync-W g c κs within = let gates = c.type_bounds.sync-G in search (fleet_sync, setup.the_sync, sendable) depth 20

pub run_seats-requires-send-S : goal.run_seats-requires-send-S
run_seats-requires-send-S g c κs within = search (seat_send, sendable) depth 20

-- as many seats as there are CPUs
count : (g : _) (c : After-run_seats g) → vec_len c.in_ok-fleet.seats ≡ cpus_of (setup_of g.N.Names.kit)
count g c = fresh-counted _ _ _ _ c.in_ok-fleet.seats.ok.0 c.in_ok-fleet.ensures

-- on each CPU's seat its program was run
run : (g : _) (c : After-run_seats g) (seats : List Seat) → AreDone (vec_len c.in_ok-fleet.seats) (λ cpu seat. HasRun (setup_of g.N.Names.kit) cpu (program_of (setup_of g.N.Names.kit) cpu) seat) seats
    → AreRun (setup_of g.N.Names.kit) seats
run g c seats done =
    let s = setup_of g.N.Names.kit in
    done-run s seats (subst (λ (n : ℕ). AreDone n (λ cpu seat. HasRun s cpu (program_of s cpu) seat) seats) (count g c) done)

pub run_seats-requires-after_bounds : goal.run_seats-requires-after_bounds
run_seats-requires-after_bounds g c = λ κs within k seat at.
    let kit = g.N.Names.kit in
    let same : setup_of kit ≡ c.args.setup.now = ap setup_of (sym c.requires.kit) ∙ c.requires.setup in (
      same,
      ap quota_of (sym c.requires.kit) ∙ c.requires.quota,
      ap capacity_of (sym c.requires.kit) ∙ c.requires.rings,
      by-places-at (fresh (quota_of kit) (cpus_of (setup_of kit))) (cpus_of (setup_of kit)) k seat (subst (λ xs. slice_get xs k ≡ Some seat) c.in_ok-fleet.ensures at),
    )

pub close-requires : goal.close-requires
close-requires g c =
    let at : After-run_seats g = (goal.at.close-requires g c).After-run_seats in
    subst (λ (n : ℕ). AreSeats n c.in_ok-seats.seats.items) (count g at) (done-seats _ _ c.in_ok-seats.seats.items (λ cpu seat done. done.own) c.in_ok-seats.ensures)

pub returns-clause-programs : goal.returns-clause-programs
returns-clause-programs g c =
    let s = setup_of g.N.Names.kit in let seats = c.in_ok-seats.seats.items in
    let same : c.args.setup.now ≡ s = sym c.requires.setup ∙ ap setup_of c.requires.kit in
    subst (λ (t : Setup). FollowsPrograms t c.close.result) (sym same)
    (runs-follow s seats c.close.result (run g (goal.at.returns-clause-programs g c).After-run_seats seats c.in_ok-seats.ensures) c.close.ensures.allowed c.close.ensures.logs c.close.ensures.posts c.close.ensures.left)

pub returns-clause-own : goal.returns-clause-own
returns-clause-own g c =
    let s = setup_of g.N.Names.kit in let seats = c.in_ok-seats.seats.items in
    let same : c.args.setup.now ≡ s = sym c.requires.setup ∙ ap setup_of c.requires.kit in
    subst (λ (t : Setup). TakesOwnRequests t c.close.result) (sym same)
    (runs-take-own s seats c.close.result (run g (goal.at.returns-clause-own g c).After-run_seats seats c.in_ok-seats.ensures) c.close.ensures.allowed c.close.ensures.logs)
