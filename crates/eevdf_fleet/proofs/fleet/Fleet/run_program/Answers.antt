use Rattle.std.proofs.Common.{◌≡◌, ◌≢◌, ◌<◌, ℕ, List, [], length, sym, ap, subst, ◌∙◌, arith, refl}
use Rattle.std.proofs.lemmas.List.{take_all}
use Rattle.std.specs.Prelude.{None}
use Rattle.eevdf_ops.specs.{declared.deeds.Op.Op, Faults.operation_fault, Followed.program_of, Programs.post_of}
use Rattle.eevdf_ops.specs.Setup.{Setup, cpus_of, homes_of}
use Rattle.eevdf_fleet.specs.Fleets.{Seat, posted_to}
use Rattle.eevdf_fleet.specs.ProgramRuns.{HasOperated, HasRun, room_for}
use Rattle.eevdf_fleet.proofs.ProgramPlaces.{StandsAt, placed-ring, placed-room, placed-sound, room-next, run-first, run-next}
use Rattle.eevdf_fleet.proofs.ProgramRooms.{program-read}
use Rattle.eevdf_fleet.proofs.fleet.Fleet.run_program.Goals as goal
use Rattle.eevdf_fleet.proofs.fleet.Fleet.run_program.Goals.{After-index-program-n}

below : (g : _) (c : After-index-program-n g) → c.cpu-cpu.result < cpus_of c.args.setup.now
below g c = subst (λ (s : Setup). c.cpu-cpu.result < cpus_of s) c.requires.setup c.cpu-cpu.ensures.below

stands : (g : _) (c : After-index-program-n g) → StandsAt c.args.setup.now c.cpu-cpu.result c.loop-n.n c.program-program.result.now c.index-program-n.result
stands g c = record {
  sound = c.cpus.ensures.sound;
  below = below g c;
  program_is = program-read c.args.setup.now c.cpu-cpu.result c.cpu-cpu.result c.program-program.result.now c.program-program.ensures refl (below g c);
  within = c.loop-n-test.true;
  found = c.index-program-n.is;
}

pub loop-n-init : goal.loop-n-init
loop-n-init g c = record {
  run = run-first c.args.setup.now c.cpu-cpu.result c.args.seat (subst (λ (s : Setup). c.cpu-cpu.result < cpus_of s) c.requires.setup c.cpu-cpu.ensures.below) c.cpu-cpu.ensures.cpu c.requires.fresh;
  room = omega (arith, ap (λ (seat : Seat). seat.room) c.requires.fresh);
}

pub run_operation-requires-clause-sound : goal.run_operation-requires-clause-sound
run_operation-requires-clause-sound g c = (
  c.loop-n.n,
  subst (λ (s : Setup). operation_fault (homes_of s) (cpus_of s) c.loop-n.seat.cpu c.loop-n.n c.index-program-n.result ≡ None) (sym c.requires.setup)
      (subst (λ (cpu : ℕ). operation_fault (homes_of c.args.setup.now) (cpus_of c.args.setup.now) cpu c.loop-n.n c.index-program-n.result ≡ None) (sym c.loop-n.invariant.run.own)
      (placed-sound c.args.setup.now c.cpu-cpu.result c.loop-n.n c.program-program.result.now c.index-program-n.result (stands g c))),
)

pub run_operation-requires-clause-room : goal.run_operation-requires-clause-room
run_operation-requires-clause-room g c =
    let charged = ap (λ (s : Setup). room_for (cpus_of s) c.index-program-n.result) c.requires.setup in
    let left = placed-room c.args.setup.now c.cpu-cpu.result c.loop-n.n c.loop-n.seat.room c.program-program.result.now c.index-program-n.result (stands g c) c.loop-n.invariant.room in
    omega arith

pub run_operation-requires-clause-ring : goal.run_operation-requires-clause-ring
run_operation-requires-clause-ring g c = λ home within some.
    subst (λ (n : ℕ). length (posted_to c.loop-n.seat home) < n) (sym c.requires.rings)
    (placed-ring c.args.setup.now c.cpu-cpu.result c.loop-n.n c.program-program.result.now c.index-program-n.result c.loop-n.seat (stands g c) c.loop-n.invariant.run home
    (subst (λ (s : Setup). home < cpus_of s) c.requires.setup within)
    (subst (λ (s : Setup). post_of (homes_of s) home c.index-program-n.result ≢ []) c.requires.setup some))

pub loop-n-preserved : goal.loop-n-preserved
loop-n-preserved g c =
    let at : After-index-program-n g = (goal.at.loop-n-preserved g c).After-index-program-n in
    let done : HasOperated c.args.setup.now c.index-program-n.result c.loop-n.seat c.run_operation.new.seat
    = subst (λ (s : Setup). HasOperated s c.index-program-n.result c.loop-n.seat c.run_operation.new.seat) c.requires.setup c.run_operation.ensures in
    record {
      run = run-next c.args.setup.now c.cpu-cpu.result c.loop-n.n c.program-program.result.now c.index-program-n.result c.loop-n.seat c.run_operation.new.seat (stands g at) c.loop-n.invariant.run done;
      room = room-next c.args.setup.now c.cpu-cpu.result c.loop-n.n c.loop-n.seat.room c.run_operation.new.seat.room c.program-program.result.now c.index-program-n.result (stands g at)
          c.loop-n.invariant.room done.room;
    }

pub returns : goal.returns
returns g c =
    let within : c.cpu-cpu.result < cpus_of c.args.setup.now = subst (λ (s : Setup). c.cpu-cpu.result < cpus_of s) c.requires.setup c.cpu-cpu.ensures.below in
    subst (λ (cpu : ℕ). HasRun c.args.setup.now cpu (program_of c.args.setup.now cpu) c.loop-n.seat) c.cpu-cpu.ensures.cpu
    (subst (λ (ops : List Op). HasRun c.args.setup.now c.cpu-cpu.result ops c.loop-n.seat)
    (take_all c.loop-n.n c.program-program.result.now c.loop-n-test.false
    ∙ program-read c.args.setup.now c.cpu-cpu.result c.cpu-cpu.result c.program-program.result.now c.program-program.ensures refl within)
    c.loop-n.invariant.run)
