use Rattle.std.proofs.Common.{◌≡◌, ◌≢◌, ℕ, ap, subst, arith}
use Rattle.eevdf_ops.specs.{declared.deeds.Answer.Answer, declared.deeds.Deed.TheVariants.Pull, Setup.cpus_of}
use Rattle.eevdf_fleet.specs.Fleets.{Seat, logged, setup_of}
use Rattle.eevdf_fleet.specs.Sweeps.{ComesAfter, pull_line}
use Rattle.eevdf_fleet.proofs.Sweeps.{logged-as, trying-ends, trying-finds, trying-goes-on}
use Rattle.eevdf_fleet.proofs.fleet.Fleet.find_work.Goals as goal

pub returns-in-Pulled-clause-cases : goal.returns-in-Pulled-clause-cases
returns-in-Pulled-clause-cases g c =
    let source = c.cpu_after-source.result in
    let cpus = cpus_of (setup_of g.N.Names.kit) in
    trying-finds cpus c.loop-steps.steps source c.in-Pulled.task c.args.seat.now c.loop-steps.seat c.pull.new.seat c.loop-steps.invariant.trying
    (subst (λ (a : Answer). c.pull.new.seat ≡ logged c.loop-steps.seat (pull_line c.loop-steps.seat.cpu source a)) c.in-Pulled.is
    (logged-as (Pull c.loop-steps.seat.cpu source) c.unwrap.result c.loop-steps.seat c.pull.new.seat c.pull.result c.unwrap.ensures c.pull.ensures.cases))
    (subst (λ (cpu : ℕ). ComesAfter cpus cpu c.loop-steps.steps source) c.cpu-cpu.ensures.cpu c.cpu_after-source.ensures.after)
    (subst (λ (cpu : ℕ). source ≢ cpu) c.cpu-cpu.ensures.cpu c.cpu_after-source.ensures.other)

pub loop-steps-preserved : goal.loop-steps-preserved
loop-steps-preserved g c =
    let source = c.cpu_after-source.result in
    let cpus = cpus_of (setup_of g.N.Names.kit) in
    let done = logged-as (Pull c.loop-steps.seat.cpu source) c.unwrap.result c.loop-steps.seat c.pull.new.seat c.pull.result c.unwrap.ensures c.pull.ensures.cases in
    record {
      some = omega arith;
      room = omega (arith, c.loop-steps.invariant.room, ap (λ (s : Seat). s.room) done);
      trying = trying-goes-on cpus c.loop-steps.steps source c.unwrap.result c.args.seat.now c.loop-steps.seat c.pull.new.seat c.loop-steps.invariant.trying done c.in_default.not-Pulled
          (subst (λ (cpu : ℕ). ComesAfter cpus cpu c.loop-steps.steps source) c.cpu-cpu.ensures.cpu c.cpu_after-source.ensures.after);
    }

pub returns-clause-cases : goal.returns-clause-cases
returns-clause-cases g c =
    trying-ends (cpus_of (setup_of g.N.Names.kit)) c.loop-steps.steps c.args.seat.now c.loop-steps.seat c.loop-steps.invariant.trying
    (omega (arith, c.cpu-cpu.ensures.cpu, c.cpu-cpu.ensures.below)) (omega (arith, c.loop-steps-test.false, c.cpus-cpus.ensures))
