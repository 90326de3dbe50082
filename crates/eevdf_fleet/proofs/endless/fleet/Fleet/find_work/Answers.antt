use Rattle.std.proofs.Common.{◌≢◌, ℕ, subst, arith}
use Rattle.eevdf_ops.specs.{declared.deeds.Answer.Answer, declared.deeds.Deed.TheVariants.Pull, Setup.cpus_of}
use Rattle.eevdf_fleet.specs.Endless.{HasDone, HasSeen, Seat}
use Rattle.eevdf_fleet.specs.Fleets.{setup_of}
use Rattle.eevdf_fleet.specs.Sweeps.{ComesAfter}
use Rattle.eevdf_fleet.proofs.EndlessSeats.{has-seen}
use Rattle.eevdf_fleet.proofs.NoneCrowded.{none-crowded}
use Rattle.eevdf_fleet.proofs.EndlessSweeps.{trying-begins, trying-ends, trying-finds, trying-goes-on}
use Rattle.eevdf_fleet.proofs.endless.fleet.Fleet.find_work.Goals as goal

pub loop-steps-init : goal.loop-steps-init
loop-steps-init g c = record {
  some = omega arith;
  trying = trying-begins (setup_of g.N.Names.kit) c.args.seat.now
      (subst (λ (s : Seat). HasSeen (setup_of g.N.Names.kit) s) c.seat.view_is (has-seen g.N.Names.kit.terms c.seat.inside.parts c.know.ensures));
}

pub loop-steps-preserved : goal.loop-steps-preserved
loop-steps-preserved g c = record {
  some = omega arith;
  trying = trying-goes-on (setup_of g.N.Names.kit) c.loop-steps.steps c.cpu_after-source.result c.pull.result c.args.seat.now c.loop-steps.seat c.pull.new.seat
      c.loop-steps.invariant.trying c.pull.ensures c.in_default.not-Pulled
      (subst (λ (cpu : ℕ). ComesAfter (cpus_of (setup_of g.N.Names.kit)) cpu c.loop-steps.steps c.cpu_after-source.result) c.cpu-cpu.ensures.cpu c.cpu_after-source.ensures.after);
}

pub returns-in-Pulled-clause-swept : goal.returns-in-Pulled-clause-swept
returns-in-Pulled-clause-swept g c =
    let s = setup_of g.N.Names.kit in
    let source = c.cpu_after-source.result in
    trying-finds s c.loop-steps.steps source c.in-Pulled.task c.args.seat.now c.loop-steps.seat c.pull.new.seat c.loop-steps.invariant.trying
    (subst (λ (a : Answer). HasDone s (Pull c.loop-steps.seat.cpu source) a c.loop-steps.seat c.pull.new.seat) c.in-Pulled.is c.pull.ensures)
    (subst (λ (cpu : ℕ). ComesAfter (cpus_of s) cpu c.loop-steps.steps source) c.cpu-cpu.ensures.cpu c.cpu_after-source.ensures.after)
    (subst (λ (cpu : ℕ). source ≢ cpu) c.cpu-cpu.ensures.cpu c.cpu_after-source.ensures.other)

pub returns-clause-swept : goal.returns-clause-swept
returns-clause-swept g c =
    trying-ends (setup_of g.N.Names.kit) c.loop-steps.steps c.args.seat.now c.loop-steps.seat c.loop-steps.invariant.trying
    (omega (arith, c.cpu-cpu.ensures.cpu, c.cpu-cpu.ensures.below)) (omega (arith, c.loop-steps-test.false, c.cpus-steps-end.ensures))

pub returns-clause-idle : goal.returns-clause-idle
returns-clause-idle g c =
    none-crowded (setup_of g.N.Names.kit) c.args.seat.now c.loop-steps.seat (returns-clause-swept g c)
