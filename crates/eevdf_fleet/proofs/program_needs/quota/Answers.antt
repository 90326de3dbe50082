use Rattle.std.proofs.Common.{ap, arith, ◌∙◌}
use Rattle.eevdf_fleet.specs.ProgramRuns.{program_room}
use Rattle.eevdf_ops.specs.Setup.{cpus_of}
use Rattle.eevdf_fleet.proofs.ProgramRooms.{larger, read-greatest, read-short}
use Rattle.eevdf_fleet.proofs.program_needs.quota.Goals as goal

pub room_of-requires-clause-few : goal.room_of-requires-clause-few
room_of-requires-clause-few c =
    read-short c.args.setup.now c.loop-cpu.cpu _ _ c.cpus.ensures.sound c.program.ensures c.numbered.ensures (omega arith)

pub loop-cpu-preserved : goal.loop-cpu-preserved
loop-cpu-preserved c =
    let short = read-short c.args.setup.now c.loop-cpu.cpu _ _ c.cpus.ensures.sound c.program.ensures c.numbered.ensures (omega arith) in
    record {
      quota = read-greatest (program_room (cpus_of c.args.setup.now)) c.args.setup.now c.loop-cpu.cpu _ _ _ _ _ c.program.ensures c.numbered.ensures (omega arith) c.loop-cpu.invariant.quota
          (c.room_of.ensures.room ∙ ap (λ n. program_room n c.program.result.now) c.cpus.ensures.cpus) c.max-quota.ensures;
      within = omega (arith, c.max-quota.ensures, larger c.loop-cpu.quota c.room_of.result);
    }
