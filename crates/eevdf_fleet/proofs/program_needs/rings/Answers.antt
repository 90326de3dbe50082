use Rattle.std.proofs.Common.{arith}
use Rattle.eevdf_fleet.specs.ProgramRuns.{program_posts}
use Rattle.eevdf_fleet.proofs.ProgramRooms.{larger, read-greatest, read-short}
use Rattle.eevdf_fleet.proofs.program_needs.rings.Goals as goal

pub loop-cpu-preserved : goal.loop-cpu-preserved
loop-cpu-preserved c =
    let short = read-short c.args.setup.now c.loop-cpu.cpu _ _ c.cpus-cpu-end.ensures.sound c.program.ensures c.numbered.ensures (omega arith) in
    record {
      rings = read-greatest program_posts c.args.setup.now c.loop-cpu.cpu _ _ _ _ _ c.program.ensures c.numbered.ensures (omega arith) c.loop-cpu.invariant.rings
          c.posts_of.ensures.posts c.max-rings.ensures;
      within = omega (arith, c.max-rings.ensures, larger c.loop-cpu.rings c.posts_of.result);
    }
