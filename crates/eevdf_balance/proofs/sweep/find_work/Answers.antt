use Rattle.std.proofs.Common.{length, sym, ap, ◌∙◌}
use Rattle.eevdf_ops.specs.Outcome.{machine_of}
use Rattle.eevdf_ops.proofs.Machines.{length-machine_of}
use Rattle.eevdf_balance.proofs.Searching.{not-there, next-turn, none-is-crowded, as-at-first, all-turns}
use Rattle.eevdf_balance.proofs.sweep.find_work.Goals as goal
use Rattle.eevdf_balance.proofs.sweep.find_work.Goals.{then-has_cpu+in_default, else-has_cpu}

pub loop-steps-preserved : goal.loop-steps-preserved
loop-steps-preserved c = elim c.if-has_cpu.branch [
  | then-has_cpu+in_default w ↦
      (let now = w.apply-answer in
      let before = c.loop-steps.invariant in
      let first = as-at-first c.loop-steps.solo.homes c.args.solo.now.homes (machine_of c.loop-steps.solo.queues) (machine_of c.args.solo.now.queues) (machine_of now.new.self.queues)
      c.args.cpu c.cpu_after-source.result now.result before.homes before.machine now.ensures.answer now.ensures.machine w.in_default.not-Pulled in
      record {
        homes = ap (λ s. s.homes) w.solo-is ∙ now.ensures.homes ∙ before.homes;
        cpus = ap (λ s. length s.queues) w.solo-is ∙ now.ensures.cpus ∙ before.cpus;
        machine = ap (λ s. machine_of s.queues) w.solo-is ∙ first.1;
        tried = next-turn c.args.solo.now.homes (machine_of c.args.solo.now.queues) c.args.cpu c.loop-steps.steps c.cpu_after-source.result c.cpu_after-source.ensures.numbered
            c.cpu_after-source.ensures.turn (λ there. first.0) before.tried;
      })
  | else-has_cpu w ↦
      (let before = c.loop-steps.invariant in
      record {
        homes = ap (λ s. s.homes) w.solo-is ∙ before.homes;
        cpus = ap (λ s. length s.queues) w.solo-is ∙ before.cpus;
        machine = ap (λ s. machine_of s.queues) w.solo-is ∙ before.machine;
        tried = next-turn c.args.solo.now.homes (machine_of c.args.solo.now.queues) c.args.cpu c.loop-steps.steps c.cpu_after-source.result c.cpu_after-source.ensures.numbered
            c.cpu_after-source.ensures.turn (λ there. absurd (not-there c.has_cpu.result c.cpu_after-source.result (length c.loop-steps.solo.queues) (length (machine_of c.args.solo.now.queues))
            w.if-has_cpu.false c.has_cpu.ensures (before.cpus ∙ sym (length-machine_of c.args.solo.now.queues)) there)) before.tried;
      })
]

pub returns-clause-idle : goal.returns-clause-idle
returns-clause-idle c =
    none-is-crowded c.args.solo.now.homes (machine_of c.args.solo.now.queues) c.args.cpu
    (all-turns c.args.solo.now.homes (machine_of c.args.solo.now.queues) c.args.cpu c.loop-steps.steps c.loop-steps-test.false c.loop-steps.invariant.tried)
