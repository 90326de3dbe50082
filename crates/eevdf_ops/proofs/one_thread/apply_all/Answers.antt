use Rattle.std.proofs.Common.{◌+◌, ℕ, List, length, drop, ap, ◌∙◌}
use Rattle.std.specs.List.{list_all}
use Rattle.eevdf_ops.proofs.Machines.{lines_step, lines_end, machine_step, machine_end, allowed_step}
use Rattle.eevdf_ops.specs.{Setup.is_allowed, Outcome.machine_of}
use Rattle.eevdf_ops.proofs.one_thread.apply_all.Goals as goal

pub apply-answer-requires : goal.apply-answer-requires
apply-answer-requires c =
    (allowed_step (is_allowed (length c.loop-deed.solo.queues) c.loop-deed.solo.homes) c.args.deeds.now c.loop-deed.deed-index c.deed-item.result c.loop-deed-test.true c.deed-item.is c.loop-deed.invariant.allowed).0

pub loop-deed-preserved : goal.loop-deed-preserved
loop-deed-preserved c = record {
  homes = c.apply-answer.ensures.homes ∙ c.loop-deed.invariant.homes;
  cpus = c.apply-answer.ensures.cpus ∙ c.loop-deed.invariant.cpus;
  allowed = ap (λ (n : ℕ). list_all (is_allowed n c.apply-answer.new.self.homes) (drop (c.loop-deed.deed-index + 1) c.args.deeds.now)) c.apply-answer.ensures.cpus
      ∙ ap (λ (hs : List ℕ). list_all (is_allowed (length c.loop-deed.solo.queues) hs) (drop (c.loop-deed.deed-index + 1) c.args.deeds.now)) c.apply-answer.ensures.homes
      ∙ (allowed_step (is_allowed (length c.loop-deed.solo.queues) c.loop-deed.solo.homes) c.args.deeds.now c.loop-deed.deed-index c.deed-item.result c.loop-deed-test.true c.deed-item.is c.loop-deed.invariant.allowed).1;
  lines = lines_step c.loop-deed.solo.homes c.apply-answer.new.self.homes (machine_of c.loop-deed.solo.queues) (machine_of c.apply-answer.new.self.queues)
      c.args.deeds.now c.loop-deed.deed-index c.deed-item.result c.apply-answer.result c.loop-deed.lines.items c.push.new.self.items _ c.loop-deed-test.true c.deed-item.is
      c.apply-answer.ensures.homes c.apply-answer.ensures.machine c.apply-answer.ensures.answer c.in_ok-push.ensures.items c.loop-deed.invariant.lines;
  machine = machine_step c.loop-deed.solo.homes c.apply-answer.new.self.homes (machine_of c.loop-deed.solo.queues) (machine_of c.apply-answer.new.self.queues) _
      c.args.deeds.now c.loop-deed.deed-index c.deed-item.result c.loop-deed-test.true c.deed-item.is c.apply-answer.ensures.homes c.apply-answer.ensures.machine c.loop-deed.invariant.machine;
}

pub returns-clause-lines : goal.returns-clause-lines
returns-clause-lines c =
    lines_end c.loop-deed.solo.homes (machine_of c.loop-deed.solo.queues) c.args.deeds.now c.loop-deed.deed-index c.loop-deed.lines.items _ c.loop-deed-test.false c.loop-deed.invariant.lines

pub returns-clause-machine : goal.returns-clause-machine
returns-clause-machine c =
    machine_end c.loop-deed.solo.homes (machine_of c.loop-deed.solo.queues) _ c.args.deeds.now c.loop-deed.deed-index c.loop-deed-test.false c.loop-deed.invariant.machine
