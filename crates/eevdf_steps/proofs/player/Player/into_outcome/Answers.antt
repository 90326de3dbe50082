use Rattle.std.proofs.Common.{◌≡◌, ◌*◌, ℕ, List, [], length, get_or, map, ap, refl, ◌∙◌, sym, arith}
use Rattle.std.proofs.lemmas.List.{length-map}
use Rattle.eevdf_queue.specs.State.{View}
use Rattle.eevdf_ops.specs.{Machine.Machine, Programs.deeds_of, Outcome.machine_of}
use Rattle.eevdf_ops.proofs.Machines.{length-machine_of}
use Rattle.eevdf_steps.specs.{Plan.callers, Plan.pair, Players.Player, Playing.player_of, Recorded.recorded}
use Rattle.eevdf_steps.proofs.{Finished.finished_machine, Leaving.left_each, Leaving.left_over}
use Rattle.eevdf_steps.proofs.player.Player.into_outcome.Goals as goal

pub of-requires : goal.of-requires
of-requires c =
    let lists : length (map (λ l. l.items) c.into_left.result.items) ≡ callers c.self.inside.callers.plan * callers c.self.inside.callers.plan
    = left_each c.self.inside.callers c.self.inside.posts c.self.inside.found.items (recorded c.self.inside.work c.self.inside.journal)
    (player_of c.self.inside.callers c.self.inside.posts c.self.inside.found.items (recorded c.self.inside.work c.self.inside.journal)) _ refl c.self.invariant c.into_left.ensures in
    let left : c.into_left.result.len ≡ callers c.self.inside.callers.plan * callers c.self.inside.callers.plan
    = omega (arith, c.into_left.result.ok.0, length-map c.into_left.result.items (λ l. l.items), lists) in
    let machine : length (machine_of c.into_queues.result.items) ≡ length c.self.inside.work.machine
    = ap (λ (m : Machine). length m) c.into_queues.ensures in
    let queues : c.into_queues.result.len ≡ callers c.self.inside.callers.plan
    = omega (arith, c.into_queues.result.ok.0, length-machine_of c.into_queues.result.items, machine, c.self.invariant.work.queues) in
    left ∙ ap (λ (n : ℕ). n * n) (sym queues)

pub returns-clause-outcome : goal.returns-clause-outcome
returns-clause-outcome c = record {
  lines = c.of.ensures.lines ∙ c.into_lines.ensures ∙ ap (λ (a : Player). a.state.lines) c.self.view_is;
  machine = ap (λ (qs : List View). machine_of qs) c.of.ensures.queues ∙ c.into_queues.ensures ∙ ap (λ (a : Player). a.state.work.machine) c.self.view_is;
  each = ap (λ (ls : List (List ℕ)). length ls) c.of.ensures.left
      ∙ left_each c.self.inside.callers c.self.inside.posts c.self.inside.found.items (recorded c.self.inside.work c.self.inside.journal) c.args.self _ c.self.view_is c.self.invariant c.into_left.ensures;
  left_over = λ q h i j.
      ap (λ (ls : List (List ℕ)). get_or ls (pair c.args.self.plan q h) []) c.of.ensures.left
      ∙ left_over c.self.inside.callers c.self.inside.posts c.self.inside.found.items (recorded c.self.inside.work c.self.inside.journal) c.args.self _ c.self.view_is c.self.invariant c.into_left.ensures q h i j;
}

pub returns-clause-history : goal.returns-clause-history
returns-clause-history c = λ done.
    let lines : c.of.result.lines ≡ c.args.self.state.lines
    = c.of.ensures.lines ∙ c.into_lines.ensures ∙ ap (λ (a : Player). a.state.lines) c.self.view_is in
    let machine : machine_of c.of.result.queues ≡ c.args.self.state.work.machine
    = ap (λ (qs : List View). machine_of qs) c.of.ensures.queues ∙ c.into_queues.ensures ∙ ap (λ (a : Player). a.state.work.machine) c.self.view_is in
    record {
      deeds_are = ap deeds_of lines;
      lines = lines ∙ c.keeps.ensures.serial.history;
      machine = machine ∙ finished_machine c.args.self.plan c.args.self.state.progress.counters c.args.self.state.work c.args.self.state.lines
          c.keeps.ensures.sound c.keeps.ensures.each c.keeps.ensures.work.queues c.keeps.ensures.serial done;
    }
