use Rattle.std.proofs.Common.{ℕ, ap, ◌∙◌}
use Rattle.std.specs.Prelude.{Option, is_none}
use Rattle.eevdf_steps.specs.{Counters.unfinished, Players.Player}
use Rattle.eevdf_steps.proofs.Ready.{none_ready}
use Rattle.eevdf_steps.proofs.player.Player.ready.Goals as goal

pub returns-clause-none : goal.returns-clause-none
returns-clause-none c =
    ap (λ (o : Option ℕ). is_none o) c.ready.ensures
    ∙ none_ready c.self.inside.callers.plan c.self.inside.callers.counters c.keeps.ensures.sound c.keeps.ensures.each
    ∙ ap (λ (a : Player). is_none (unfinished a.plan a.state.progress.counters)) c.self.view_is
