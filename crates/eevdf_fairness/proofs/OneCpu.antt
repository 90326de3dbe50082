-- Turns of one CPU: whatever else is done, its queue is as the turns leave it.
use Rattle.std.proofs.Common.{List, sym, ap, ◌∙◌, subst}
use Rattle.eevdf_queue.specs.State.{State}
use Rattle.eevdf_ops.specs.{declared.deeds.Deed.Deed, Machine.queue_at, PartsLaws.OthersStay}
use Rattle.eevdf_fairness.specs.{Fair.AllAreFair, Fair.TurnsAreFair, OneCpu.TurnsOfOneCpu, OneCpu.OneCpuIsFair, OneCpu.OneCpuIsFairAnywhere}
use Rattle.eevdf_fairness.specs.Anywhere.{AllAreFairPast, TurnsAreFairAnywhere}
use Rattle.eevdf_fairness.proofs.OwnDeeds.{AreOwn, own_after, turns_own, turns_alone, has_gone}

pub turns_of_one_cpu : OthersStay → TurnsOfOneCpu
turns_of_one_cpu stay homes m cpu deeds turns h only =
    (has_gone stay homes cpu m deeds h (subst (AreOwn cpu) (sym only) (turns_own cpu turns))).after
    ∙ ap (λ (ds : List Deed). own_after ds (queue_at m cpu)) only
    ∙ turns_alone cpu turns (queue_at m cpu)

pub one_cpu_is_fair : OthersStay → TurnsAreFair → OneCpuIsFair
one_cpu_is_fair stay fair homes m cpu deeds v ns turns h only fresh short =
    subst (λ (q : State). AllAreFair ns q.runnable)
    (sym (turns_of_one_cpu stay homes m cpu deeds turns h only)) (fair (queue_at m cpu) v ns turns fresh short)

pub one_cpu_is_fair_anywhere : OthersStay → TurnsAreFairAnywhere → OneCpuIsFairAnywhere
one_cpu_is_fair_anywhere stay fair homes m cpu deeds front ns turns h only none short =
    subst (λ (q : State). AllAreFairPast front ns q.runnable)
    (sym (turns_of_one_cpu stay homes m cpu deeds turns h only)) (fair (queue_at m cpu) front ns turns none short)
