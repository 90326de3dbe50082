use Rattle.std.proofs.Common.{rules, ◌≡◌, true, false, Some, pos, refl, SFits, to_z, w64, ap, subst, sym, ◌∙◌}
use Rattle.std.specs.FinMap.{get}
use Rattle.eevdf_queue.specs.{State.Contents, Candidate.is_running, Lag.kept_lag, Leaving.leave, Leaving.leaving, Trying.is_here}
use Rattle.eevdf_queue.proofs.Joining.{sleeper_read}
use Rattle.eevdf_c.specs.Codes.{out_of_range}
use Rattle.eevdf_c.specs.Pulls.{Outcome, is_lighter, none_comes, pull_task_by, waiting}
use Rattle.eevdf_c.proofs.Pulling.{carried_entry, comes, lag_kept, no_room, waits}
use Rattle.eevdf_c.proofs.calls.pulling.pull_waiting.Goals as goal

-- the task can't be placed
refused : (c : goal.Then-not-can_place) → none_comes c.args.to.now.state c.args.from.now.state out_of_range
    ≡ pull_task_by c.args.to.now.state c.args.from.now.state (Some c.args.task)
refused c =
    let q = c.args.to.now.state in let source = c.args.from.now.state in let e = c.in-Some.entry in
    let here : get source.runnable c.args.task ≡ Some e = search rules in
    let idle : is_running source.running c.args.task ≡ false = search rules in
    let p : Contents = leaving c.args.task (kept_lag source e) e in
    let fits : SFits w64 c.in-Some-lag_of.lag = search rules in
    let lag = lag_kept source c.args.task e c.in-Some-lag_of.lag here c.in-Some-lag_of.ensures.value in
    let brought = sleeper_read p c.in-Some-lag_of.lag c.in-Some.entry.nice c.in-Some.entry.slice fits lag refl refl in
    let light : is_lighter q p source ≡ true = search rules in
    let absent : is_here q p.task ≡ false = search rules in
    let offered = waits source c.args.task p idle (carried_entry source c.args.task e here) in
    no_room q source (waiting source c.args.task) p _ (record { is_offered = offered; is_light = light; is_absent = absent })
    brought (sym c.if-not-can_place.ensures)

-- it comes
done : (c : goal.After-get)
    → record { answer = pos c.detach.result.task; to = c.attach.new.self.state; from = leave c.args.from.now.state c.detach.result.task }
    ≡ pull_task_by c.args.to.now.state c.args.from.now.state (Some c.args.task)
done c =
    let q = c.args.to.now.state in let source = c.args.from.now.state in let e = c.in-Some.entry in
    let here : get source.runnable c.args.task ≡ Some e = search rules in
    let idle : is_running source.running c.args.task ≡ false = search rules in
    let p : Contents = leaving c.args.task (kept_lag source e) e in
    let carries : Some p ≡ Some c.detach.result = sym (carried_entry source c.args.task e here) ∙ c.detach.ensures.parcel in
    let same : p ≡ c.detach.result = cc in
    let light : is_lighter q p source ≡ true = search rules in
    let absent : is_here q p.task ≡ false = search rules in
    comes q source c.attach.new.self.state (waiting source c.args.task) c.detach.result
    (record {
      is_offered = waits source c.args.task c.detach.result idle c.detach.ensures.parcel;
      is_light = subst (λ (r : Contents). is_lighter q r source ≡ true) same light;
      is_absent = subst (λ (r : Contents). is_here q r.task ≡ false) same absent;
    }) c.attach.ensures.after

pub returns-then-not-can_place-clause-answer : goal.returns-then-not-can_place-clause-answer
returns-then-not-can_place-clause-answer c = ap (λ (o : Outcome). o.answer) (refused c)

pub returns-then-not-can_place-clause-to : goal.returns-then-not-can_place-clause-to
returns-then-not-can_place-clause-to c = ap (λ (o : Outcome). o.to) (refused c)

pub returns-then-not-can_place-clause-from : goal.returns-then-not-can_place-clause-from
returns-then-not-can_place-clause-from c = ap (λ (o : Outcome). o.from) (refused c)

pub returns-clause-answer : goal.returns-clause-answer
returns-clause-answer c =
    let number : to_z w64 c.get.result ≡ pos c.detach.result.task = search rules in number ∙ ap (λ (o : Outcome). o.answer) (done c)

pub returns-clause-to : goal.returns-clause-to
returns-clause-to c = ap (λ (o : Outcome). o.to) (done c)

pub returns-clause-from : goal.returns-clause-from
returns-clause-from c =
    let left : c.detach.new.self.state ≡ leave c.args.from.now.state c.detach.result.task =
    c.detach.ensures.after ∙ ap (leave c.args.from.now.state) (sym c.detach.ensures.task) in
    left ∙ ap (λ (o : Outcome). o.from) (done c)
