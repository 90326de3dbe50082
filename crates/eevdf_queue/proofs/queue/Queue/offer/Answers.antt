use Rattle.std.proofs.Common.{◌≡◌, ◌∙◌, ℕ, Option, Some, None, ap}
use Rattle.std.specs.{Option.option_map, FinMap.entries, FinMap.get}
use Rattle.eevdf_queue.specs.{declared.entry.Entry.Entry, State.View, Candidate.latest_waiting, TreeTasks.numbered_entry}
use Rattle.eevdf_queue.proofs.{Bounds.range_v, Offering.found_here, Waiting.candidate_last, Waiting.candidate_none, Waiting.candidate_waits}
use Rattle.eevdf_queue.proofs.queue.Queue.offer.Goals as goal
use Rattle.eevdf_queue.proofs.queue.Queue.offer.Goals.{In-Some}

abbrev latest : View → Option (ℕ × Entry)
latest w = latest_waiting w.state.running (entries w.state.runnable)

abbrev number_of : Option (ℕ × Entry) → Option ℕ
number_of = option_map (λ (a : ℕ × Entry). a.0)

-- the task that was found is the latest, as the state of the queue is seen
found : (c : In-Some) → Some (numbered_entry c.in-Some.task.now) ≡ latest c.args.self.now
found c = c.in-Some.ensures ∙ ap latest c.self.view_is

inside_here : (c : In-Some) → get c.self.inside.runnable.tasks c.in-Some.task.now.number ≡ Some c.in-Some.task.now.entry
inside_here c =
    ap (λ (w : View). get w.state.runnable c.in-Some.task.now.number) c.self.view_is
    ∙ found_here c.args.self.now.state c.in-Some.task.now.number c.in-Some.task.now.entry (found c)

pub invariant_of-result : goal.invariant_of-result
invariant_of-result c =
    range_v c.in-Some.task.now.entry (c.keeps.ensures c.in-Some.task.now.number c.in-Some.task.now.entry (inside_here c)).1

pub returns-in-Some-clause-last : goal.returns-in-Some-clause-last
returns-in-Some-clause-last c =
    candidate_last c.args.self.now.state.runnable c.args.self.now.state.running (Some c.in-Some.task.now.number) (ap number_of (found c))

pub returns-in-Some-clause-waiting : goal.returns-in-Some-clause-waiting
returns-in-Some-clause-waiting c =
    candidate_waits c.args.self.now.state.runnable c.args.self.now.state.running (Some c.in-Some.task.now.number) (ap number_of (found c))

pub returns-in-Some-clause-none : goal.returns-in-Some-clause-none
returns-in-Some-clause-none c =
    candidate_none c.args.self.now.state.runnable c.args.self.now.state.running (Some c.in-Some.task.now.number) (ap number_of (found c))

pub returns-in-None-clause-none : goal.returns-in-None-clause-none
returns-in-None-clause-none c =
    candidate_none c.args.self.now.state.runnable c.args.self.now.state.running None (ap number_of (c.in-None.ensures ∙ ap latest c.self.view_is))
