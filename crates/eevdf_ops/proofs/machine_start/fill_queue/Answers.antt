use Rattle.std.proofs.Common.{◌≡◌, ◌+◌, ◌-◌, ℕ, drop, ap, sym, subst, ◌∙◌, arith}
use Rattle.eevdf_queue.specs.{Leaving.IsNowhere, State.State}
use Rattle.eevdf_ops.specs.Machine.{begin}
use Rattle.eevdf_ops.proofs.{OwnStarts.begun, OwnStarts.begun-here, OwnStarts.begun-none}
use Rattle.eevdf_ops.proofs.Starting.{begins_well_at, absent_before}
use Rattle.eevdf_ops.proofs.machine_start.fill_queue.Goals as goal

pub loop-place-init : goal.loop-place-init
loop-place-init c =
    c.requires.empty ∙ sym (begun-none c.args.cpus c.args.cpu c.args.tasks.now _ c.requires.cpu (omega arith))

pub begin-requires-clause-in_range : goal.begin-requires-clause-in_range
begin-requires-clause-in_range c =
    (begins_well_at c.args.cpus c.args.tasks.now (c.loop-place.place - 1) c.index-tasks-place.result c.requires.well (omega arith) c.index-tasks-place.is).in_range

pub begin-requires-clause-absent : goal.begin-requires-clause-absent
begin-requires-clause-absent c =
    subst (λ (q : State). IsNowhere q c.task_number.result) (sym c.loop-place.invariant)
    (absent_before c.args.cpus c.loop-place.place (drop c.loop-place.place c.args.tasks.now) c.args.cpu c.task_number.result (omega (arith, c.task_number.ensures)))

pub loop-place-preserved-in-Continue-1 : goal.loop-place-preserved-in-Continue-1
loop-place-preserved-in-Continue-1 c =
    let k : ℕ = c.loop-place.place - 1 in
    let next : c.loop-place.place ≡ k + 1 = omega arith in
    c.in_ok-begin.ensures
    ∙ ap (λ (n : ℕ). begin n c.index-tasks-place.result c.loop-place.queue.state) c.task_number.ensures
    ∙ ap (λ (q : State). begin k c.index-tasks-place.result q) (c.loop-place.invariant ∙ ap (λ (n : ℕ). begun c.args.cpus c.args.cpu c.args.tasks.now n) next)
    ∙ sym (begun-here c.args.cpus c.args.cpu c.args.tasks.now k c.index-tasks-place.result c.requires.cpu (omega arith) c.index-tasks-place.is
    (sym c.index.ensures.number ∙ c.if-index-cpu.true))
