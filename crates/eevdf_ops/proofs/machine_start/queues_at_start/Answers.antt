use Rattle.std.proofs.Common.{◌≡◌, ◌<◌, ℕ, List, [], ◌∷◌, ◌++◌, get_or, length, replicate, take, ap, refl, sym, ◌∙◌, arith}
use Rattle.std.proofs.Math.Seq.{get_or-append_seam}
use Rattle.std.proofs.lemmas.List.{length-take-le, take_all, take_more}
use Rattle.eevdf_queue.specs.State.{View, empty_state}
use Rattle.eevdf_ops.specs.declared.task_spec.TaskSpec.{TaskSpec}
use Rattle.eevdf_ops.specs.Machine.{Machine, begin_at_homes, queue_at}
use Rattle.eevdf_ops.specs.Outcome.{machine_of}
use Rattle.eevdf_ops.proofs.{GrownLists.seen_changed, Machines.length-begun, Machines.length-machine_of, Machines.start_has}
use Rattle.eevdf_ops.proofs.machine_start.queues_at_start.Goals as goal

abbrev started : ℕ → List TaskSpec → Machine
started cpus ts = begin_at_homes 0 ts (replicate cpus empty_state)

started_so_far : (queues : List View) (cpus k : ℕ) (ts : List TaskSpec) → k < cpus → machine_of queues ≡ take k (started cpus ts) → length queues ≡ k
started_so_far queues cpus k ts h e =
    sym (length-machine_of queues) ∙ ap (λ (m : Machine). length m) e ∙ length-take-le k (started cpus ts) (omega (arith, length-begun cpus 0 ts))

pub index_mut-requires : goal.index_mut-requires
index_mut-requires c =
    let count = started_so_far c.loop-cpu.queues.items c.args.cpus c.loop-cpu.cpu c.args.tasks.now (omega arith) c.loop-cpu.invariant.0 in
    grind (arith, count, c.push_reserved.ensures.items)

pub fill_queue-requires-clause-empty : goal.fill_queue-requires-clause-empty
fill_queue-requires-clause-empty c =
    let count = started_so_far c.loop-cpu.queues.items c.args.cpus c.loop-cpu.cpu c.args.tasks.now (omega arith) c.loop-cpu.invariant.0 in
    ap (λ (q : View). q.state)
    (c.index_mut.ensures.value ∙ ap (λ (l : List View). get_or l c.loop-cpu.cpu c.index_mut.result.now) c.push_reserved.ensures.items
    ∙ ap (λ (k : ℕ). get_or (c.loop-cpu.queues.items ++ c.open.result ∷ []) k c.index_mut.result.now) (sym count)
    ∙ get_or-append_seam c.loop-cpu.queues.items c.open.result [] c.index_mut.result.now ∙ c.open.ensures)

pub loop-cpu-preserved : goal.loop-cpu-preserved
loop-cpu-preserved c =
    let m : Machine = started c.args.cpus c.args.tasks.now in
    let below : c.loop-cpu.cpu < length m = omega (arith, length-begun c.args.cpus 0 c.args.tasks.now) in (
      seen_changed (λ (q : View). q.state) c.loop-cpu.queues.items c.push_reserved.new.self.items _ c.open.result c.fill_queue.new.queue c.loop-cpu.cpu (queue_at m c.loop-cpu.cpu) (take c.loop-cpu.cpu m)
          c.push_reserved.ensures.items
          (started_so_far c.loop-cpu.queues.items c.args.cpus c.loop-cpu.cpu c.args.tasks.now (omega arith) c.loop-cpu.invariant.0)
          refl c.in_ok-fill_queue.ensures c.loop-cpu.invariant.0
          ∙ sym (take_more m c.loop-cpu.cpu empty_state below),
      omega (arith, c.loop-cpu.invariant.1, c.push_reserved.ensures.capacity),
    )

pub returns-clause-start : goal.returns-clause-start
returns-clause-start c =
    let m : Machine = started c.args.cpus c.args.tasks.now in
    c.loop-cpu.invariant.0 ∙ take_all c.loop-cpu.cpu m (omega (arith, length-begun c.args.cpus 0 c.args.tasks.now, c.loop-cpu-test.false))

pub returns-clause-cpus : goal.returns-clause-cpus
returns-clause-cpus c =
    let m : Machine = started c.args.cpus c.args.tasks.now in
    start_has c.loop-cpu.queues.items 0 c.args.cpus c.args.tasks.now
    (c.loop-cpu.invariant.0 ∙ take_all c.loop-cpu.cpu m (omega (arith, length-begun c.args.cpus 0 c.args.tasks.now, c.loop-cpu-test.false)))
