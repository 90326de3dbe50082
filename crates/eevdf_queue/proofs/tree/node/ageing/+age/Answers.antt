use Rattle.std.proofs.Common.{◌≡◌, ◌∙◌, ◌∷◌, ◌++◌, ℕ, Option, Some, ap, sym, subst, refl, arith}
use Rattle.std.specs.{Prelude.◌≤ℤ◌, Prelude.◌<ℤ◌, Prelude.IfSome, Option.option_map}
use Rattle.eevdf_queue.specs.{declared.entry.Entry.Entry, declared.task.Task.Task, TaskLists.find_task, TaskLists.set_entry, TreeShape.tasks_in, TreeNodes.tasks_of, TreeLeast.least_of}
use Rattle.eevdf_queue.proofs.{TreeLeasts.least-set, TreeSearch.over_else, TreeSearch.of_key}
use Rattle.eevdf_queue.proofs.TreeSides.{below_left, below_right, found_here, entry_set}
use Rattle.eevdf_queue.proofs.TreeAge.{aged_to, aged_task, aged_entry, IsSameHigh, still_high}
use Rattle.eevdf_queue.proofs.tree.node.ageing.+age.Goals as goal
use Rattle.eevdf_queue.proofs.tree.node.ageing.+age.Goals.{After-look_around, then-is_of, else-is_of+then-is_under, else-is_of+else-is_under}

pub age-requires : goal.age-requires
age-requires t c =
    let e : tasks_in c.args.link.now ≡ tasks_of c.node.inside.parts = cc in
    let b = below_left c.args.key c.node.inside.parts _ e c.requires.holds (sym c.is_under.ensures ∙ c.if-is_under.true) in
    (omega (arith, b.fewer), (b.holds, (subst (λ (o : Option Task). IfSome o (λ u. c.args.runtimes.older ≤ℤ u.entry.v)) b.found c.requires.above, c.requires.later)))

pub age-requires-else-is_under : goal.age-requires-else-is_under
age-requires-else-is_under t c =
    let e : tasks_in c.args.link.now ≡ tasks_of c.node.inside.parts = cc in
    let b = below_right c.args.key c.node.inside.parts _ e c.requires.holds (over_else c.args.key c.node.inside.parts.task (sym c.is_of.ensures ∙ c.if-is_of.false) (sym c.is_under.ensures ∙ c.if-is_under.false)) in
    (omega (arith, b.fewer), (b.holds, (subst (λ (o : Option Task). IfSome o (λ u. c.args.runtimes.older ≤ℤ u.entry.v)) b.found c.requires.above, c.requires.later)))

-- the tasks of the node with the entry exchanged
changed : (t : ℕ) (c : After-look_around t) (x : Entry) → option_map (aged_to c.args.runtimes.newer) (find_task c.args.key.number (tasks_in c.args.link.now)) ≡ Some x
    → tasks_of c.if-is_of.node-inside.parts ≡ set_entry c.args.key.number x (tasks_in c.args.link.now)
changed t c x h =
    let e : tasks_in c.args.link.now ≡ tasks_of c.node.inside.parts = cc in
    let s = entry_set x c.args.key c.node.inside.parts _ e c.requires.holds in
    elim c.if-is_of.branch [
      | else-is_of+then-is_under w ↦
          let p = sym w.is_under.ensures ∙ w.if-is_under.true in
          let b = below_left c.args.key c.node.inside.parts _ e c.requires.holds p in
          ap (λ z. tasks_of z.parts) w.node-inside-is ∙ s.left p _ (w.age.ensures.tasks x (ap (option_map (aged_to c.args.runtimes.newer)) (sym b.found) ∙ h))
      | else-is_of+else-is_under w ↦
          let p = over_else c.args.key c.node.inside.parts.task (sym c.is_of.ensures ∙ w.if-is_of.false) (sym w.is_under.ensures ∙ w.if-is_under.false) in
          let b = below_right c.args.key c.node.inside.parts _ e c.requires.holds p in
          ap (λ z. tasks_of z.parts) w.node-inside-is ∙ s.right p _ (w.age-else-is_under.ensures.tasks x (ap (option_map (aged_to c.args.runtimes.newer)) (sym b.found) ∙ h))
      | then-is_of w ↦
          let g = of_key c.args.key c.node.inside.parts.task (sym c.is_of.ensures ∙ w.if-is_of.true) in
          let f = found_here c.args.key c.node.inside.parts _ e c.requires.holds g in
          ap (λ z. tasks_of z.parts) w.node-inside-is
          ∙ ap (λ z. tasks_in c.node.inside.parts.sides.left ++ z ∷ tasks_in c.node.inside.parts.sides.right)
          (w.set_runtime.ensures ∙ aged_task c.args.runtimes.newer c.node.inside.parts.task (find_task c.args.key.number (tasks_in c.args.link.now)) x f h)
          ∙ s.here g
    ]

pub invariant_of-node : goal.invariant_of-node
invariant_of-node t c =
    let a = (goal.at.invariant_of-node t c).After-look_around in
    let e : tasks_in c.args.link.now ≡ tasks_of c.node.inside.parts = cc in
    let h : IsSameHigh c.node.inside c.if-is_of.node-inside =
    elim c.if-is_of.branch [
      | else-is_of+then-is_under w ↦ subst (IsSameHigh c.node.inside) (sym w.node-inside-is) (record { height = refl; left = w.age.ensures.height; right = refl })
      | else-is_of+else-is_under w ↦ subst (IsSameHigh c.node.inside) (sym w.node-inside-is) (record { height = refl; left = refl; right = w.age-else-is_under.ensures.height })
      | then-is_of w ↦ subst (IsSameHigh c.node.inside) (sym w.node-inside-is) (record { height = refl; left = refl; right = refl })
    ] in
    let k : c.if-is_of.node-inside.kept.least ≡ c.node.inside.kept.least = elim c.if-is_of.branch [
      | else-is_of+then-is_under w ↦ ap (λ z. z.kept.least) w.node-inside-is
      | else-is_of+else-is_under w ↦ ap (λ z. z.kept.least) w.node-inside-is
      | then-is_of w ↦ ap (λ z. z.kept.least) w.node-inside-is
    ] in
    let x = aged_entry c.args.runtimes.newer (find_task c.args.key.number (tasks_in c.args.link.now)) c.requires.holds.here in
    let least = least-set c.args.key.number c.args.runtimes.older x.0 c.node.inside.kept.least (tasks_in c.args.link.now) (tasks_of c.if-is_of.node-inside.parts)
    (c.node.invariant.least ∙ ap least_of (sym e)) c.requires.above (subst (λ z. c.args.runtimes.older ≤ℤ z) (sym x.1.1) c.requires.later) (subst (λ z. c.node.inside.kept.least.runtime <ℤ z) c.floor.ensures (c.is_below.ensures c.if-not-is_below.false)) (changed t a x.0 x.1.0) in
    still_high c.node.inside c.if-is_of.node-inside c.node.invariant h (k ∙ least) c.look_around.ensures.low c.look_around.ensures.full c.look_around.ensures.bounded

pub returns-clause-tasks : goal.returns-clause-tasks
returns-clause-tasks t c = λ x h. changed t (goal.at.returns-clause-tasks t c).After-look_around x h
