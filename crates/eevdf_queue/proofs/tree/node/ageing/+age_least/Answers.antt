use Rattle.std.proofs.Common.{◌≡◌, ◌∙◌, ◌∷◌, ◌++◌, ℕ, Some, ap, sym, subst, refl, arith}
use Rattle.std.specs.Option.{option_map}
use Rattle.eevdf_queue.specs.{declared.entry.Entry.Entry, TaskLists.find_task, TaskLists.set_entry, TreeShape.tasks_in, TreeNodes.tasks_of, TreeLeast.least_of}
use Rattle.eevdf_queue.proofs.{TreeLeasts.least-node, TreeSearch.over_else, TreeSearch.of_key}
use Rattle.eevdf_queue.proofs.TreeSides.{below_left, below_right, found_here, entry_set}
use Rattle.eevdf_queue.proofs.TreeAge.{aged_to, aged_task, IsSameHigh, still_high}
use Rattle.eevdf_queue.proofs.tree.node.ageing.+age_least.Goals as goal
use Rattle.eevdf_queue.proofs.tree.node.ageing.+age_least.Goals.{After-look_around, then-is_of, else-is_of+then-is_under, else-is_of+else-is_under}

pub age_least-left-requires : goal.age_least-left-requires
age_least-left-requires t c =
    let e : tasks_in c.args.link.now ≡ tasks_of c.node.inside.parts = cc in
    let b = below_left c.args.key c.node.inside.parts _ e c.requires (sym c.is_under.ensures ∙ c.if-is_under.true) in
    (omega (arith, b.fewer), b.holds)

pub age_least-right-requires : goal.age_least-right-requires
age_least-right-requires t c =
    let e : tasks_in c.args.link.now ≡ tasks_of c.node.inside.parts = cc in
    let b = below_right c.args.key c.node.inside.parts _ e c.requires (over_else c.args.key c.node.inside.parts.task (sym c.is_of.ensures ∙ c.if-is_of.false) (sym c.is_under.ensures ∙ c.if-is_under.false)) in
    (omega (arith, b.fewer), b.holds)

-- the tasks of the node with the entry exchanged
changed : (t : ℕ) (c : After-look_around t) (x : Entry) → option_map (aged_to c.args.runtimes.newer) (find_task c.args.key.number (tasks_in c.args.link.now)) ≡ Some x
    → tasks_of c.if-is_of.node-inside.parts ≡ set_entry c.args.key.number x (tasks_in c.args.link.now)
changed t c x h =
    let e : tasks_in c.args.link.now ≡ tasks_of c.node.inside.parts = cc in
    let s = entry_set x c.args.key c.node.inside.parts _ e c.requires in
    elim c.if-is_of.branch [
      | else-is_of+then-is_under w ↦
          let p = sym w.is_under.ensures ∙ w.if-is_under.true in
          let b = below_left c.args.key c.node.inside.parts _ e c.requires p in
          ap (λ z. tasks_of z.parts) w.node-inside-is ∙ s.left p _ (w.age_least-left.ensures.tasks x (ap (option_map (aged_to c.args.runtimes.newer)) (sym b.found) ∙ h))
      | else-is_of+else-is_under w ↦
          let p = over_else c.args.key c.node.inside.parts.task (sym c.is_of.ensures ∙ w.if-is_of.false) (sym w.is_under.ensures ∙ w.if-is_under.false) in
          let b = below_right c.args.key c.node.inside.parts _ e c.requires p in
          ap (λ z. tasks_of z.parts) w.node-inside-is ∙ s.right p _ (w.age_least-right.ensures.tasks x (ap (option_map (aged_to c.args.runtimes.newer)) (sym b.found) ∙ h))
      | then-is_of w ↦
          let g = of_key c.args.key c.node.inside.parts.task (sym c.is_of.ensures ∙ w.if-is_of.true) in
          let f = found_here c.args.key c.node.inside.parts _ e c.requires g in
          ap (λ z. tasks_of z.parts) w.node-inside-is
          ∙ ap (λ z. tasks_in c.node.inside.parts.sides.left ++ z ∷ tasks_in c.node.inside.parts.sides.right)
          (w.set_runtime.ensures ∙ aged_task c.args.runtimes.newer c.node.inside.parts.task (find_task c.args.key.number (tasks_in c.args.link.now)) x f h)
          ∙ s.here g
    ]

-- the least virtual runtime that the node gets
renewed : (t : ℕ) (c : After-look_around t) → c.if-is_of.renewed ≡ least_of (tasks_of c.if-is_of.node-inside.parts)
renewed t c =
    elim c.if-is_of.branch [
      | else-is_of+then-is_under w ↦
          w.renewed-is
          ∙ least-node w.or.result w.age_least-left.result w.with_below-then-is_under.result w.of-then-is_under.result (least_of (tasks_in c.node.inside.parts.sides.right)) (tasks_in w.age_least-left.new.link) c.node.inside.parts.task (tasks_in c.node.inside.parts.sides.right)
          w.or.ensures w.with_below-then-is_under.ensures.behind w.age_least-left.ensures.least w.of-then-is_under.ensures.value refl
          ∙ ap (λ z. least_of (tasks_of z.parts)) (sym w.node-inside-is)
      | else-is_of+else-is_under w ↦
          w.renewed-is
          ∙ least-node w.with_below-else-is_under.result (least_of (tasks_in c.node.inside.parts.sides.left)) w.or-else-is_under.result w.of-else-is_under.result w.age_least-right.result (tasks_in c.node.inside.parts.sides.left) c.node.inside.parts.task (tasks_in w.age_least-right.new.link)
          w.with_below-else-is_under.ensures.before w.or-else-is_under.ensures refl w.of-else-is_under.ensures.value w.age_least-right.ensures.least
          ∙ ap (λ z. least_of (tasks_of z.parts)) (sym w.node-inside-is)
      | then-is_of w ↦
          w.renewed-is
          ∙ least-node w.with_below-renewed.result (least_of (tasks_in c.node.inside.parts.sides.left)) w.with_below.result w.of.result (least_of (tasks_in c.node.inside.parts.sides.right)) (tasks_in c.node.inside.parts.sides.left) w.set_runtime.new.task (tasks_in c.node.inside.parts.sides.right)
          w.with_below-renewed.ensures.before w.with_below.ensures.behind refl w.of.ensures.value refl
          ∙ ap (λ z. least_of (tasks_of z.parts)) (sym w.node-inside-is)
    ]

pub invariant_of-node : goal.invariant_of-node
invariant_of-node t c =
    let h : IsSameHigh c.node.inside c.if-is_of.node-inside =
    elim c.if-is_of.branch [
      | else-is_of+then-is_under w ↦ subst (IsSameHigh c.node.inside) (sym w.node-inside-is) (record { height = refl; left = w.age_least-left.ensures.height; right = refl })
      | else-is_of+else-is_under w ↦ subst (IsSameHigh c.node.inside) (sym w.node-inside-is) (record { height = refl; left = refl; right = w.age_least-right.ensures.height })
      | then-is_of w ↦ subst (IsSameHigh c.node.inside) (sym w.node-inside-is) (record { height = refl; left = refl; right = refl })
    ] in
    still_high c.node.inside (record c.if-is_of.node-inside { kept = record c.if-is_of.node-inside.kept { least = c.if-is_of.renewed } }) c.node.invariant (record { height = h.height; left = h.left; right = h.right })
    (renewed t (goal.at.invariant_of-node t c).After-look_around) c.look_around.ensures.low c.look_around.ensures.full c.look_around.ensures.bounded

pub returns-clause-tasks : goal.returns-clause-tasks
returns-clause-tasks t c = λ x h. changed t (goal.at.returns-clause-tasks t c).After-look_around x h

pub returns-clause-least : goal.returns-clause-least
returns-clause-least t c = renewed t (goal.at.returns-clause-least t c).After-look_around
