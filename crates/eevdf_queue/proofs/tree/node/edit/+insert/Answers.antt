use Rattle.std.proofs.Common.{◌≡◌, ◌^◌, ◌∙◌, true, false, ℕ, ap, sym, subst, arith}
use Rattle.eevdf_queue.specs.{TaskLists.first_task, TreeShape.tasks_in, TreeNodes.tasks_of}
use Rattle.eevdf_queue.specs.{TreeLeast.least_of, TreeLeast.AreLow, TreeTasks.precedes, TreeTasks.insert_task}
use Rattle.eevdf_queue.proofs.TreeOrder.{ordered_left, ordered_right, inserted_left, inserted_right}
use Rattle.eevdf_queue.proofs.TreeLengths.{left_shorter, right_shorter, few_inserted, more_inserted}
use Rattle.eevdf_queue.proofs.TreeLeasts.{least-inserted}
use Rattle.eevdf_queue.proofs.tree.node.edit.+insert.Goals as goal
use Rattle.eevdf_queue.proofs.tree.node.edit.+insert.Goals.{Joined-precedes, then-precedes, else-precedes}

pub insert-grown-requires : goal.insert-grown-requires
insert-grown-requires t c =
    let e : tasks_in c.args.link.now ≡ tasks_of c.root.inside.parts = cc in
    let n = left_shorter _ (tasks_in c.root.inside.parts.sides.left) c.root.inside.parts.task (tasks_in c.root.inside.parts.sides.right) e in
    (omega (arith, n), (c.requires.alone, (ordered_left (tasks_in c.args.link.now) (tasks_in c.root.inside.parts.sides.left) c.root.inside.parts.task (tasks_in c.root.inside.parts.sides.right) e c.requires.ordered, omega (arith, n, c.requires.few))))

pub insert-grown-requires-else-precedes : goal.insert-grown-requires-else-precedes
insert-grown-requires-else-precedes t c =
    let e : tasks_in c.args.link.now ≡ tasks_of c.root.inside.parts = cc in
    let n = right_shorter _ (tasks_in c.root.inside.parts.sides.left) c.root.inside.parts.task (tasks_in c.root.inside.parts.sides.right) e in
    (omega (arith, n), (c.requires.alone, (ordered_right (tasks_in c.args.link.now) (tasks_in c.root.inside.parts.sides.left) c.root.inside.parts.task (tasks_in c.root.inside.parts.sides.right) e c.requires.ordered, omega (arith, n, c.requires.few))))

-- the tasks of the node with the new one on its side
inserted : (t : ℕ) (c : Joined-precedes t) → tasks_of c.if-precedes.root-inside.parts ≡ insert_task (first_task c.args.node.value.tasks) (tasks_in c.args.link.now)
inserted t c =
    let e : tasks_in c.args.link.now ≡ tasks_of c.root.inside.parts = cc in
    elim c.if-precedes.branch [
      | then-precedes w ↦
          let p : precedes (first_task c.args.node.value.tasks) c.root.inside.parts.task ≡ true = cc in
          inserted_left (first_task c.args.node.value.tasks) _ _ _ _ _ _ e p w.insert-grown.ensures.tasks (ap (λ z. tasks_of z.parts) w.root-inside-is)
      | else-precedes w ↦
          let p : precedes (first_task c.args.node.value.tasks) c.root.inside.parts.task ≡ false = cc in
          inserted_right (first_task c.args.node.value.tasks) _ _ _ _ _ _ e p c.requires.ordered w.insert-grown-else-precedes.ensures.tasks (ap (λ z. tasks_of z.parts) w.root-inside-is)
    ]

-- and their least virtual runtime
least : (t : ℕ) (c : Joined-precedes t) → c.if-precedes.root-inside.kept.least ≡ least_of (tasks_of c.if-precedes.root-inside.parts)
least t c =
    let e : tasks_in c.args.link.now ≡ tasks_of c.root.inside.parts = cc in
    let d : c.deref-2.result.now.tasks ≡ c.args.node.value.tasks = cc in
    let k : c.if-precedes.root-inside.kept.least ≡ c.or-root-inside.result = elim c.if-precedes.branch [
      | then-precedes w ↦ ap (λ z. z.kept.least) w.root-inside-is
      | else-precedes w ↦ ap (λ z. z.kept.least) w.root-inside-is
    ] in
    least-inserted c.if-precedes.root-inside.kept.least c.root.inside.kept.least c.least.result c.args.node.value.tasks (first_task c.args.node.value.tasks) (tasks_in c.args.link.now) (tasks_of c.if-precedes.root-inside.parts)
    (k ∙ c.or-root-inside.ensures) (c.root.invariant.least ∙ ap least_of (sym e)) (c.least.ensures.value ∙ ap least_of d) c.requires.alone
    (subst AreLow (d ∙ c.requires.alone) c.least.ensures.bounded).0 (inserted t c)

pub raise-requires-clause-least : goal.raise-requires-clause-least
raise-requires-clause-least t c = least t (goal.at.raise-requires-clause-least t c).Joined-precedes

pub returns-clause-tasks : goal.returns-clause-tasks
returns-clause-tasks t c = c.raise.ensures.mended.evened.tasks ∙ inserted t (goal.at.returns-clause-tasks t c).Joined-precedes

pub raise-requires-clause-few : goal.raise-requires-clause-few
raise-requires-clause-few t c =
    few_inserted (2 ^ 20) (first_task c.args.node.value.tasks) (tasks_in c.args.link.now) (tasks_in c.if-precedes.root-inside.parts.sides.left) c.if-precedes.root-inside.parts.task (tasks_in c.if-precedes.root-inside.parts.sides.right)
    (inserted t (goal.at.raise-requires-clause-few t c).Joined-precedes) c.requires.few

pub returns-clause-length : goal.returns-clause-length
returns-clause-length t c = more_inserted (first_task c.args.node.value.tasks) (tasks_in c.args.link.now) _ (returns-clause-tasks t c)
