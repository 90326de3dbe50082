use Rattle.std.proofs.Common.{◌≡◌, ◌≤◌, ◌+◌, ◌^◌, ◌∙◌, [], ◌++◌, true, false, Some, ap, sym, subst, arith, List, length}
use Rattle.std.specs.Prelude.{not}
use Rattle.eevdf_queue.specs.{declared.task.Task.Task, declared.tree.node.TreeNode.TheInside.Inside, TaskLists.first_task, TaskLists.find_task}
use Rattle.eevdf_queue.specs.{TreeShape.tasks_in, TreeNodes.tasks_of, TreeChanges.keeps_least, TreeLeast.least_of}
use Rattle.eevdf_queue.specs.{TreeTasks.without, TreeKeys.Holds}
use Rattle.eevdf_queue.proofs.TreeOrder.{none_below, last_moved}
use Rattle.eevdf_queue.proofs.OneSide.{IsSideOf, below_on, edited_on, least_on, few_on}
use Rattle.eevdf_queue.proofs.TreeLengths.{left_shorter, few_left, fewer_without}
use Rattle.eevdf_queue.proofs.{TreeSearch.of_key, TreeSides.found_here, TreeSides.taken_out}
use Rattle.eevdf_queue.proofs.tree.node.edit.+remove.Goals as goal
use Rattle.eevdf_queue.proofs.tree.node.edit.+remove.Goals.{then-is_of+else-is_none, else-is_of}

pub remove-taken-requires : goal.remove-taken-requires
remove-taken-requires t c =
    let e : tasks_in c.args.link.now ≡ tasks_of c.root.inside.parts = cc in
    let side : IsSideOf c.args.key c.root.inside.parts.task c.side_of.result = (sym c.is_of.ensures ∙ c.if-is_of.false, c.side_of.ensures) in
    let b = below_on c.args.key c.root.inside.parts _ c.side_of.result e c.requires side in
    let n = ap (λ z. length (tasks_in z)) c.side_mut.ensures.value in
    (omega (arith, n, b.fewer), subst (λ z. Holds c.args.key (tasks_in z)) (sym c.side_mut.ensures.value) b.holds)

pub returns-then-is_none-clause-task : goal.returns-then-is_none-clause-task
returns-then-is_none-clause-task t c =
    let e : tasks_in c.args.link.now ≡ tasks_of c.root.inside.parts = cc in
    found_here c.args.key c.root.inside.parts _ e c.requires (of_key c.args.key c.root.inside.parts.task (sym c.is_of.ensures ∙ c.if-is_of.true))
    ∙ ap Some (sym (c.replaced.ensures.task ∙ ap (λ z. first_task (tasks_of z)) c.part_from-sides.ensures.alone))

pub returns-then-is_none-clause-rest : goal.returns-then-is_none-clause-rest
returns-then-is_none-clause-rest t c =
    let e : tasks_in c.args.link.now ≡ tasks_of c.root.inside.parts = cc in
    let n : tasks_in c.root.inside.parts.sides.left ≡ [] = none_below c.root.inside.parts.sides.left (c.is_none.ensures ∙ ap not c.if-is_none.true) in
    c.replaced.ensures.tasks
    ∙ ap (λ z. tasks_in z.right) c.part_from-sides.ensures.sides
    ∙ sym (ap (λ (z : List Task). z ++ tasks_in c.root.inside.parts.sides.right) n)
    ∙ (taken_out c.args.key c.root.inside.parts _ e c.requires).here (of_key c.args.key c.root.inside.parts.task (sym c.is_of.ensures ∙ c.if-is_of.true))

pub correct-change-requires-clause-kept_least : goal.correct-change-requires-clause-kept_least
correct-change-requires-clause-kept_least t c = λ h.
    elim c.if-is_of.branch [
      | else-is_of w ↦
          let k = sym (ap (λ z. keeps_least z.change) w.taken-is) ∙ h in
          subst (λ (a : Inside). a.kept.least ≡ least_of (tasks_of a.parts)) (sym w.root-inside-is)
          (c.root.invariant.least ∙ sym (least_on c.root.inside.parts w.remove-taken.new.link w.side_of.result (w.remove-taken.ensures.changed.same_least k ∙ ap (λ z. least_of (tasks_in z)) w.side_mut.ensures.value)))
      | then-is_of+else-is_none w ↦
          let k = sym (ap (λ z. keeps_least z.change) w.taken-is) ∙ h in
          absurd (let n : false ≡ true = sym w.exchanged-taken.ensures.other_least ∙ k in cc)
    ]

pub returns-clause-task : goal.returns-clause-task
returns-clause-task t c =
    let e : tasks_in c.args.link.now ≡ tasks_of c.root.inside.parts = cc in
    elim c.if-is_of.branch [
      | else-is_of w ↦
          let side : IsSideOf c.args.key c.root.inside.parts.task w.side_of.result = (sym c.is_of.ensures ∙ w.if-is_of.false, w.side_of.ensures) in
          (below_on c.args.key c.root.inside.parts _ w.side_of.result e c.requires side).found
          ∙ ap (λ z. find_task c.args.key.number (tasks_in z)) (sym w.side_mut.ensures.value)
          ∙ w.remove-taken.ensures.task ∙ ap (λ z. Some (first_task z.node.value.tasks)) (sym w.taken-is)
      | then-is_of+else-is_none w ↦
          found_here c.args.key c.root.inside.parts _ e c.requires (of_key c.args.key c.root.inside.parts.task (sym c.is_of.ensures ∙ w.if-is_of.true))
          ∙ ap Some (sym w.exchanged-taken.ensures.own) ∙ ap (λ z. Some (first_task z.node.value.tasks)) (sym w.taken-is)
    ]

pub returns-clause-rest : goal.returns-clause-rest
returns-clause-rest t c =
    let e : tasks_in c.args.link.now ≡ tasks_of c.root.inside.parts = cc in
    let s = taken_out c.args.key c.root.inside.parts _ e c.requires in
    let rest : tasks_of c.if-is_of.root-inside.parts ≡ without c.args.key.number (tasks_in c.args.link.now) =
    elim c.if-is_of.branch [
      | else-is_of w ↦
          let side : IsSideOf c.args.key c.root.inside.parts.task w.side_of.result = (sym c.is_of.ensures ∙ w.if-is_of.false, w.side_of.ensures) in
          ap (λ z. tasks_of z.parts) w.root-inside-is
          ∙ edited_on c.args.key c.root.inside.parts _ _ _ w.side_of.result w.remove-taken.new.link s side (w.remove-taken.ensures.rest ∙ ap (λ z. without c.args.key.number (tasks_in z)) w.side_mut.ensures.value)
      | then-is_of+else-is_none w ↦
          ap (λ z. tasks_of z.parts) w.root-inside-is
          ∙ last_moved (tasks_in c.root.inside.parts.sides.left) (tasks_in w.exchanged-taken.new.left) w.exchanged-taken.new.task (tasks_in c.root.inside.parts.sides.right) w.exchanged-taken.ensures.tasks
          ∙ s.here (of_key c.args.key c.root.inside.parts.task (sym c.is_of.ensures ∙ w.if-is_of.true))
    ] in
    c.correct-change.ensures.mended.evened.tasks ∙ rest

pub exchanged-taken-requires-clause-few : goal.exchanged-taken-requires-clause-few
exchanged-taken-requires-clause-few t c =
    let e : tasks_in c.args.link.now ≡ tasks_of c.root.inside.parts = cc in
    let n = left_shorter _ (tasks_in c.root.inside.parts.sides.left) c.root.inside.parts.task (tasks_in c.root.inside.parts.sides.right) e in
    let few = c.requires.few in
    omega (arith, n, few)

pub correct-change-requires-clause-few : goal.correct-change-requires-clause-few
correct-change-requires-clause-few t c =
    let e : tasks_in c.args.link.now ≡ tasks_of c.root.inside.parts = cc in
    let few = subst (λ (z : List Task). length z ≤ 2 ^ 20) e c.requires.few in
    elim c.if-is_of.branch [
      | else-is_of w ↦
          subst (λ (a : Inside). length (tasks_in a.parts.sides.left) + length (tasks_in a.parts.sides.right) ≤ 2 ^ 20) (sym w.root-inside-is)
          (few_on (2 ^ 20) c.root.inside.parts w.remove-taken.new.link w.side_of.result few (ap (λ z. length (tasks_in z)) (sym w.side_mut.ensures.value) ∙ w.remove-taken.ensures.length))
      | then-is_of+else-is_none w ↦
          subst (λ (a : Inside). length (tasks_in a.parts.sides.left) + length (tasks_in a.parts.sides.right) ≤ 2 ^ 20) (sym w.root-inside-is)
          (few_left (2 ^ 20) _ (tasks_in c.root.inside.parts.sides.left) c.root.inside.parts.task (tasks_in c.root.inside.parts.sides.right) (tasks_in w.exchanged-taken.new.left) e c.requires.few w.exchanged-taken.ensures.length)
    ]

pub returns-clause-length : goal.returns-clause-length
returns-clause-length t c = fewer_without c.args.key.number _ _ c.requires.here (returns-clause-rest t c)
