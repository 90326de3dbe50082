use Rattle.std.proofs.Common.{◌≡◌, ◌∙◌, ◌+◌, ◌≤◌, false, refl, [], ap, sym, arith, List, length}
use Rattle.std.specs.Prelude.{is_some}
use Rattle.eevdf_queue.specs.{declared.task.Task.Task, Pick.is_eligible_at, TreeShape.tasks_in, TreeShape.height_in}
use Rattle.eevdf_queue.specs.{NodeDepths.depth_at, TreeNodes.tasks_of, TreeTasks.first_that}
use Rattle.eevdf_queue.proofs.Descending.{itself, to_left, to_right, at_root}
use Rattle.eevdf_queue.proofs.{TreeEligible.some-node, TreeSorted.full-lower}
use Rattle.eevdf_queue.proofs.TreeSearch.{first_left_same, first_here, first_only, first_right}
use Rattle.eevdf_queue.proofs.tree.node.first_under.Goals as goal
use Rattle.eevdf_queue.proofs.tree.node.first_under.Goals.{Joined-at, in-Some+else-is_least_eligible, in_default}

pub down-init : goal.down-init
down-init c = (c.requires.some, (refl, (omega arith, itself c.args.root.now c.requires.differ)))

pub down-preserved-then-is_least_eligible : goal.down-preserved-then-is_least_eligible
down-preserved-then-is_least_eligible c =
    let e : c.down.at.now.tasks ≡ tasks_of c.at.inside.parts = cc in
    let h : c.down.at.now.height ≡ c.at.inside.kept.height = cc in
    let l : tasks_in c.at.inside.parts.sides.left ≡ c.deref-left.result.now.tasks = cc in
    let k : height_in c.at.inside.parts.sides.left ≡ c.deref-left.result.now.height = cc in
    let i : c.deref-left.result.now.tasks ≡ tasks_of c.left.inside.parts = cc in
    let s = ap (λ (z : List Task). is_some (first_that (is_eligible_at c.args.totals.now.weight c.args.totals.now.moment) z)) i
    ∙ sym (some-node c.args.totals.now.weight c.args.totals.now.moment c.left.inside c.left.invariant) ∙ sym c.is_least_eligible.ensures ∙ c.if-is_least_eligible.true in (
      s,
      (
        c.down.invariant.1.0
            ∙ first_left_same (is_eligible_at c.args.totals.now.weight c.args.totals.now.moment) c.down.at.now.tasks (tasks_in c.at.inside.parts.sides.left) c.at.inside.parts.task (tasks_in c.at.inside.parts.sides.right) e
            (ap (λ (z : List Task). is_some (first_that (is_eligible_at c.args.totals.now.weight c.args.totals.now.moment) z)) l ∙ s)
            ∙ ap (first_that (is_eligible_at c.args.totals.now.weight c.args.totals.now.moment)) l,
        (
          omega (arith, h, k, c.at.invariant.height, c.down.invariant.1.1.0),
          to_left c.at.inside c.down.at.now c.at.view_is c.down.depth c.args.root.now.depths c.down.invariant.1.1.1 c.deref-left.result.now l (cc),
        ),
      ),
    )

-- no task on the left is eligible where the descent doesn't go there
missed : (c : Joined-at) → is_some (first_that (is_eligible_at c.args.totals.now.weight c.args.totals.now.moment) (tasks_in c.at.inside.parts.sides.left)) ≡ false
missed c =
    elim c.match-at.branch [
      | in-Some+else-is_least_eligible w ↦
          let l : tasks_in c.at.inside.parts.sides.left ≡ tasks_of w.left.inside.parts = cc in
          ap (λ (z : List Task). is_some (first_that (is_eligible_at c.args.totals.now.weight c.args.totals.now.moment) z)) l
          ∙ sym (some-node c.args.totals.now.weight c.args.totals.now.moment w.left.inside w.left.invariant) ∙ sym w.is_least_eligible.ensures ∙ w.if-is_least_eligible.false
      | in_default w ↦
          let l : tasks_in c.at.inside.parts.sides.left ≡ [] = ap tasks_in w.in_default.is in
          ap (λ (z : List Task). is_some (first_that (is_eligible_at c.args.totals.now.weight c.args.totals.now.moment) z)) l
    ]

-- what is answered of the node that is reached
lower : (c : Joined-at) → c.down.depth + 1 ≤ c.args.root.now.height
lower c = let h : c.down.at.now.height ≡ c.at.inside.kept.height = cc in omega (arith, h, c.at.invariant.height, c.down.invariant.1.1.0)

stands : (c : Joined-at) → c.down.depth + 1 ≡ depth_at c.at.inside.parts.task.number c.args.root.now.depths
stands c = sym (at_root c.at.inside c.down.at.now c.at.view_is c.down.depth c.args.root.now.depths c.down.invariant.1.1.1)

pub returns-then-is_task_eligible-clause-task : goal.returns-then-is_task_eligible-clause-task
returns-then-is_task_eligible-clause-task c =
    let e : c.down.at.now.tasks ≡ tasks_of c.at.inside.parts = cc in
    c.down.invariant.1.0 ∙ first_here (is_eligible_at c.args.totals.now.weight c.args.totals.now.moment) c.down.at.now.tasks (tasks_in c.at.inside.parts.sides.left) c.at.inside.parts.task (tasks_in c.at.inside.parts.sides.right) e (missed (goal.at.returns-then-is_task_eligible-clause-task c).Joined-at) (sym c.is_task_eligible.ensures ∙ c.if-is_task_eligible.true)

pub returns-then-is_task_eligible-clause-low : goal.returns-then-is_task_eligible-clause-low
returns-then-is_task_eligible-clause-low c = full-lower (c.down.depth + 1) c.args.root.now.height (length c.args.root.now.tasks) (lower (goal.at.returns-then-is_task_eligible-clause-low c).Joined-at) c.height-height.ensures.full

pub returns-then-is_task_eligible-clause-depth : goal.returns-then-is_task_eligible-clause-depth
returns-then-is_task_eligible-clause-depth c = stands (goal.at.returns-then-is_task_eligible-clause-depth c).Joined-at

-- nothing stands on the right: then it is the own task
pub returns-in_default-right-clause-task : goal.returns-in_default-right-clause-task
returns-in_default-right-clause-task c =
    let e : c.down.at.now.tasks ≡ tasks_of c.at.inside.parts = cc in
    let r : tasks_in c.at.inside.parts.sides.right ≡ [] = ap tasks_in c.in_default-right.is in
    c.down.invariant.1.0 ∙ first_only (is_eligible_at c.args.totals.now.weight c.args.totals.now.moment) c.down.at.now.tasks (tasks_in c.at.inside.parts.sides.left) c.at.inside.parts.task (tasks_in c.at.inside.parts.sides.right) e (missed (goal.at.returns-in_default-right-clause-task c).Joined-at) r c.down.invariant.0

pub returns-in_default-right-clause-low : goal.returns-in_default-right-clause-low
returns-in_default-right-clause-low c = full-lower (c.down.depth + 1) c.args.root.now.height (length c.args.root.now.tasks) (lower (goal.at.returns-in_default-right-clause-low c).Joined-at) c.height-height.ensures.full

pub returns-in_default-right-clause-depth : goal.returns-in_default-right-clause-depth
returns-in_default-right-clause-depth c = stands (goal.at.returns-in_default-right-clause-depth c).Joined-at

pub down-preserved : goal.down-preserved
down-preserved c =
    let e : c.down.at.now.tasks ≡ tasks_of c.at.inside.parts = cc in
    let h : c.down.at.now.height ≡ c.at.inside.kept.height = cc in
    let r : tasks_in c.at.inside.parts.sides.right ≡ c.deref-at.result.now.tasks = cc in
    let k : height_in c.at.inside.parts.sides.right ≡ c.deref-at.result.now.height = cc in
    let f = first_right (is_eligible_at c.args.totals.now.weight c.args.totals.now.moment) c.down.at.now.tasks (tasks_in c.at.inside.parts.sides.left) c.at.inside.parts.task (tasks_in c.at.inside.parts.sides.right) e (missed (goal.at.down-preserved c).Joined-at) (sym c.is_task_eligible.ensures ∙ c.if-is_task_eligible.false)
    ∙ ap (first_that (is_eligible_at c.args.totals.now.weight c.args.totals.now.moment)) r in (
      ap is_some (sym f) ∙ c.down.invariant.0,
      (
        c.down.invariant.1.0 ∙ f,
        (
          omega (arith, h, k, c.at.invariant.height, c.down.invariant.1.1.0),
          to_right c.at.inside c.down.at.now c.at.view_is c.down.depth c.args.root.now.depths c.down.invariant.1.1.1 c.deref-at.result.now r (cc),
        ),
      ),
    )
