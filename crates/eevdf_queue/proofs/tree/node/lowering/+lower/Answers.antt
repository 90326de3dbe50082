use Rattle.std.proofs.Common.{◌≡◌, ◌∙◌, ◌<◌, ◌≤◌, ◌^◌, ◌∷◌, ◌++◌, ◌&&◌, Bool, List, to_z, of_z, ap, sym, subst, arith, rules}
use Rattle.std.specs.{Prelude.ℤ, Prelude.◌-ℤ◌, Prelude.unsigned_abs, List.AllByRecursion}
use Rattle.std.proofs.lemmas.Int.{ints, to_z-of_z}
use mir.Syntax.{w64}
use mir.Val.{SFits}
use Rattle.eevdf_queue.specs.{declared.task.Task.Task, Moves.is_entry_in_range, TreeShape.tasks_in, TreeNodes.tasks_of}
use Rattle.eevdf_queue.specs.TreeLowering.{IsNear, lowered_task, lowered_list, are_tasks_in_range}
use Rattle.eevdf_queue.proofs.{AllTasks.all-left, AllTasks.all-right}
use Rattle.eevdf_queue.proofs.LoweredLists.{around_lowered, in_range-around}
use Rattle.eevdf_queue.proofs.TreeLengths.{left_shorter, right_shorter}
use Rattle.eevdf_queue.proofs.tree.node.lowering.+lower.Goals as goal

near_left : (ts xs : List Task) (t : Task) (ys : List Task) → ts ≡ xs ++ t ∷ ys → AllByRecursion IsNear ts → AllByRecursion IsNear xs
near_left ts xs t ys e h = all-left IsNear xs (t ∷ ys) (subst (AllByRecursion IsNear) e h)

near_right : (ts xs : List Task) (t : Task) (ys : List Task) → ts ≡ xs ++ t ∷ ys → AllByRecursion IsNear ts → AllByRecursion IsNear (t ∷ ys)
near_right ts xs t ys e h = all-right IsNear xs (t ∷ ys) (subst (AllByRecursion IsNear) e h)

three : (a b c a' b' c' r : Bool) → r ≡ (a && (b && c)) → a ≡ a' → b ≡ b' → c ≡ c' → r ≡ (a' && (b' && c'))
three a b c a' b' c' r h i j k = grind arith

pub lower_node-lower-right-requires : goal.lower_node-lower-right-requires
lower_node-lower-right-requires t c =
    let e : c.args.node.now.tasks ≡ tasks_of c.node.inside.parts = cc in
    let f = right_shorter c.args.node.now.tasks (tasks_in c.node.inside.parts.sides.left) c.node.inside.parts.task (tasks_in c.node.inside.parts.sides.right) e in (
      omega (arith, f),
      (
        (near_right c.args.node.now.tasks (tasks_in c.node.inside.parts.sides.left) c.node.inside.parts.task (tasks_in c.node.inside.parts.sides.right) e c.requires.near).1,
        subst (λ (z : ℤ). unsigned_abs z ≤ 2 ^ 60) (sym (to_z-of_z w64 c.args.by c.ranges.by)) c.requires.small,
      ),
    )

pub lower_node-lower_task-own-requires-clause-near : goal.lower_node-lower_task-own-requires-clause-near
lower_node-lower_task-own-requires-clause-near t c =
    let e : c.args.node.now.tasks ≡ tasks_of c.node.inside.parts = cc in
    (near_right c.args.node.now.tasks (tasks_in c.node.inside.parts.sides.left) c.node.inside.parts.task (tasks_in c.node.inside.parts.sides.right) e c.requires.near).0

apart_by : (d by : ℤ) → unsigned_abs d ≤ 2 ^ 61 → unsigned_abs by ≤ 2 ^ 60 → unsigned_abs (d -ℤ by) < 2 ^ 62
apart_by d by h k = omega (arith, ints)

lowered_near : (t u : Task) (by : ℤ) → u ≡ lowered_task by t → IsNear t → unsigned_abs by ≤ 2 ^ 60 → (unsigned_abs u.entry.v < 2 ^ 62) × (unsigned_abs u.entry.d < 2 ^ 62)
lowered_near t u by e n h =
    subst (λ (z : Task). (unsigned_abs z.entry.v < 2 ^ 62) × (unsigned_abs z.entry.d < 2 ^ 62)) (sym e) (apart_by t.entry.v by n.0 h, apart_by t.entry.d by n.1 h)

-- with the bound of v too, so that where another deadline is noted it is what the function ensures that fails
pub lower_node-note-requires : goal.lower_node-note-requires
lower_node-note-requires t c =
    let e : c.args.node.now.tasks ≡ tasks_of c.node.inside.parts = cc in
    let near = lowered_near c.node.inside.parts.task c.lower_task-own.new.task c.args.by
    (c.lower_task-own.ensures.task ∙ ap (λ (z : ℤ). lowered_task z c.node.inside.parts.task) (to_z-of_z w64 c.args.by c.ranges.by))
    (near_right c.args.node.now.tasks (tasks_in c.node.inside.parts.sides.left) c.node.inside.parts.task (tasks_in c.node.inside.parts.sides.right) e c.requires.near).0 c.requires.small in
    let fits : SFits w64 c.lower_task-own.new.task.entry.v = search rules in
    omega (arith, near.0, near.1, ap unsigned_abs (to_z-of_z w64 c.lower_task-own.new.task.entry.v fits))

pub lower_node-lower-left-requires : goal.lower_node-lower-left-requires
lower_node-lower-left-requires t c =
    let e : c.args.node.now.tasks ≡ tasks_of c.node.inside.parts = cc in
    let f = left_shorter c.args.node.now.tasks (tasks_in c.node.inside.parts.sides.left) c.node.inside.parts.task (tasks_in c.node.inside.parts.sides.right) e in (
      omega (arith, f),
      (
        near_left c.args.node.now.tasks (tasks_in c.node.inside.parts.sides.left) c.node.inside.parts.task (tasks_in c.node.inside.parts.sides.right) e c.requires.near,
        subst (λ (z : ℤ). unsigned_abs z ≤ 2 ^ 60) (sym (to_z-of_z w64 c.args.by c.ranges.by)) c.requires.small,
      ),
    )

pub lower_node-returns-clause-tasks : goal.lower_node-returns-clause-tasks
lower_node-returns-clause-tasks t c =
    let e : c.args.node.now.tasks ≡ tasks_of c.node.inside.parts = cc in
    let b : to_z w64 (of_z w64 c.args.by) ≡ c.args.by = to_z-of_z w64 c.args.by c.ranges.by in
    around_lowered c.args.by c.args.node.now.tasks (tasks_in c.node.inside.parts.sides.left) (tasks_in c.node.inside.parts.sides.right) (tasks_in c.lower-left.new.link) (tasks_in c.lower-right.new.link)
    c.node.inside.parts.task c.lower_task-own.new.task e
    (c.lower-left.ensures.tasks ∙ ap (λ (z : ℤ). lowered_list z (tasks_in c.node.inside.parts.sides.left)) b)
    (c.lower_task-own.ensures.task ∙ ap (λ (z : ℤ). lowered_task z c.node.inside.parts.task) b)
    (c.lower-right.ensures.tasks ∙ ap (λ (z : ℤ). lowered_list z (tasks_in c.node.inside.parts.sides.right)) b)

pub lower_node-returns-clause-in_range : goal.lower_node-returns-clause-in_range
lower_node-returns-clause-in_range t c =
    three c.lower-left.result c.lower_task-own.result c.lower-right.result
    (are_tasks_in_range (tasks_in c.lower-left.new.link)) (is_entry_in_range c.lower_task-own.new.task.entry) (are_tasks_in_range (tasks_in c.lower-right.new.link))
    c.all.result c.all.ensures c.lower-left.ensures.in_range c.lower_task-own.ensures.in_range c.lower-right.ensures.in_range
    ∙ sym (in_range-around (tasks_in c.lower-left.new.link) c.lower_task-own.new.task (tasks_in c.lower-right.new.link))
