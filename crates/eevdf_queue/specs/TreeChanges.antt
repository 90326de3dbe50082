-- What may have changed of a tree.
use Rattle.std.specs.Prelude.{◌≡◌, ◌≤◌, suc, Bool, true, false, Option, Box}
use Rattle.eevdf_queue.specs.declared.tree.change.TreeChange.{TreeChange}
use Rattle.eevdf_queue.specs.declared.tree.change.TreeChange.TheVariants.{Nothing, LeastAlone, Height}
use Rattle.eevdf_queue.specs.{TreeShape.Tree, TreeShape.height_in, TreeShape.tasks_in, TreeLeast.least_of}

-- the height is what it was
abbrev pub keeps_height : TreeChange → Bool
keeps_height Nothing = true
keeps_height LeastAlone = true
keeps_height Height = false

-- and the least virtual runtime
abbrev pub keeps_least : TreeChange → Bool
keeps_least Nothing = true
keeps_least LeastAlone = false
keeps_least Height = false

-- what is below a link is as high as it was, or one lower, and what can't have changed hasn't
pub record IsChangedAs {Z : Type 0} (change : TreeChange) (older newer : Option (Box Tree Z)) : Type 0 where
  pub not_higher : height_in newer ≤ height_in older
  pub at_most_one_lower : height_in older ≤ suc (height_in newer)
  pub same_height : keeps_height change ≡ true → height_in newer ≡ height_in older
  pub same_least : keeps_least change ≡ true → least_of (tasks_in newer) ≡ least_of (tasks_in older)
