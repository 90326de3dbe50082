-- The two sides of a task, and what they are after one was lent and written to.
use Rattle.std.specs.Borrow.{Lends, MutBor, Fml, RattleType}
use Rattle.eevdf_queue.specs.{declared.tree.sides.Side.Side, declared.tree.sides.Side.TheVariants.Left, declared.tree.sides.Side.TheVariants.Right}
use Rattle.eevdf_queue.specs.{declared.tree.sides.Sides.Sides, contracts.tree.sides.Sides.the_row}

module _ {L : Type 0} where
  -- what stands on a side
  abbrev pub on_side : Sides L → Side → L
  on_side s Left = s.left
  on_side s Right = s.right

  -- with another one on a side
  abbrev pub with_side : Sides L → Side → L → Sides L
  with_side s Left w = record s { left = w }
  with_side s Right w = record s { right = w }

-- the sides end with the last value behind the reference on that side
abbrev pub LendsSide : (L : RattleType) → MutBor (Sides L.Denot) → Side → MutBor L.Denot → Fml
LendsSide L s side r = Lends (the_row L) L s r (with_side s.now side)
