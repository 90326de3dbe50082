-- The calls that none beside bounds stands for: where bounds are true they are true after them.
use Rattle.std.specs.Prelude.{ℕ, ℤ, Bool, Option}
use Rattle.eevdf_queue.specs.State.{State, Contents}
use Rattle.eevdf_fair_queue.specs.{declared.bounds.Bounds.Bounds, Fair.IsFair}
use Rattle.eevdf_c.specs.Attributes as attributes
use Rattle.eevdf_c.specs.Blocks as blocks
use Rattle.eevdf_c.specs.Hands as hands
use Rattle.eevdf_c.specs.Leaving as leaving
use Rattle.eevdf_c.specs.Pulls as pulls
use Rattle.eevdf_c.specs.SetSlice as slices
use Rattle.eevdf_c.specs.Turns as turns
use Rattle.eevdf_c.specs.Yield as yields

-- bounds that are true of a queue are true of another
abbrev pub Keeps : State → State → Type 0
Keeps q r = (b : Bounds) → IsFair q b → IsFair r b

pub record OtherCallsKeepBounds : Type 0 where
  pub stops : (q : State) → Keeps q (turns.stop q).1
  pub yields : (q : State) → Keeps q (yields.yield_now q).1
  pub sleeps : (q : State) (number : ℕ) → Keeps q (leaving.sleep q number).1
  pub dozes : (q : State) (number : ℕ) → Keeps q (leaving.doze q number).1
  pub ends : (q : State) (number : ℕ) → Keeps q (leaving.end q number).1
  pub ends_out : (q : State) (has : Bool) (number : ℕ) → Keeps q (blocks.end q has number).queue
  pub closes : (q : State) → Keeps q (leaving.closed q)
  pub takes : (q : State) (h : Option Contents) (number : ℕ) → Keeps q (hands.take q h number).queue
  pub takes_any : (q : State) (h : Option Contents) → Keeps q (hands.take_any q h).queue
  pub puts_asleep : (q : State) (h : Option Contents) → Keeps q (hands.put_asleep q h).queue
  pub is_pulled_from : (q source : State) → Keeps source (pulls.pull q source).from
  pub is_pulled_from_by_name : (q source : State) (number : ℕ) → Keeps source (pulls.pull_task q source number).from
  pub sets_slice : (q : State) (number ns : ℕ) → Keeps q (slices.set_slice q number ns).1
  pub begins : (q : State) (number : ℕ) (level : ℤ) (ns : ℕ) → Keeps q (attributes.begin q number level ns).1
