-- What a step of a closed loop is.
use Rattle.std.specs.Prelude.{◌≡◌, true, length}
use Rattle.eevdf_ops.specs.{declared.deeds.Line.Line, Outcome.Solo, Outcome.machine_of, Setup.is_allowed, Whole.whole}

-- the machine allowed the deed of the line, which gave its answer and left the machine after it
pub record IsStep (before : Solo) (line : Line) (after : Solo) : Type 0 where
  pub allowed : is_allowed (length before.queues) before.homes line.deed ≡ true
  pub answer : line.answer ≡ (whole before.homes line.deed (machine_of before.queues)).0
  pub machine : machine_of after.queues ≡ (whole before.homes line.deed (machine_of before.queues)).1
  pub homes : after.homes ≡ before.homes
  pub cpus : length after.queues ≡ length before.queues
