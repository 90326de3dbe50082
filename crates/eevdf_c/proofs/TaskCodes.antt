-- What a code tells that is a task's number, or that of no task.
use Rattle.std.proofs.Common.{◌≡◌, ℕ, subst, arith}
use Rattle.std.specs.Prelude.{◌↔◌, pos, Option, Some, None, IfSome, IsNone}
use Rattle.eevdf_c.specs.{Codes.absent, Turns.task_code}

-- the code is that of no task exactly where there is none
pub absent_of_none : (r : Option ℕ) (P : Type 0) → (IsNone r ↔ P) → (task_code r ≡ absent) ↔ P
absent_of_none r P e = grind arith

-- what holds of the task holds of the number that is its code
pub said_of_code : (r : Option ℕ) (P : ℕ → Type 0) (t : ℕ) → IfSome r P → task_code r ≡ pos t → P t
said_of_code None P t h e = grind arith
said_of_code (Some s) P t h e = let same : s ≡ t = grind arith in subst P same h
