-- What several texts are made of.
use Rattle.std.specs.Prelude.{ℕ, List, ◌++◌, codes, decimal}

-- a text as a line of its own
abbrev pub as_line : List ℕ → List ℕ
as_line text = text ++ codes "\n"

unfoldable pub task_text : ℕ → List ℕ
task_text task = codes "task " ++ decimal task
