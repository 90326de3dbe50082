-- The text of a block of lines, while it is written.
use Rattle.std.specs.Prelude.{ℕ, ◌*◌}

-- how many lines a block has at most
abbrev pub block_lines : ℕ
block_lines = 27

-- how many bytes a line of the history has at most
abbrev pub most_bytes : ℕ
most_bytes = 112

-- how many bytes a block may have
abbrev pub block_room : ℕ
block_room = block_lines * most_bytes
