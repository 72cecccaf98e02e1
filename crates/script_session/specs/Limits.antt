-- How many bytes a script may have at most, a line before its newline, and what one read takes.
use Rattle.std.specs.Prelude.{ℕ}

-- 16 MiB
abbrev pub script_limit : ℕ
script_limit = 16777216

-- 4 KiB
abbrev pub line_limit : ℕ
line_limit = 4096

abbrev pub piece_length : ℕ
piece_length = 4096
