-- Which bytes of a text are escaped.
use Rattle.std.specs.Prelude.{ℕ, ◌==◌, ◌||◌, nat_lt, Bool}

-- a byte that a text doesn't hold as it is
abbrev pub needs_escape : ℕ → Bool
needs_escape byte = byte == 34 || byte == 92 || nat_lt byte 32 || byte == 127
