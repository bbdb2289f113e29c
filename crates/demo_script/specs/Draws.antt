-- The numbers of the demo: each follows from the one before, so that every run draws the same.
use Rattle.std.specs.Prelude.{ℕ, zero, suc, ◌+◌, ◌*◌, ◌/◌, ◌%◌, ◌^◌}

-- where the numbers begin
abbrev pub start : ℕ
start = 1

-- the number behind x
abbrev pub next : ℕ → ℕ
next x = (1103515245 * x + 12345) % 2 ^ 31

-- what a draw below m makes of its number
abbrev pub below : ℕ → ℕ → ℕ
below m x = x / 65536 % m

-- the number so many draws behind x
unfoldable pub after : ℕ → ℕ → ℕ
after zero x = x
after (suc draws) x = next (after draws x)
