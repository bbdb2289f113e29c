-- Counts of faults and of misses: they never fall, and a rise is the cause of an answer.
use Rattle.std.specs.Prelude.{ℕ, ◌+◌, ◌-◌, ◌^◌, ◌≤◌, min}

-- where a count of 64 bits ends: from there on it stays
abbrev pub last_count : ℕ
last_count = 2 ^ 64 - 1

-- the count is greater than before, or stands at its end
abbrev pub Rose : ℕ → ℕ → Type 0
Rose before now = min (before + 1) last_count ≤ now
