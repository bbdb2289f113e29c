-- Sets of places: the sum of 2 ^ t over the places t, which are counted from 0 in the order of FROM.
use Rattle.std.specs.Prelude.{ℕ, ◌-◌, ◌/◌, ◌%◌, ◌^◌, ◌==◌, Bool, bit_and}

-- whether the set has this place: bit t stands for place t
abbrev pub has : ℕ → ℕ → Bool
has set place = set / 2 ^ place % 2 == 1

-- the set of this place alone
abbrev pub one : ℕ → ℕ
one place = 2 ^ place

-- the set of the places below this number
abbrev pub all_below : ℕ → ℕ
all_below count = 2 ^ count - 1

-- the two sets are apart: no place is in both; the set of the places of both is then their sum
abbrev pub are_apart : ℕ → ℕ → Bool
are_apart left right = bit_and left right == 0
