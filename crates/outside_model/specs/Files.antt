-- Files by name, and what is told of the outside.
use Rattle.std.specs.Prelude.{ℕ, ◌+◌, List, take, Option, Some, None}

-- the bytes that stand under each name
abbrev pub Files : Type 0
Files = List ℕ → Option (List ℕ)

-- this holds of the value, where it is told
abbrev pub Told : {A : Type 0} → Option A → (A → Type 0) → Type 0
Told None P = Unit {0}
Told (Some a) P = P a

-- the first bytes of a file, one more than the limit at the most
unfoldable pub up_to : ℕ → List ℕ → List ℕ
up_to limit bytes = take (limit + 1) bytes
