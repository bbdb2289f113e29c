-- How far a vector of counts went from `a` to `q`: the new and the old numbers, multiplied, at the places where it grew
-- and at those where it shrank.
use Rattle.std.specs.Prelude.{ℕ, ◌*◌, nat_lt, if◌then◌else◌, List, [], ◌∷◌}

-- the product of the new numbers, at the places where the vector grew from `a` to `q`
abbrev pub grown_to : List ℕ → List ℕ → ℕ
grown_to [] a = 1
grown_to (x ∷ q) [] = 1
grown_to (x ∷ q) (y ∷ a) = (if nat_lt y x then x else 1) * grown_to q a

-- the product of the old numbers, at the places where the vector grew from `a` to `q`
abbrev pub grown_from : List ℕ → List ℕ → ℕ
grown_from [] a = 1
grown_from (x ∷ q) [] = 1
grown_from (x ∷ q) (y ∷ a) = (if nat_lt y x then y else 1) * grown_from q a

-- the product of the new numbers, at the places where the vector shrank from `a` to `q`: there it grows back
abbrev pub shrunk_to : List ℕ → List ℕ → ℕ
shrunk_to q a = grown_from a q

-- the product of the old numbers, at the places where the vector shrank from `a` to `q`
abbrev pub shrunk_from : List ℕ → List ℕ → ℕ
shrunk_from q a = grown_to a q
