-- The fields of a record by their column.
use Rattle.std.proofs.Common.{◌≡◌, refl, ℕ, zero, suc, List, [], ◌∷◌, get_or, None, Some}
use Rattle.csv.specs.Records.{field_at}

pub field_there : (fields : List (List ℕ)) (column : ℕ) (text : List ℕ) → Some text ≡ field_at fields column
    → text ≡ get_or fields column []
unfolding field_at
field_there [] column text e = cc
field_there (field ∷ fields) zero text e = cc
field_there (field ∷ fields) (suc column) text e = field_there fields column text e

pub field_missing : (fields : List (List ℕ)) (column : ℕ) → None ≡ field_at fields column → [] ≡ get_or fields column []
unfolding field_at
field_missing [] column e = refl
field_missing (field ∷ fields) zero e = cc
field_missing (field ∷ fields) (suc column) e = field_missing fields column e
