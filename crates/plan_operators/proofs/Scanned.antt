-- The rows that a scan gives, one more at a time.
use Rattle.std.proofs.Common.{ℕ, ◌≡◌, ◌+◌, ◌++◌, Bool, [], ◌∷◌, cond, refl, add-one}
use Rattle.std.specs.Prelude.{filter}
use Rattle.std.proofs.lemmas.List.Elements.{filter-append}
use Rattle.row_values.specs.RowNumbers.{row_numbers}

-- the rows below n that pass, and the next one
pub scan_more : (p : ℕ → Bool) (n : ℕ)
    → filter p (row_numbers (n + 1)) ≡ filter p (row_numbers n) ++ cond (p n) (n ∷ []) []
scan_more p n = rw (add-one, filter-append p (row_numbers n) (n ∷ [])) refl
