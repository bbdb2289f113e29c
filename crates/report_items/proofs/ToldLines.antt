-- The lines of a block that tell something, one after the other.
use Rattle.std.proofs.Common.{ℕ, ◌≡◌, List, [], ◌∷◌, true, false, refl}
use Rattle.report_items.specs.Blocks.{is_told, told_lines}
use Rattle.report_items.specs.Heads.{is_head}

pub at_head : (line : List ℕ) (lines : List (List ℕ)) → is_head line ≡ true → told_lines (line ∷ lines) ≡ []
at_head line lines h = rw h refl

pub at_told : (line : List ℕ) (lines : List (List ℕ)) → is_head line ≡ false → is_told line ≡ true
    → told_lines (line ∷ lines) ≡ line ∷ told_lines lines
at_told line lines h t = rw (h, t) refl

pub at_other : (line : List ℕ) (lines : List (List ℕ)) → is_head line ≡ false → is_told line ≡ false
    → told_lines (line ∷ lines) ≡ told_lines lines
at_other line lines h t = rw (h, t) refl
