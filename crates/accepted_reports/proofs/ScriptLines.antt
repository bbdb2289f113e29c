-- A script has few lines.
use Rattle.std.proofs.Common.{ℕ, ◌≤◌, ◌+◌, ◌==◌, Bool, true, false, List, [], ◌∷◌, length, if◌then◌else◌, arith}
use Rattle.std.specs.List.{slice_split}
use Rattle.std.specs.Str.Lines.{lines, lines_of_parts}
use Rattle.std.proofs.lemmas.List.Splits.{length-slice_split}
use Rattle.std.proofs.lemmas.List.Sums.{count_by-le-length}
use Rattle.script_report.specs.Commands.{reading_of}
use Rattle.session_model.specs.Run.{is_silent, spoken_from, spoken_lines}

few_parts : (parts : List (List ℕ)) → length (lines_of_parts parts) ≤ length parts
few_parts [] = omega arith
few_parts (x ∷ []) = one_at_most (length x == 0)
  where
    one_at_most : (test : Bool) → length (if test then [] else x ∷ []) ≤ 1
    one_at_most true = omega arith
    one_at_most false = omega arith
few_parts (x ∷ y ∷ more) = let h = few_parts (y ∷ more) in omega arith

spoken_few : (number : ℕ) (texts : List (List ℕ)) → length (spoken_from number texts) ≤ length texts
spoken_few number [] = omega arith
spoken_few number (text ∷ texts) = by_test (is_silent (reading_of text)) (spoken_few (number + 1) texts)
  where
    by_test : (test : Bool) → length (spoken_from (number + 1) texts) ≤ length texts
        → length (if test then spoken_from (number + 1) texts else
        ((record { number = number; text = text }) ∷ spoken_from (number + 1) texts)) ≤ length (text ∷ texts)
    by_test true h = omega (arith, h)
    by_test false h = omega (arith, h)

-- at most one line more than bytes
pub few_lines : (script : List ℕ) → length (spoken_lines script) ≤ length script + 1
few_lines script =
    let spoken = spoken_few 1 (lines script) in
    let parts = few_parts (slice_split (λ b. b == 10) script) in
    omega (arith, spoken, parts, length-slice_split (λ b. b == 10) script, count_by-le-length (λ b. b == 10) script)
