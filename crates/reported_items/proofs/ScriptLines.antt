-- The lines of a script: each is of one line, and they are no more than its bytes and one.
use Rattle.std.proofs.Common.{ℕ, ◌≡◌, ◌==◌, ◌≤◌, ◌+◌, ◌-◌, not, List, [], ◌∷◌, length, take, slice_index, Bool, true}
use Rattle.std.proofs.Common.{false, cond, refl, arith}
use Rattle.std.specs.List.{AllByRecursion, onto_first}
use Rattle.std.specs.Str.Lines.{lines, lines_of_parts, strip_carriage_return}
use Rattle.std.proofs.lemmas.Bool.{and_from}
use Rattle.script_report.specs.Commands.{reading_of}
use Rattle.session_model.specs.Run.{Line, is_silent, spoken_from, spoken_lines}
use Rattle.reported_items.specs.Reported.{is_one_line}
use Rattle.reported_items.proofs.LineNames.{line_take}
use Rattle.reported_items.proofs.LinesApart.{parts}

-- a text of one line
abbrev pub IsOne : List ℕ → Type 0
IsOne text = is_one_line text ≡ true

onto_one : (byte : ℕ) (some : List (List ℕ)) → not (byte == 10) ≡ true → AllByRecursion IsOne some
    → AllByRecursion IsOne (onto_first byte some)
onto_one byte [] h all = (and_from (not (byte == 10)) true h refl, tt)
onto_one byte (part ∷ some) h all = (and_from (not (byte == 10)) (is_one_line part) h all.0, all.1)

parts_one : (text : List ℕ) → AllByRecursion IsOne (parts text)
parts_one [] = (refl, tt)
parts_one (byte ∷ text) = by_test (byte == 10) refl (parts_one text)
  where
    by_test : (test : Bool) → byte == 10 ≡ test → AllByRecursion IsOne (parts text)
        → AllByRecursion IsOne (cond test ([] ∷ parts text) (onto_first byte (parts text)))
    by_test true e later = (refl, later)
    by_test false e later = onto_one byte (parts text) (rw e refl) later

strip_one : (text : List ℕ) → IsOne text → IsOne (strip_carriage_return text)
strip_one text h = by_test (slice_index text (length text - 1) == 13)
  where
    by_test : (test : Bool) → IsOne (cond test (take (length text - 1) text) text)
    by_test true = line_take (length text - 1) text h
    by_test false = h

lines_one : (some : List (List ℕ)) → AllByRecursion IsOne some → AllByRecursion IsOne (lines_of_parts some)
lines_one [] all = tt
lines_one (part ∷ []) all = by_test (length part == 0)
  where
    by_test : (test : Bool) → AllByRecursion IsOne (cond test [] (part ∷ []))
    by_test true = tt
    by_test false = all
lines_one (part ∷ next ∷ some) all = (strip_one part all.0, lines_one (next ∷ some) all.1)

onto_count : (byte : ℕ) (some : List (List ℕ)) → length (onto_first byte some) ≤ length some + 1
onto_count byte [] = omega arith
onto_count byte (part ∷ some) = omega arith

parts_count : (text : List ℕ) → length (parts text) ≤ length text + 1
parts_count [] = omega arith
parts_count (byte ∷ text) = by_test (byte == 10) (parts_count text) (onto_count byte (parts text))
  where
    by_test : (test : Bool) → length (parts text) ≤ length text + 1
        → length (onto_first byte (parts text)) ≤ length (parts text) + 1
        → length (cond test ([] ∷ parts text) (onto_first byte (parts text))) ≤ length (byte ∷ text) + 1
    by_test true few onto = omega (arith, few)
    by_test false few onto = omega (arith, few, onto)

lines_count : (some : List (List ℕ)) → length (lines_of_parts some) ≤ length some
lines_count [] = omega arith
lines_count (part ∷ []) = by_test (length part == 0)
  where
    by_test : (test : Bool) → length (cond test [] (part ∷ [])) ≤ length (part ∷ [])
    by_test true = omega arith
    by_test false = omega arith
lines_count (part ∷ next ∷ some) = let later = lines_count (next ∷ some) in omega (arith, later)

-- Lines that are replied to.

abbrev pub IsLineOne : Line → Type 0
IsLineOne line = IsOne line.text

spoken_one : (number : ℕ) (texts : List (List ℕ)) → AllByRecursion IsOne texts
    → AllByRecursion IsLineOne (spoken_from number texts)
spoken_one number [] all = tt
spoken_one number (text ∷ texts) all =
    by_test (is_silent (reading_of text)) (spoken_one (number + 1) texts all.1)
  where
    by_test : (test : Bool) → AllByRecursion IsLineOne (spoken_from (number + 1) texts)
        → AllByRecursion IsLineOne (cond test (spoken_from (number + 1) texts)
        ((record { number = number; text = text }) ∷ spoken_from (number + 1) texts))
    by_test true later = later
    by_test false later = (all.0, later)

spoken_count : (number : ℕ) (texts : List (List ℕ)) → length (spoken_from number texts) ≤ length texts
spoken_count number [] = omega arith
spoken_count number (text ∷ texts) = by_test (is_silent (reading_of text)) (spoken_count (number + 1) texts)
  where
    by_test : (test : Bool) → length (spoken_from (number + 1) texts) ≤ length texts
        → length (cond test (spoken_from (number + 1) texts)
        ((record { number = number; text = text }) ∷ spoken_from (number + 1) texts)) ≤ length (text ∷ texts)
    by_test true few = omega (arith, few)
    by_test false few = omega (arith, few)

-- they are no more than its bytes and one
pub line_count : (script : List ℕ) → length (lines script) ≤ length script + 1
line_count script =
    let most = lines_count (parts script) in let few = parts_count script in omega (arith, most, few)

-- the lines of a script are of one line
pub script_one : (script : List ℕ) → AllByRecursion IsLineOne (spoken_lines script)
script_one script = spoken_one 1 (lines script) (lines_one (parts script) (parts_one script))

-- and so are those that get a reply
pub script_count : (script : List ℕ) → length (spoken_lines script) ≤ length script + 1
script_count script =
    let most = spoken_count 1 (lines script) in let few = line_count script in omega (arith, most, few)
