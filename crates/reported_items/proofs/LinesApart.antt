-- Lines of a text that ends with a line's end, and of what follows.
use Rattle.std.proofs.Common.{ℕ, ◌≡◌, ◌∙◌, ◌<◌, ◌==◌, List, [], ◌∷◌, ◌++◌, length, map, Bool, true, false, cond, ap}
use Rattle.std.proofs.Common.{refl, sym, arith}
use Rattle.std.proofs.Common.{append-nil}
use Rattle.std.specs.List.{onto_first, slice_split}
use Rattle.std.specs.Str.Lines.{lines, lines_of_parts, strip_carriage_return}
use Rattle.std.proofs.lemmas.List.Splits.{length-slice_split}

abbrev pub parts : List ℕ → List (List ℕ)
parts text = slice_split (λ b. b == 10) text

onto_both : (x : ℕ) (first more : List (List ℕ)) → 0 < length first
    → onto_first x (first ++ more) ≡ onto_first x first ++ more
onto_both x [] more l = absurd (omega arith)
onto_both x (part ∷ first) more l = refl

pub some_parts : (text : List ℕ) → 0 < length (parts text)
some_parts text = omega (arith, length-slice_split (λ b. b == 10) text)

split_by : (test : Bool) (byte : ℕ) (both text rest : List (List ℕ)) → both ≡ text ++ rest → 0 < length text
    → cond test ([] ∷ both) (onto_first byte both) ≡ cond test ([] ∷ text) (onto_first byte text) ++ rest
split_by true byte both text rest e l = ap (λ (z : List (List ℕ)). [] ∷ z) e
split_by false byte both text rest e l = ap (onto_first byte) e ∙ onto_both byte text rest l

parts_both : (text rest : List ℕ) → parts (text ++ 10 ∷ rest) ≡ parts text ++ parts rest
parts_both [] rest = refl
parts_both (byte ∷ text) rest =
    split_by (byte == 10) byte (parts (text ++ 10 ∷ rest)) (parts text) (parts rest) (parts_both text rest)
    (some_parts text)

-- parts before others are lines
pub lines_before : (first rest : List (List ℕ)) → 0 < length rest
    → lines_of_parts (first ++ rest) ≡ map strip_carriage_return first ++ lines_of_parts rest
lines_before [] rest l = refl
lines_before (part ∷ []) [] l = absurd (omega arith)
lines_before (part ∷ []) (next ∷ rest) l = refl
lines_before (part ∷ more ∷ first) rest l =
    ap (λ (z : List (List ℕ)). strip_carriage_return part ∷ z) (lines_before (more ∷ first) rest l)

lines_on : (text rest : List ℕ)
    → lines (text ++ 10 ∷ rest) ≡ map strip_carriage_return (parts text) ++ lines rest
lines_on text rest =
    ap lines_of_parts (parts_both text rest) ∙ lines_before (parts text) (parts rest) (some_parts rest)

-- the lines of a text that ends with LF, and those of the rest
pub lines_both : (text rest : List ℕ) → lines (text ++ 10 ∷ rest) ≡ lines (text ++ 10 ∷ []) ++ lines rest
lines_both text rest =
    lines_on text rest
    ∙ ap (λ (z : List (List ℕ)). z ++ lines rest)
    (sym (lines_on text [] ∙ append-nil (map strip_carriage_return (parts text))))
