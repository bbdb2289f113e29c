-- The first line of a text, and the lines behind it.
use Rattle.std.proofs.Common.{ℕ, ◌≡◌, ◌≢◌, ◌+◌, ◌-◌, ◌<◌, List, [], ◌∷◌, ◌++◌, length, take, Option, Some, None}
use Rattle.std.proofs.Common.{MatchOption}
use Rattle.std.proofs.Common.{unwrap_or, refl, sym, ap, ◌∙◌, arith, get_or, if◌then◌else◌, ◌==◌}
use Rattle.std.specs.List.{slice_split, position_or_len, before_first, after_first}
use Rattle.std.specs.Str.Lines.{lines, lines_of_parts, strip_carriage_return}
use Rattle.std.proofs.lemmas.Bool.{eq-eqb, ne_eqb}
use Rattle.std.proofs.lemmas.Grind.{common_steps}
use Rattle.std.proofs.lemmas.List.{take_more, take_all}
use Rattle.std.proofs.lemmas.List.Splits.{length-slice_split, slice_split_first, slice_split_none}
use Rattle.std.proofs.lemmas.List.Sums.{fails_before_first}
use denote.Ref.{Bor}

-- a line that ends with no CR is as it was
kept : (line : List ℕ) → ((front : List ℕ) → line ≢ front ++ 13 ∷ []) → strip_carriage_return line ≡ line
kept [] h = refl
kept (byte ∷ line) h =
    let all = take_all (length (byte ∷ line) - 1 + 1) (byte ∷ line) (omega arith) in
    let last : get_or (byte ∷ line) (length (byte ∷ line) - 1) 0 ≢ 13 = λ e.
    h (take (length (byte ∷ line) - 1) (byte ∷ line))
    (sym all ∙ take_more (byte ∷ line) (length (byte ∷ line) - 1) 0 (omega arith)
    ∙ ap (λ b. take (length (byte ∷ line) - 1) (byte ∷ line) ++ b ∷ []) e) in
    ap (λ t. if t then take (length (byte ∷ line) - 1) (byte ∷ line) else byte ∷ line) (ne_eqb _ 13 last)

-- a CR at the end goes
dropped : (front line : List ℕ) → line ≡ front ++ 13 ∷ [] → strip_carriage_return line ≡ front
dropped front line e =
    let last : get_or line (length line - 1) 0 ≡ 13 = grind (arith, common_steps) in
    let rest : take (length line - 1) line ≡ front = grind (arith, common_steps) in
    ap (λ t. if t then take (length line - 1) line else line) (eq-eqb _ 13 last) ∙ rest

-- what `strip_suffix` and `unwrap_or` give
pub stripped : (line : Bor (List ℕ)) (r : Option (Bor (List ℕ)))
    → MatchOption r ((front : List ℕ) → line.now ≢ front ++ 13 ∷ []) (λ x. line.now ≡ x.now ++ 13 ∷ [])
    → strip_carriage_return line.now ≡ (unwrap_or r line).now
stripped line None h = kept line.now h
stripped line (Some x) h = dropped x.now line.now h

one_more : (line : List ℕ) (parts : List (List ℕ)) → 0 < length parts
    → lines_of_parts (line ∷ parts) ≡ strip_carriage_return line ∷ lines_of_parts parts
one_more line [] l = absurd (omega arith)
one_more line (part ∷ parts) l = refl

-- a text in which no line ends
pub one_line : (text : List ℕ) → 0 < length text → position_or_len (λ b. b == 10) text ≡ length text
    → lines text ≡ text ∷ []
one_line text l e =
    ap lines_of_parts (slice_split_none (λ b. b == 10) text (λ k d m. fails_before_first (λ b. b == 10) text k d
    (omega arith)))
    ∙ ap (λ t. if t then [] else text ∷ []) (ne_eqb (length text) 0 (λ z. omega arith))

-- a text in which a line ends
pub first_line : (text line rest : List ℕ) → position_or_len (λ b. b == 10) text < length text
    → line ≡ before_first (λ b. b == 10) text → rest ≡ after_first (λ b. b == 10) text
    → lines text ≡ strip_carriage_return line ∷ lines rest
first_line text line rest l e f =
    ap lines_of_parts (slice_split_first (λ b. b == 10) text 0 l)
    ∙ one_more (before_first (λ b. b == 10) text) (slice_split (λ b. b == 10) (after_first (λ b. b == 10) text))
    (omega (arith, length-slice_split (λ b. b == 10) (after_first (λ b. b == 10) text)))
    ∙ (λ i. strip_carriage_return (sym e i) ∷ lines (sym f i))
