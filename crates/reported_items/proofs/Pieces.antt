-- Lines of a reply, one after the other: what they tell a checker, and which of them tell nothing.
use Rattle.std.proofs.Common.{ℕ, zero, suc, ◌≡◌, ◌∙◌, ◌<◌, ◌+◌, ◌-◌, ◌/◌, ◌%◌, ◌==◌, not, nat_lt, List, [], ◌∷◌}
use Rattle.std.proofs.Common.{◌++◌, codes, length, take, get_or, Bool, true, false, ap, append_assoc, arith}
use Rattle.std.proofs.Common.{cond, length-append}
use Rattle.std.proofs.Common.{refl, sym, subst, if◌then◌else◌}
use Rattle.std.specs.Char.{is_ascii_digit}
use Rattle.std.specs.Fmt.{decimal, digit_glyph, digits_onto}
use Rattle.std.specs.Fmt as fmt
use Rattle.std.specs.List.{onto_first}
use Rattle.std.specs.Str.{all_ascii_digits}
use Rattle.std.specs.Str.Lines.{lines, lines_of_parts, strip_carriage_return}
use Rattle.std.proofs.lemmas.Bool.{and_parts, eq-eqb, true≢false}
use Rattle.std.proofs.lemmas.Bool.Decides.{nat_tests}
use Rattle.std.proofs.lemmas.List.{get_or-append-add}
use Rattle.report_items.specs.Blocks.{told_lines}
use Rattle.report_items.specs.Items.{items_in}
use Rattle.report_items.specs.declared.items.ReportItem.{ReportItem}
use Rattle.reported_items.specs.Reported.{is_one_line}
use Rattle.reported_items.proofs.LinesApart.{lines_before, parts, some_parts}

-- Texts of one line.

pub one_line_both : (a b : List ℕ) → is_one_line a ≡ true → is_one_line b ≡ true → is_one_line (a ++ b) ≡ true
one_line_both [] b h k = k
one_line_both (byte ∷ a) b h k =
    let p = and_parts (not (byte == 10)) (is_one_line a) h in
    rw (p.0, one_line_both a b p.1 k) refl

not_true : (b : Bool) → not b ≡ true → b ≡ false
not_true true h = absurd cc
not_true false h = refl

one_part : (line rest : List ℕ) → is_one_line line ≡ true → parts (line ++ 10 ∷ rest) ≡ line ∷ parts rest
one_part [] rest h = refl
one_part (byte ∷ line) rest h =
    let p = and_parts (not (byte == 10)) (is_one_line line) h in
    rw (not_true (byte == 10) p.0) (ap (onto_first byte) (one_part line rest p.1))

pub line_first : (line rest : List ℕ) → is_one_line line ≡ true
    → lines (line ++ 10 ∷ rest) ≡ strip_carriage_return line ∷ lines rest
line_first line rest h =
    ap lines_of_parts (one_part line rest h) ∙ lines_before (line ∷ []) (parts rest) (some_parts rest)

-- Digits.

glyph : (n : ℕ) → is_ascii_digit (digit_glyph false (n % 10)) ≡ true
glyph n =
    let small : n % 10 < 10 = omega arith in
    let test : nat_lt (n % 10) 10 ≡ true = grind (arith, nat_tests) in
    rw test (grind (arith, nat_tests))

onto_digits : (k n : ℕ) (acc : List ℕ) → all_ascii_digits acc ≡ true
    → all_ascii_digits (digits_onto k 10 false n acc) ≡ true
onto_digits zero n acc h = h
onto_digits (suc k) n acc h = by_test (n / 10 == 0) (onto_digits k (n / 10) (digit_glyph false (n % 10) ∷ acc) more)
  where
    more : all_ascii_digits (digit_glyph false (n % 10) ∷ acc) ≡ true
    more = rw (glyph n, h) refl

    by_test : (test : Bool)
        → all_ascii_digits (digits_onto k 10 false (n / 10) (digit_glyph false (n % 10) ∷ acc)) ≡ true
        → all_ascii_digits (cond test (digit_glyph false (n % 10) ∷ acc)
        (digits_onto k 10 false (n / 10) (digit_glyph false (n % 10) ∷ acc))) ≡ true
    by_test true later = more
    by_test false later = later

pub decimal_digits : (n : ℕ) → all_ascii_digits (decimal n) ≡ true
unfolding fmt.digits
decimal_digits n = onto_digits 64 n [] refl

onto_some : (k n : ℕ) (acc : List ℕ) → 0 < length acc → 0 < length (digits_onto k 10 false n acc)
onto_some zero n acc l = l
onto_some (suc k) n acc l = by_test (n / 10 == 0) (onto_some k (n / 10) (digit_glyph false (n % 10) ∷ acc) (omega
    arith))
  where
    by_test : (test : Bool) → 0 < length (digits_onto k 10 false (n / 10) (digit_glyph false (n % 10) ∷ acc))
        → 0 < length (cond test (digit_glyph false (n % 10) ∷ acc)
        (digits_onto k 10 false (n / 10) (digit_glyph false (n % 10) ∷ acc)))
    by_test true later = omega arith
    by_test false later = later

digits_one_line : (ds : List ℕ) → all_ascii_digits ds ≡ true → is_one_line ds ≡ true
digits_one_line [] h = refl
digits_one_line (byte ∷ ds) h =
    let p = and_parts (is_ascii_digit byte) (all_ascii_digits ds) h in
    let here : not (byte == 10) ≡ true = digit_no_end byte p.0 in
    rw (here, digits_one_line ds p.1) refl
  where
    digit_no_end : (b : ℕ) → is_ascii_digit b ≡ true → not (b == 10) ≡ true
    digit_no_end b k = grind (arith, nat_tests)

pub decimal_some : (n : ℕ) → 0 < length (decimal n)
unfolding fmt.digits
decimal_some n = by_test (n / 10 == 0) (onto_some 63 (n / 10) (digit_glyph false (n % 10) ∷ []) (omega arith))
  where
    by_test : (test : Bool) → 0 < length (digits_onto 63 10 false (n / 10) (digit_glyph false (n % 10) ∷ []))
        → 0 < length (cond test (digit_glyph false (n % 10) ∷ [])
        (digits_onto 63 10 false (n / 10) (digit_glyph false (n % 10) ∷ [])))
    by_test true later = omega arith
    by_test false later = later

pub decimal_one_line : (n : ℕ) → is_one_line (decimal n) ≡ true
decimal_one_line n = digits_one_line (decimal n) (decimal_digits n)

-- Ends of lines.

digit_at : (ds : List ℕ) (k : ℕ) → all_ascii_digits ds ≡ true → k < length ds → is_ascii_digit (get_or ds k 0) ≡ true
digit_at [] k h l = absurd (omega arith)
digit_at (byte ∷ ds) zero h l = (and_parts (is_ascii_digit byte) (all_ascii_digits ds) h).0
digit_at (byte ∷ ds) (suc k) h l =
    digit_at ds k (and_parts (is_ascii_digit byte) (all_ascii_digits ds) h).1 (omega (arith, l))

no_return : (byte : ℕ) → is_ascii_digit byte ≡ true → (byte == 13) ≡ false
no_return byte h = grind (arith, nat_tests)

-- a line whose end ends with no CR
pub end_stays : (before text : List ℕ) → 0 < length text → (get_or text (length text - 1) 0 == 13) ≡ false
    → strip_carriage_return (before ++ text) ≡ before ++ text
end_stays before text some last =
    let long : length (before ++ text) - 1 ≡ length before + (length text - 1) =
    omega (arith, length-append before text) in
    let same : get_or (before ++ text) (length (before ++ text) - 1) 0 ≡ get_or text (length text - 1) 0 =
    ap (λ k. get_or (before ++ text) k 0) long ∙ get_or-append-add before text (length text - 1) 0 in
    ap (λ b. if b == 13 then take (length (before ++ text) - 1) (before ++ text) else before ++ text) same
    ∙ ap (λ b. if b then take (length (before ++ text) - 1) (before ++ text) else before ++ text) last

-- as one that ends with a number
pub number_stays : (before : List ℕ) (n : ℕ) → strip_carriage_return (before ++ decimal n) ≡ before ++ decimal n
number_stays before n =
    let some : 0 < length (decimal n) = decimal_some n in
    end_stays before (decimal n) some
    (no_return (get_or (decimal n) (length (decimal n) - 1) 0)
    (digit_at (decimal n) (length (decimal n) - 1) (decimal_digits n) (omega (arith, some))))

-- what a CR at the end leaves begins as the line does
front_by : (test : Bool) (byte next : ℕ) (more : List ℕ)
    → (m : List ℕ) × (cond test (take (length (byte ∷ next ∷ more) - 1) (byte ∷ next ∷ more)) (byte ∷ next ∷ more)
    ≡ byte ∷ m)
front_by true byte next more =
    let e : length (byte ∷ next ∷ more) - 1 ≡ suc (length more) = omega arith in
    (take (length more) (next ∷ more), ap (λ n. take n (byte ∷ next ∷ more)) e)
front_by false byte next more = (next ∷ more, refl)

front : (byte : ℕ) (text : List ℕ) → (byte == 13) ≡ false
    → (m : List ℕ) × (strip_carriage_return (byte ∷ text) ≡ byte ∷ m)
front byte [] h = ([], rw h refl)
front byte (next ∷ more) h = front_by (get_or (byte ∷ next ∷ more) (length (byte ∷ next ∷ more) - 1) 0 == 13) byte
    next more

-- Lines that tell nothing.

-- the first byte of a line that is no head and tells no plan, cost or certificate
pub record IsQuietByte (byte : ℕ) : Type 0 where
  pub digit : is_ascii_digit byte ≡ false
  pub return : (byte == 13) ≡ false
  pub plan : (112 == byte) ≡ false
  pub cost : (99 == byte) ≡ false

-- what the lines of a text tell, and the items that begin in them
abbrev pub tells : List ℕ → List (List ℕ)
tells text = told_lines (lines text)

abbrev pub items : List ℕ → List ReportItem
items text = items_in (lines text)

-- a text tells nothing, and no item begins in it
pub record IsQuiet (text : List ℕ) : Type 0 where
  pub told : (rest : List ℕ) → tells (text ++ rest) ≡ tells rest
  pub begun : (rest : List ℕ) → items (text ++ rest) ≡ items rest

pub nothing_quiet : IsQuiet []
nothing_quiet = record { told = λ rest. refl; begun = λ rest. refl }

pub quiet_both : (a b : List ℕ) → IsQuiet a → IsQuiet b → IsQuiet (a ++ b)
quiet_both a b h k = record {
  told = λ rest. ap tells (append_assoc a b rest) ∙ h.told (b ++ rest) ∙ k.told rest;
  begun = λ rest. ap items (append_assoc a b rest) ∙ h.begun (b ++ rest) ∙ k.begun rest;
}

unheaded : (byte : ℕ) (m : List ℕ) (more : List (List ℕ)) → is_ascii_digit byte ≡ false
    → items_in ((byte ∷ m) ∷ more) ≡ items_in more
unheaded byte m more h = rw h refl

untold : (byte : ℕ) (m : List ℕ) (more : List (List ℕ)) → IsQuietByte byte
    → told_lines ((byte ∷ m) ∷ more) ≡ told_lines more
untold byte m more q =
    let digit : is_ascii_digit byte ≡ false = q.digit in
    let plan : (112 == byte) ≡ false = q.plan in
    let cost : (99 == byte) ≡ false = q.cost in
    rw (digit, plan, cost) refl

pub quiet_line : (byte : ℕ) (line : List ℕ) → is_one_line (byte ∷ line) ≡ true → IsQuietByte byte
    → IsQuiet ((byte ∷ line) ++ 10 ∷ [])
quiet_line byte line h q = record {
  told = λ rest. ap tells (append_assoc (byte ∷ line) (10 ∷ []) rest)
      ∙ ap told_lines (line_first (byte ∷ line) rest h ∙ ap (λ (z : List ℕ). z ∷ lines rest) (front byte line
      q.return).1)
      ∙ untold byte (front byte line q.return).0 (lines rest) q;
  begun = λ rest. ap items (append_assoc (byte ∷ line) (10 ∷ []) rest)
      ∙ ap items_in (line_first (byte ∷ line) rest h ∙ ap (λ (z : List ℕ). z ∷ lines rest) (front byte line q.return).1)
      ∙ unheaded byte (front byte line q.return).0 (lines rest) q.digit;
}

-- a text that is one line with its end
pub record IsEnded (text : List ℕ) : Type 0 where
  pub line : List ℕ
  pub ends : text ≡ line ++ 10 ∷ []
  pub one : is_one_line line ≡ true

pub line_end : IsEnded (codes "\n")
line_end = record { line = []; ends = refl; one = refl }

pub ended_behind : (a : List ℕ) {b : List ℕ} → is_one_line a ≡ true → IsEnded b → IsEnded (a ++ b)
ended_behind a h e = record {
  line = a ++ e.line;
  ends = ap (λ (z : List ℕ). a ++ z) e.ends ∙ sym (append_assoc a e.line (10 ∷ []));
  one = one_line_both a e.line h e.one;
}

pub quiet_text : (byte : ℕ) (text : List ℕ) → IsQuietByte byte → (byte == 10) ≡ false → IsEnded (byte ∷ text)
    → IsQuiet (byte ∷ text)
quiet_text byte text q letter e = by_line e.line e.ends e.one
  where
    by_line : (line : List ℕ) → byte ∷ text ≡ line ++ 10 ∷ [] → is_one_line line ≡ true → IsQuiet (byte ∷ text)
    by_line [] same one = absurd (let ten : byte ≡ 10 = cc in true≢false (sym (eq-eqb byte 10 ten) ∙ letter))
    by_line (first ∷ line) same one =
        let this : first ≡ byte = cc in
        subst IsQuiet (sym same) (quiet_line first line one (subst IsQuietByte (sym this) q))
