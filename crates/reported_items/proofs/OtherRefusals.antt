-- Refusals: too many rows are an item, and no other refusal is.
use Rattle.std.proofs.Common.{ℕ, zero, suc, ◌≡◌, ◌≢◌, ◌∙◌, ◌<◌, ◌+◌, ◌*◌, ◌/◌, ◌%◌, ◌==◌, List, [], ◌∷◌, ◌++◌, codes}
use Rattle.std.proofs.Common.{length, Bool, true, false, Option, Some, ap, append_assoc, arith, cond, nat_lt, refl, sym}
use Rattle.std.proofs.Common.{if◌then◌else◌, subst, unwrap_or}
use Rattle.std.specs.Char.{is_ascii_digit}
use Rattle.std.specs.Fmt.{decimal, digit_glyph, digits_onto}
use Rattle.std.specs.Fmt as fmt
use Rattle.std.specs.Str.{all_ascii_digits, bytes_eq}
use Rattle.std.specs.Str.Lines.{strip_carriage_return}
use Rattle.std.proofs.lemmas.Bool.{and_parts, eqb-false, eqb-true}
use Rattle.std.proofs.lemmas.Bool.Decides.{nat_tests}
use Rattle.std.proofs.lemmas.Slice.Eq.{bytes_eq-Decides}
use Rattle.row_values.specs.Refusals.{refusal_words, too_many_rows}
use Rattle.row_values.specs.declared.refusals.Refusal.{Refusal}
use Rattle.row_values.specs.declared.refusals.TheConstants as number
use Rattle.script_report.specs.Replies.{reply_text}
use Rattle.script_report.specs.declared.replies.Reply.TheVariants.{Refused}
use Rattle.report_items.specs.Items.{items_of}
use Rattle.report_items.specs.Written.{IsNumber}
use Rattle.report_items.specs.declared.items.ReportItem.TheVariants.{TooLarge}
use Rattle.reported_items.specs.Reported.{is_one_line}
use Rattle.reported_items.specs.RunItems.{refused_items}
use Rattle.reported_items.proofs.OtherHeads.{TellsNone}
use Rattle.reported_items.proofs.Pieces.{IsEnded, decimal_digits, decimal_one_line, ended_behind, items, line_end}
use Rattle.reported_items.proofs.Pieces.{one_line_both}
use Rattle.reported_items.proofs.PlainReplies.{IsPlainRefusal}
use Rattle.reported_items.proofs.Silent.{front_kept, head_by}
use Rattle.reported_items.proofs.ToldExecutions.{large_items}

-- Numbers that are spelled by two digits.

-- digits are written in front of others
onto_more : (k n : ℕ) (acc : List ℕ) → length acc < length (digits_onto (suc k) 10 false n acc)
onto_more zero n acc = by_test (n / 10 == 0)
  where
    by_test : (test : Bool)
        → length acc < length (cond test (digit_glyph false (n % 10) ∷ acc) (digit_glyph false (n % 10) ∷ acc))
    by_test true = omega arith
    by_test false = omega arith
onto_more (suc k) n acc = by_test (n / 10 == 0) (onto_more k (n / 10) (digit_glyph false (n % 10) ∷ acc))
  where
    by_test : (test : Bool)
        → length (digit_glyph false (n % 10) ∷ acc)
        < length (digits_onto (suc k) 10 false (n / 10) (digit_glyph false (n % 10) ∷ acc))
        → length acc < length (cond test (digit_glyph false (n % 10) ∷ acc)
        (digits_onto (suc k) 10 false (n / 10) (digit_glyph false (n % 10) ∷ acc)))
    by_test true later = omega arith
    by_test false later = omega (arith, later)

-- how a digit is spelled
glyph_is : (d : ℕ) → d < 10 → digit_glyph false d ≡ 48 + d
glyph_is d small = let test : nat_lt d 10 ≡ true = grind (arith, nat_tests) in rw test refl

-- two bytes that are two others
two_bytes : (a b x y : ℕ) → a ∷ b ∷ [] ≡ x ∷ y ∷ [] → (a ≡ x) × (b ≡ y)
two_bytes a b x y e = (cc, cc)

-- more than two bytes are no two
too_long : (bytes : List ℕ) (x y : ℕ) → 2 < length bytes → bytes ≢ x ∷ y ∷ []
too_long bytes x y l e = let two : length bytes ≡ 2 = ap length e in absurd (omega (arith, l, two))

-- a number and two digits
module _ (n x y : ℕ) where
  -- by whether there is a third digit
  two_by : (test : Bool) → (n / 10 / 10 == 0) ≡ test
      → cond test (digit_glyph false (n / 10 % 10) ∷ digit_glyph false (n % 10) ∷ [])
      (digits_onto 62 10 false (n / 10 / 10) (digit_glyph false (n / 10 % 10) ∷ digit_glyph false (n % 10) ∷ []))
      ≡ (48 + x) ∷ (48 + y) ∷ [] → n ≡ 10 * x + y
  two_by true t e =
      let both = two_bytes (digit_glyph false (n / 10 % 10)) (digit_glyph false (n % 10)) (48 + x) (48 + y) e in
      let first : 48 + n / 10 % 10 ≡ 48 + x = sym (glyph_is (n / 10 % 10) (omega arith)) ∙ both.0 in
      let last : 48 + n % 10 ≡ 48 + y = sym (glyph_is (n % 10) (omega arith)) ∙ both.1 in
      let none : n / 10 / 10 ≡ 0 = eqb-true (n / 10 / 10) 0 t in
      omega (arith, first, last, none)
  two_by false t e =
      let acc : List ℕ = digit_glyph false (n / 10 % 10) ∷ digit_glyph false (n % 10) ∷ [] in
      let more = onto_more 61 (n / 10 / 10) acc in
      absurd (too_long (digits_onto 62 10 false (n / 10 / 10) acc) (48 + x) (48 + y) more e)

  -- by whether there is a second digit
  one_by : (test : Bool) → cond test (digit_glyph false (n % 10) ∷ [])
      (digits_onto 63 10 false (n / 10) (digit_glyph false (n % 10) ∷ []))
      ≡ (48 + x) ∷ (48 + y) ∷ [] → n ≡ 10 * x + y
  one_by true e = absurd cc
  one_by false e = two_by (n / 10 / 10 == 0) refl e

  -- a number that is spelled by two digits is that of these digits
  two_digits : decimal n ≡ (48 + x) ∷ (48 + y) ∷ [] → n ≡ 10 * x + y
  unfolding fmt.digits
  two_digits e = one_by (n / 10 == 0) e

-- Words.

-- words of one line, by a test
line_if : (test : Bool) (words : List ℕ) (other : Option (List ℕ)) → is_one_line words ≡ true
    → is_one_line (unwrap_or other []) ≡ true → is_one_line (unwrap_or (if test then Some words else other) []) ≡ true
line_if true words other h k = h
line_if false words other h k = k

-- the words of each refusal are of one line
words_one_line : (code : ℕ) → is_one_line (unwrap_or (refusal_words code) []) ≡ true
words_one_line code =
    line_if (code == number.SYNTAX) _ _ refl (line_if (code == number.UNKNOWN_TABLE) _ _ refl
    (line_if (code == number.UNKNOWN_COLUMN) _ _ refl (line_if (code == number.AMBIGUOUS) _ _ refl
    (line_if (code == number.UNKNOWN_STATEMENT) _ _ refl (line_if (code == number.NAME_TAKEN) _ _ refl
    (line_if (code == number.MISFIT) _ _ refl (line_if (code == number.TOO_MANY) _ _ refl
    (line_if (code == number.ARGUMENT_COUNT) _ _ refl (line_if (code == number.ARGUMENT_KIND) _ _ refl
    (line_if (code == number.WIDE) _ _ refl (line_if (code == number.TOO_MANY_ROWS) _ _ refl
    (line_if (code == number.MISSING_FILE) _ _ refl (line_if (code == number.FILE_TOO_LONG) _ _ refl
    (line_if (code == number.NOT_A_TABLE) _ _ refl (line_if (code == number.SCHEMA_DIFFERS) _ _ refl
    (line_if (code == number.UNKNOWN_CURSOR) _ _ refl (line_if (code == number.UNKNOWN_PLAN) _ _ refl
    (line_if (code == number.NOT_GROUPED) _ _ refl (line_if (code == number.STORE_LIMIT) _ _ refl
    refl)))))))))))))))))))

-- what a refusal shows ends its line
shown_ended : (test : Bool) (shown : List ℕ) → is_one_line shown ≡ true
    → IsEnded (if test then codes "\n" else codes " " ++ (shown ++ codes "\n"))
shown_ended true shown h = line_end
shown_ended false shown h = ended_behind (codes " ") refl (ended_behind shown h line_end)

-- Heads.

-- no digit is a space
digit_space : (byte : ℕ) → is_ascii_digit byte ≡ true → byte ≢ 32
digit_space byte h e = absurd (let ten : is_ascii_digit 32 ≡ true = subst (λ b. is_ascii_digit b ≡ true) e h in cc)

-- digits before a space, where two bytes stand so too
front_two : (x y : ℕ) (ds text more : List ℕ) → x ≢ 32 → y ≢ 32 → all_ascii_digits ds ≡ true
    → ds ++ 32 ∷ text ≡ x ∷ y ∷ 32 ∷ more → ds ≡ x ∷ y ∷ []
front_two x y [] text more p q h e = absurd (p cc)
front_two x y (a ∷ []) text more p q h e = absurd (q cc)
front_two x y (a ∷ b ∷ []) text more p q h e = cc
front_two x y (a ∷ b ∷ c ∷ ds) text more p q h e =
    let u = and_parts (is_ascii_digit a) (all_ascii_digits (b ∷ c ∷ ds)) h in
    let v = and_parts (is_ascii_digit b) (all_ascii_digits (c ∷ ds)) u.1 in
    let w = and_parts (is_ascii_digit c) (all_ascii_digits ds) v.1 in
    let space : c ≡ 32 = cc in
    absurd (digit_space c w.0 space)

-- what stands behind the same front
same_rest : (front a b : List ℕ) → front ++ a ≡ front ++ b → a ≡ b
same_rest [] a b e = e
same_rest (x ∷ front) a b e = let tail : front ++ a ≡ front ++ b = cc in same_rest front a b tail

-- a refusal of another number than twelve is no item
refused_none : (code : ℕ) (text : List ℕ) → code ≢ 12 → TellsNone (codes "refused " ++ (decimal code ++ 32 ∷ text))
refused_none code text other = record {
  not_large = by_test (bytes_eq (codes "refused " ++ (decimal code ++ 32 ∷ text)) (codes "refused 12 too many rows"))
      (bytes_eq-Decides (codes "refused " ++ (decimal code ++ 32 ∷ text)) (codes "refused 12 too many rows")).0;
  not_ran = refl;
  not_opened = refl;
  other_word = refl;
}
  where
    by_test : (test : Bool)
        → (test ≡ true → codes "refused " ++ (decimal code ++ 32 ∷ text) ≡ codes "refused 12 too many rows")
        → test ≡ false
    by_test true h =
        absurd (other (two_digits code 1 2 (front_two 49 50 (decimal code) text (codes "too many rows")
        (λ e. omega (arith, e)) (λ e. omega (arith, e)) (decimal_digits code)
        (same_rest (codes "refused ") (decimal code ++ 32 ∷ text) (codes "12 too many rows") (h refl)))))
    by_test false h = refl

-- Refusals.

-- the digits of a code, in front of what is behind them and behind what is in front of them
coded : (line code : ℕ) (text : List ℕ)
    → (decimal line ++ (codes " refused " ++ decimal code)) ++ 32 ∷ text
    ≡ decimal line ++ 32 ∷ (codes "refused " ++ (decimal code ++ 32 ∷ text))
coded line code text =
    append_assoc (decimal line) (codes " refused " ++ decimal code) (32 ∷ text)
    ∙ ap (λ (z : List ℕ). decimal line ++ z) (append_assoc (codes " refused ") (decimal code) (32 ∷ text))

-- other refusals begin no item
other_refusal : (line : ℕ) (why : Refusal) → IsNumber line → is_one_line why.shown ≡ true → why.code ≢ 12
    → items_of (reply_text line (Refused why)) ≡ []
unfolding items_of
other_refusal line why is one other =
    let code : ℕ = why.code in
    let words : List ℕ = unwrap_or (refusal_words code) [] in
    let ended = ended_behind words (words_one_line code) (shown_ended (length why.shown == 0) why.shown one) in
    let text : List ℕ = ended.line in
    let told : List ℕ = codes "refused " ++ (decimal code ++ 32 ∷ text) in
    let kept = front_kept (decimal line ++ (codes " refused " ++ decimal code)) 32 text refl in
    let read : List ℕ = codes "refused " ++ (decimal code ++ 32 ∷ kept.0) in
    let stripped : strip_carriage_return (decimal line ++ 32 ∷ told) ≡ decimal line ++ 32 ∷ read =
    ap strip_carriage_return (sym (coded line code text)) ∙ kept.1 ∙ coded line code kept.0 in
    let line_of : is_one_line (decimal line ++ 32 ∷ told) ≡ true =
    one_line_both (decimal line) (32 ∷ told) (decimal_one_line line)
    (one_line_both (codes " refused ") (decimal code ++ 32 ∷ text) refl
    (one_line_both (decimal code) (32 ∷ text) (decimal_one_line code) ended.one)) in
    let whole : decimal line ++ (codes " refused " ++ (decimal code ++ (codes " " ++ (text ++ 10 ∷ []))))
    ≡ (decimal line ++ 32 ∷ told) ++ 10 ∷ [] = simp append_assoc in
    ap (λ (z : List ℕ). items (decimal line ++ (codes " refused " ++ (decimal code ++ (codes " " ++ z))))) ended.ends
    ∙ ap items whole
    ∙ head_by line is told read [] line_of stripped (refused_none code kept.0 other)

-- too many rows are one refusal
same_refusal : (why : Refusal) → why.code ≡ 12 → why.shown ≡ [] → why ≡ too_many_rows
same_refusal why e f = λ i. record { code = e i; shown = f i }

-- the items of a refusal
pub refusal_items : (line : ℕ) (why : Refusal) → IsNumber line → IsPlainRefusal why
    → items_of (reply_text line (Refused why)) ≡ refused_items line why
refusal_items line why is plain = by_test (why.code == number.TOO_MANY_ROWS) refl
  where
    by_test : (test : Bool) → (why.code == number.TOO_MANY_ROWS) ≡ test
        → items_of (reply_text line (Refused why)) ≡ (if test then TooLarge line ∷ [] else [])
    by_test true e =
        let twelve : why.code ≡ 12 = eqb-true why.code 12 e in
        ap (λ (w : Refusal). items_of (reply_text line (Refused w))) (same_refusal why twelve (plain.bare twelve))
        ∙ large_items line is
    by_test false e = other_refusal line why is plain.line (λ twelve. eqb-false why.code 12 e twelve)
