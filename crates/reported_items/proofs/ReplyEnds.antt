-- Each reply's text begins with a digit and ends with a line's end.
use Rattle.std.proofs.Common.{ℕ, suc, ◌≡◌, ◌≢◌, ◌∙◌, ◌<◌, ◌-◌, ◌^◌, ◌==◌, ◌⊎◌, inl, inr, List, [], ◌∷◌, ◌++◌, codes}
use Rattle.std.proofs.Common.{length, take, get_or}
use Rattle.std.proofs.Common.{Bool, true, false, ap, append_assoc, arith, cond, refl, rules, sym, if◌then◌else◌}
use Rattle.std.proofs.Common.{unwrap_or}
use Rattle.std.specs.Char.{is_ascii_digit}
use Rattle.std.specs.Fmt.{decimal}
use Rattle.std.specs.List.{onto_first, slice_split}
use Rattle.std.specs.Str.{all_ascii_digits}
use Rattle.std.specs.Str.Lines.{lines, lines_of_parts, strip_carriage_return}
use Rattle.std.proofs.lemmas.Bool.{and_parts, ne_eqb}
use Rattle.std.proofs.lemmas.Bool.Decides.{nat_tests}
use Rattle.std.proofs.lemmas.Fmt.{decimal_nonempty, digits_decimal}
use Rattle.std.proofs.lemmas.Str.Parse.{IsNumeralModel, numerals_by_fold}
use Rattle.row_values.specs.Names.{canonical_name}
use Rattle.row_values.specs.Numbers.{read_on}
use Rattle.row_values.specs.Refusals.{refusal_words}
use Rattle.script_report.specs.Executions.{execution_text}
use Rattle.script_report.specs.Replies.{lines_text, reply_text}
use Rattle.script_report.specs.Shown.{anchors_text, plans_text}
use Rattle.script_report.specs.declared.replies.Reply.{Reply}
use Rattle.script_report.specs.declared.replies.Reply.TheVariants.{Loaded, Indexed, Prepared, Ran, Opened, Fetched}
use Rattle.script_report.specs.declared.replies.Reply.TheVariants.{Closed, Evicted, Shown, Refused, Spent}
use Rattle.reported_items.proofs.Apart.{BeginsWithHead, IsWhole}

-- Ends.

behind : (a : List ℕ) {b : List ℕ} → IsWhole b → IsWhole (a ++ b)
behind a w = record {
  before = a ++ w.before;
  ends = ap (λ (z : List ℕ). a ++ z) w.ends ∙ sym (append_assoc a w.before (10 ∷ []));
}

line_end : IsWhole (codes "\n")
line_end = record { before = []; ends = refl }

last_line : IsWhole (codes "end\n")
last_line = record { before = codes "end"; ends = refl }

shown_end : (test : Bool) (shown : List ℕ) → IsWhole (if test then codes "\n" else codes " " ++ (shown ++ codes "\n"))
shown_end true shown = line_end
shown_end false shown = behind (codes " ") (behind shown line_end)

-- nothing is said, or a text that ends so
pub said : (line : ℕ) (reply : Reply) → (reply ≡ Spent) ⊎ IsWhole (reply_text line reply)
said line (Loaded table rows columns) =
    inr (behind (decimal line) (behind (codes " loaded ") (behind (canonical_name table) (behind (codes " rows ")
    (behind (decimal rows) (behind (codes " columns ") (behind (decimal columns) line_end)))))))
said line (Indexed table column) =
    inr (behind ((((decimal line ++ codes " indexed ") ++ canonical_name table) ++ codes " ") ++ canonical_name column)
    line_end)
said line (Prepared name tables predicates parameters) =
    inr (behind (decimal line) (behind (codes " prepared ") (behind (canonical_name name) (behind (codes " tables ")
    (behind (decimal tables) (behind (codes " predicates ") (behind (decimal predicates) (behind (codes " parameters ")
    (behind (decimal parameters) line_end)))))))))
said line (Ran execution rows) =
    inr (behind (decimal line) (behind (codes " ran ") (behind (execution_text execution) (behind (lines_text rows)
    (behind (codes "end ") (behind (decimal (length rows)) line_end))))))
said line (Opened cursor execution) =
    inr (behind (decimal line) (behind (codes " opened ") (behind (canonical_name cursor) (behind (codes " ")
    (behind (execution_text execution) last_line)))))
said line (Fetched cursor rows left) =
    inr (behind (decimal line) (behind (codes " fetched ") (behind (canonical_name cursor) (behind (codes "\n")
    (behind (lines_text rows) (behind (codes "end ") (behind (decimal (length rows)) (behind (codes " left ")
    (behind (decimal left) line_end)))))))))
said line (Closed cursor) =
    inr (behind (decimal line) (behind (codes " closed ") (behind (canonical_name cursor) line_end)))
said line (Evicted name plan anchors) =
    inr (behind (decimal line) (behind (codes " evicted ") (behind (canonical_name name) (behind (codes " plan ")
    (behind (decimal plan) (behind (codes " anchors ") (behind (decimal anchors) line_end)))))))
said line (Shown name plans anchors) =
    inr (behind (decimal line) (behind (codes " shown ") (behind (canonical_name name) (behind (codes " plans ")
    (behind (decimal (length plans)) (behind (codes " anchors ") (behind (decimal (length anchors)) (behind (codes "\n")
    (behind (plans_text plans) (behind (anchors_text anchors) last_line))))))))))
said line (Refused refusal) =
    inr (behind (decimal line) (behind (codes " refused ") (behind (decimal refusal.code) (behind (codes " ")
    (behind (unwrap_or (refusal_words refusal.code) []) (shown_end (length refusal.shown == 0) refusal.shown))))))
said line Spent = inl refl

-- Beginnings.

abbrev pub begins : List ℕ → Bool
begins [] = false
begins (byte ∷ text) = is_ascii_digit byte

begins_on : (a b : List ℕ) → begins a ≡ true → begins (a ++ b) ≡ true
begins_on [] b h = absurd cc
begins_on (byte ∷ a) b h = h

numerals : IsNumeralModel (λ ds. all_ascii_digits ds ≡ true) (read_on 0)
numerals = numerals_by_fold _ (search rules) read_on (search rules)

digits_begin : (ds : List ℕ) → 0 < length ds → all_ascii_digits ds ≡ true → begins ds ≡ true
digits_begin [] l h = absurd (omega arith)
digits_begin (byte ∷ ds) l h = (and_parts (is_ascii_digit byte) (all_ascii_digits ds) h).0

decimal_begins : (n : ℕ) → n < 2 ^ 64 → begins (decimal n) ≡ true
decimal_begins n small =
    digits_begin (decimal n) (decimal_nonempty n small) (digits_decimal numerals n small)

-- what is said begins with the number of its line
pub reply_begins : (line : ℕ) (reply : Reply) (rest : List ℕ) → line < 2 ^ 64 → reply ≢ Spent
    → begins (reply_text line reply ++ rest) ≡ true
reply_begins line reply rest small some = begins_on (reply_text line reply) rest (by_reply reply some)
  where
    number : begins (decimal line) ≡ true
    number = decimal_begins line small

    by_reply : (r : Reply) → r ≢ Spent → begins (reply_text line r) ≡ true
    by_reply (Loaded table rows columns) e = begins_on (decimal line) _ number
    by_reply (Indexed table column) e =
        begins_on ((((decimal line ++ codes " indexed ") ++ canonical_name table) ++ codes " ") ++ canonical_name
        column)
        (codes "\n")
        (begins_on (((decimal line ++ codes " indexed ") ++ canonical_name table) ++ codes " ") (canonical_name column)
        (begins_on ((decimal line ++ codes " indexed ") ++ canonical_name table) (codes " ")
        (begins_on (decimal line ++ codes " indexed ") (canonical_name table)
        (begins_on (decimal line) (codes " indexed ") number))))
    by_reply (Prepared name tables predicates parameters) e = begins_on (decimal line) _ number
    by_reply (Ran execution rows) e = begins_on (decimal line) _ number
    by_reply (Opened cursor execution) e = begins_on (decimal line) _ number
    by_reply (Fetched cursor rows left) e = begins_on (decimal line) _ number
    by_reply (Closed cursor) e = begins_on (decimal line) _ number
    by_reply (Evicted name plan anchors) e = begins_on (decimal line) _ number
    by_reply (Shown name plans anchors) e = begins_on (decimal line) _ number
    by_reply (Refused refusal) e = begins_on (decimal line) _ number
    by_reply Spent e = absurd (e refl)

-- Heads.

no_end : (byte : ℕ) → is_ascii_digit byte ≡ true → ((byte == 10) ≡ false) × ((byte == 13) ≡ false)
no_end byte h = (grind (arith, nat_tests), grind (arith, nat_tests))

shorter : (byte next : ℕ) (more : List ℕ)
    → take (length (byte ∷ next ∷ more) - 1) (byte ∷ next ∷ more) ≡ byte ∷ take (length more) (next ∷ more)
shorter byte next more =
    let e : length (byte ∷ next ∷ more) - 1 ≡ suc (length more) = omega arith in
    ap (λ n. take n (byte ∷ next ∷ more)) e

strip_by : (test : Bool) (byte next : ℕ) (more : List ℕ) → is_ascii_digit byte ≡ true
    → begins (cond test (take (length (byte ∷ next ∷ more) - 1) (byte ∷ next ∷ more)) (byte ∷ next ∷ more)) ≡ true
strip_by true byte next more h = rw (shorter byte next more) h
strip_by false byte next more h = h

strip_begins : (byte : ℕ) (text : List ℕ) → is_ascii_digit byte ≡ true
    → begins (strip_carriage_return (byte ∷ text)) ≡ true
strip_begins byte [] h = rw ((no_end byte h).1) h
strip_begins byte (next ∷ more) h =
    strip_by (get_or (byte ∷ next ∷ more) (length (byte ∷ next ∷ more) - 1) 0 == 13) byte next more h

as_head : (text : List ℕ) (rest : List (List ℕ)) → begins text ≡ true → BeginsWithHead (text ∷ rest)
as_head [] rest h = absurd cc
as_head (byte ∷ text) rest h = h

parts_begin : (byte : ℕ) (parts : List (List ℕ)) → is_ascii_digit byte ≡ true
    → BeginsWithHead (lines_of_parts (onto_first byte parts))
parts_begin byte [] h = h
parts_begin byte (part ∷ []) h = rw (ne_eqb (length (byte ∷ part)) 0 (λ z. omega arith)) h
parts_begin byte (part ∷ next ∷ more) h =
    as_head (strip_carriage_return (byte ∷ part)) (lines_of_parts (next ∷ more)) (strip_begins byte part h)

pub head_first : (text : List ℕ) → begins text ≡ true → BeginsWithHead (lines text)
head_first [] h = absurd cc
head_first (byte ∷ text) h =
    rw ((no_end byte h).0) (parts_begin byte (slice_split (λ b. b == 10) text) h)
