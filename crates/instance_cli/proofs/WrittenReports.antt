-- The report of a run has no byte order mark in front.
use Rattle.std.proofs.Common.{ℕ, ◌≡◌, ◌<◌, ◌^◌, ◌+◌, ◌==◌, List, [], ◌∷◌, ◌++◌, Bool, true, false, arith, codes, not, refl}
use Rattle.std.proofs.Common.{ap}
use Rattle.std.proofs.Common.{◌∙◌, ◌≤◌, append_assoc, drop, slice_index, length, nat_lt, subst, sym, if◌then◌else◌}
use Rattle.std.specs.Fmt.{decimal}
use Rattle.std.specs.Str.{IsAscii}
use Rattle.std.specs.Str.Lines.{lines}
use Rattle.std.proofs.lemmas.Fmt.{IsAscii-decimal, decimal_nonempty}
use Rattle.std.proofs.lemmas.Bool.{ne_eqb}
use Rattle.std.proofs.lemmas.List.{length-drop}
use Rattle.row_values.specs.Names.{canonical_name}
use Rattle.script_report.specs.Commands.{reading_of}
use Rattle.script_report.specs.Replies.{reply_text}
use Rattle.script_report.specs.declared.replies.Reply.{Reply}
use Rattle.script_report.specs.declared.replies.Reply.TheVariants as reply
use Rattle.session_model.specs.Run.{Line, is_silent, report_text, spoken_from, spoken_lines}
use Rattle.reported_items.specs.Reported.{AreNumbered}
use Rattle.instance_cli.specs.Texts.{unmarked}
use Rattle.instance_cli.proofs.Scripts.{few_lines}

-- whether a text doesn't begin as a byte order mark does
abbrev begins_unmarked : List ℕ → Bool
begins_unmarked [] = true
begins_unmarked (byte ∷ text) = not (byte == 239)

begins_with : (first rest : List ℕ) → begins_unmarked first ≡ true → begins_unmarked rest ≡ true
    → begins_unmarked (first ++ rest) ≡ true
begins_with [] rest a b = b
begins_with (byte ∷ first) rest a b = a

ascii_begins : (text : List ℕ) → IsAscii text → begins_unmarked text ≡ true
ascii_begins [] h = refl
ascii_begins (byte ∷ text) h = other byte (h 0)
  where
    other : (b : ℕ) → b < 128 → not (b == 239) ≡ true
    other b small =
        let differs : (b == 239) ≡ false = ne_eqb b 239 (λ e. let same : b ≡ 239 = e in omega (arith, small, same)) in
        ap not differs

number_begins : (number : ℕ) (rest : List ℕ) → number < 2 ^ 64 → begins_unmarked (decimal number ++ rest) ≡ true
number_begins number rest small =
    by (decimal number) (IsAscii-decimal number small) (decimal_nonempty number small)
  where
    by : (digits : List ℕ) → IsAscii digits → 0 < length digits → begins_unmarked (digits ++ rest) ≡ true
    by [] h some = absurd (omega (arith, some))
    by (byte ∷ digits) h some = ascii_begins (byte ∷ digits) h

to_the_right : (a b c d e : List ℕ) → (((a ++ b) ++ c) ++ d) ++ e ≡ a ++ (b ++ (c ++ (d ++ e)))
to_the_right a b c d e =
    append_assoc ((a ++ b) ++ c) d e ∙ append_assoc (a ++ b) c (d ++ e) ∙ append_assoc a b (c ++ (d ++ e))

reply_begins : (number : ℕ) (answer : Reply) → number < 2 ^ 64 → begins_unmarked (reply_text number answer) ≡ true
reply_begins number (reply.Loaded table rows columns) small = number_begins number _ small
reply_begins number (reply.Indexed table column) small =
    subst (λ (t : List ℕ). begins_unmarked t ≡ true)
    (sym (append_assoc (((decimal number ++ codes " indexed ") ++ canonical_name table) ++ codes " ")
    (canonical_name column) (codes "\n")
    ∙ to_the_right (decimal number) (codes " indexed ") (canonical_name table) (codes " ")
    (canonical_name column ++ codes "\n")))
    (number_begins number _ small)
reply_begins number (reply.Prepared name tables predicates parameters) small = number_begins number _ small
reply_begins number (reply.Ran execution rows) small = number_begins number _ small
reply_begins number (reply.Opened cursor execution) small = number_begins number _ small
reply_begins number (reply.Fetched cursor rows left) small = number_begins number _ small
reply_begins number (reply.Closed cursor) small = number_begins number _ small
reply_begins number (reply.Evicted name plan anchors) small = number_begins number _ small
reply_begins number (reply.Shown name plans anchors) small = number_begins number _ small
reply_begins number (reply.Refused refusal) small = number_begins number _ small
reply_begins number reply.Spent small = refl

report_begins : (lines : List Line) (replies : List Reply) → AreNumbered lines
    → begins_unmarked (report_text lines replies) ≡ true
report_begins [] replies h = refl
report_begins (line ∷ lines) [] h = refl
report_begins (line ∷ lines) (answer ∷ replies) h =
    begins_with (reply_text line.number answer) (report_text lines replies) (reply_begins line.number answer h.0)
    (report_begins lines replies h.1)

unmarked_same : (text : List ℕ) → begins_unmarked text ≡ true → unmarked text ≡ text
unmarked_same [] h = refl
unmarked_same (byte ∷ text) h = rw h (by (nat_lt (length (byte ∷ text)) 3) (byte ∷ text))
  where
    by : (short : Bool) (bytes : List ℕ) → (if short then bytes else bytes) ≡ bytes
    by true bytes = refl
    by false bytes = refl

-- The numbers of lines.

spoken_numbered : (number : ℕ) (texts : List (List ℕ)) → number + length texts < 2 ^ 64
    → AreNumbered (spoken_from number texts)
spoken_numbered number [] few = tt
spoken_numbered number (text ∷ texts) few =
    by (is_silent (reading_of text)) (spoken_numbered (number + 1) texts (omega (arith, few)))
  where
    by : (silent : Bool) → AreNumbered (spoken_from (number + 1) texts)
        → AreNumbered (if silent then spoken_from (number + 1) texts else
        (record { number = number; text = text }) ∷ spoken_from (number + 1) texts)
    by true h = h
    by false h = (omega (arith, few), h)

pub script_numbered : (script : List ℕ) → length script < 2 ^ 62 → AreNumbered (spoken_lines script)
script_numbered script short =
    let few = few_lines script in
    spoken_numbered 1 (lines script) (omega (arith, few, short))

-- a report that a run wrote is read as it stands
pub report_unmarked : (lines : List Line) (replies : List Reply) → AreNumbered lines
    → unmarked (report_text lines replies) ≡ report_text lines replies
report_unmarked lines replies numbered =
    unmarked_same (report_text lines replies) (report_begins lines replies numbered)

pub unmarked_shorter : (bytes : List ℕ) → length (unmarked bytes) ≤ length bytes
unmarked_shorter bytes =
    by (nat_lt (length bytes) 3) (not (slice_index bytes 0 == 239)) (not (slice_index bytes 1 == 187))
    (not (slice_index bytes 2 == 191))
  where
    by : (a b c d : Bool) → length (if a then bytes else if b then bytes else if c then bytes else if d then bytes else
        drop 3 bytes) ≤ length bytes
    by true b c d = omega arith
    by false true c d = omega arith
    by false false true d = omega arith
    by false false false true = omega arith
    by false false false false = omega (arith, length-drop 3 bytes)
