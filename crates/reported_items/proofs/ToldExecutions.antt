-- Executions are read as blocks, and too many rows as that.
use Rattle.std.proofs.Common.{ℕ, ◌≡◌, ◌∙◌, ◌<◌, List, [], ◌∷◌, ◌++◌, codes, length, true, false, Option}
use Rattle.std.proofs.Common.{Some, None}
use Rattle.std.proofs.Common.{ap, append_assoc, append-nil, arith, refl, sym, subst}
use Rattle.std.specs.Char.{is_ascii_digit}
use Rattle.std.specs.Fmt.{decimal}
use Rattle.std.specs.Fmt as fmt
use Rattle.std.specs.Str.{all_ascii_digits}
use Rattle.std.specs.Str.Lines.{lines}
use Rattle.std.proofs.lemmas.Bool.{and_parts}
use Rattle.row_values.specs.Names.{canonical_name}
use Rattle.row_values.specs.Refusals.{too_many_rows}
use Rattle.sql_parser.specs.Statement.{is_name}
use Rattle.bound_certificate.specs.Certificates.{certificate_text}
use Rattle.script_report.specs.Executions.{at_line, by_line, evicted_line, execution_text, kept_line, numbers_text}
use Rattle.script_report.specs.Replies.{lines_text, reply_text}
use Rattle.script_report.specs.declared.replies.By.{By}
use Rattle.script_report.specs.declared.replies.By.TheVariants as by
use Rattle.script_report.specs.declared.replies.Execution.{Execution}
use Rattle.script_report.specs.declared.replies.KeptNote.{KeptNote}
use Rattle.script_report.specs.declared.replies.KeptNote.TheVariants as kept
use Rattle.script_report.specs.declared.replies.Reply.TheVariants.{Opened, Ran, Refused}
use Rattle.report_items.specs.Blocks.{claim_in, claim_told, is_told, told_lines}
use Rattle.report_items.specs.Heads.{heading_of, is_head, too_large_in}
use Rattle.report_items.specs.Items.{claimed, item_at, items_in, items_of}
use Rattle.report_items.specs.Written.{IsNumber, opened_head, ran_head, too_large_head}
use Rattle.report_items.specs.declared.heads.Heading.{Heading}
use Rattle.report_items.specs.declared.items.ReportItem.{ReportItem}
use Rattle.report_items.specs.declared.items.ReportItem.TheVariants.{TooLarge}
use Rattle.report_items.proofs.WrittenHeads.{numbered_read, opened_read, ran_read, too_large_read}
use Rattle.reported_items.specs.Reported.{AreRows, IsPlain, IsRow, Stays, block_told, is_one_line}
use Rattle.reported_items.proofs.Pieces.{IsEnded, IsQuiet, IsQuietByte, decimal_digits, decimal_one_line}
use Rattle.reported_items.proofs.Pieces.{decimal_some, end_stays}
use Rattle.reported_items.proofs.Pieces.{ended_behind, items, line_end, line_first, nothing_quiet, number_stays}
use Rattle.reported_items.proofs.Pieces.{one_line_both, quiet_both, quiet_text, tells}

-- Lines that tell nothing.

letter_a : IsQuietByte 97
letter_a = record { digit = refl; return = refl; plan = refl; cost = refl }

letter_b : IsQuietByte 98
letter_b = record { digit = refl; return = refl; plan = refl; cost = refl }

letter_e : IsQuietByte 101
letter_e = record { digit = refl; return = refl; plan = refl; cost = refl }

letter_k : IsQuietByte 107
letter_k = record { digit = refl; return = refl; plan = refl; cost = refl }

letter_r : IsQuietByte 114
letter_r = record { digit = refl; return = refl; plan = refl; cost = refl }

pub numbers_one_line : (numbers : List ℕ) → is_one_line (numbers_text numbers) ≡ true
numbers_one_line [] = refl
numbers_one_line (n ∷ numbers) =
    one_line_both (codes " " ++ decimal n) (numbers_text numbers)
    (one_line_both (codes " ") (decimal n) refl (decimal_one_line n)) (numbers_one_line numbers)

pub number_behind : (n : ℕ) {b : List ℕ} → IsEnded b → IsEnded (decimal n ++ b)
number_behind n e = ended_behind (decimal n) (decimal_one_line n) e

at_quiet : (at : List ℕ) → IsQuiet (at_line at)
at_quiet at = quiet_text 97 _ letter_a refl
    (ended_behind (codes "at") refl (ended_behind (numbers_text at) (numbers_one_line at) line_end))

by_quiet : (b : By) → IsQuiet (by_line b)
by_quiet (by.Selectivity anchor plan) = quiet_text 98 _ letter_b refl
    (ended_behind (codes "by selectivity ") refl (number_behind anchor (ended_behind (codes " plan ") refl
    (number_behind plan line_end))))
by_quiet (by.Cost anchor plan tried) = quiet_text 98 _ letter_b refl
    (ended_behind (codes "by cost ") refl (number_behind anchor (ended_behind (codes " plan ") refl
    (number_behind plan (ended_behind (codes " tried ") refl (number_behind tried line_end))))))
by_quiet (by.Optimum tried) = quiet_text 98 _ letter_b refl
    (ended_behind (codes "by optimum tried ") refl (number_behind tried line_end))

evicted_quiet : (gone : Option (ℕ × ℕ)) → IsQuiet (evicted_line gone)
evicted_quiet None = nothing_quiet
evicted_quiet (Some (plan, anchors)) = quiet_text 101 _ letter_e refl
    (ended_behind (codes "evicted plan ") refl (number_behind plan (ended_behind (codes " anchors ") refl
    (number_behind anchors line_end))))

kept_quiet : (note : KeptNote) → IsQuiet (kept_line note)
kept_quiet kept.Reused = nothing_quiet
kept_quiet (kept.New plan) = quiet_text 107 _ letter_k refl
    (ended_behind (codes "kept plan ") refl (number_behind plan
    (record { line = codes " new"; ends = refl; one = refl })))
kept_quiet (kept.Old plan) = quiet_text 107 _ letter_k refl
    (ended_behind (codes "kept plan ") refl (number_behind plan line_end))
kept_quiet kept.Nothing = quiet_text 107 _ letter_k refl
    (record { line = codes "kept nothing"; ends = refl; one = refl })

row_quiet : (row : List ℕ) → IsRow row → IsQuiet (row ++ codes "\n")
row_quiet row r =
    subst (λ (z : List ℕ). IsQuiet (z ++ codes "\n")) (sym r.spelled)
    (quiet_text 114 _ letter_r refl
    (ended_behind (codes "row " ++ r.text) (one_line_both (codes "row ") r.text refl r.one) line_end))

pub rows_quiet : (rows : List (List ℕ)) → AreRows rows → IsQuiet (lines_text rows)
rows_quiet [] h = nothing_quiet
rows_quiet (row ∷ rows) h =
    quiet_both (row ++ codes "\n") (lines_text rows) (row_quiet row h.0) (rows_quiet rows h.1)

end_quiet : (n : ℕ) → IsQuiet (codes "end " ++ (decimal n ++ codes "\n"))
end_quiet n = quiet_text 101 _ letter_e refl (ended_behind (codes "end ") refl (number_behind n line_end))

pub last_quiet : IsQuiet (codes "end\n")
last_quiet = quiet_text 101 _ letter_e refl (record { line = codes "end"; ends = refl; one = refl })

-- Lines that tell something.

told_first : (line rest : List ℕ) → is_one_line line ≡ true → Stays line → is_head line ≡ false → is_told line ≡ true
    → tells (line ++ 10 ∷ rest) ≡ line ∷ tells rest
told_first line rest one stays head told =
    ap told_lines (line_first line rest one ∙ ap (λ (z : List ℕ). z ∷ lines rest) stays) ∙ rw (head, told) refl

begun_later : (line rest : List ℕ) → is_one_line line ≡ true → Stays line → is_head line ≡ false
    → items (line ++ 10 ∷ rest) ≡ items rest
begun_later line rest one stays head =
    ap items_in (line_first line rest one ∙ ap (λ (z : List ℕ). z ∷ lines rest) stays) ∙ rw head refl

-- the lines of an execution behind its head, with such texts between and behind them
abbrev body_of : Execution → List ℕ → List ℕ → List ℕ
body_of e between behind =
    (codes "plan " ++ e.spelled) ++ 10 ∷ ((codes "cost " ++ decimal e.cost) ++ 10 ∷ (between
    ++ ((codes "cert " ++ certificate_text e.cert) ++ 10 ∷ (behind ++ []))))

module _ (e : Execution) (plain : IsPlain e) (between behind : List ℕ) (first : IsQuiet between)
    (last : IsQuiet behind) where
  body_told : tells (body_of e between behind)
      ≡ (codes "plan " ++ e.spelled) ∷ (codes "cost " ++ decimal e.cost) ∷ (codes "cert " ++ certificate_text
      e.cert) ∷ []
  body_told =
      let end : List ℕ = (codes "cert " ++ certificate_text e.cert) ++ 10 ∷ (behind ++ []) in
      let cost : List ℕ = codes "cost " ++ decimal e.cost in
      let plan : List ℕ = codes "plan " ++ e.spelled in
      let certified = told_first (codes "cert " ++ certificate_text e.cert) (behind ++ [])
      (one_line_both (codes "cert ") (certificate_text e.cert) refl plain.cert_line) plain.cert_stays refl refl
      ∙ ap (λ (z : List (List ℕ)). (codes "cert " ++ certificate_text e.cert) ∷ z) (last.told []) in
      told_first plan (cost ++ 10 ∷ (between ++ end)) (one_line_both (codes "plan ") e.spelled refl plain.plan_line)
      plain.plan_stays refl refl
      ∙ ap (λ (z : List (List ℕ)). plan ∷ z)
      (told_first cost (between ++ end) (one_line_both (codes "cost ") (decimal e.cost) refl (decimal_one_line e.cost))
      (number_stays (codes "cost ") e.cost) refl refl
      ∙ ap (λ (z : List (List ℕ)). cost ∷ z) (first.told end ∙ certified))

  body_begun : items (body_of e between behind) ≡ []
  body_begun =
      let end : List ℕ = (codes "cert " ++ certificate_text e.cert) ++ 10 ∷ (behind ++ []) in
      let cost : List ℕ = codes "cost " ++ decimal e.cost in
      let plan : List ℕ = codes "plan " ++ e.spelled in
      begun_later plan (cost ++ 10 ∷ (between ++ end)) (one_line_both (codes "plan ") e.spelled refl plain.plan_line)
      plain.plan_stays refl
      ∙ begun_later cost (between ++ end)
      (one_line_both (codes "cost ") (decimal e.cost) refl (decimal_one_line e.cost)) (number_stays (codes "cost ")
      e.cost)
      refl
      ∙ first.begun end
      ∙ begun_later (codes "cert " ++ certificate_text e.cert) (behind ++ [])
      (one_line_both (codes "cert ") (certificate_text e.cert) refl plain.cert_line) plain.cert_stays refl
      ∙ last.begun []

  body_claimed : claim_in (lines (body_of e between behind))
      ≡ Some (record { plan = e.spelled; cost = decimal e.cost; cert = certificate_text e.cert })
  unfolding claim_in
  body_claimed = ap claim_told body_told

-- Heads.

digits_head : (ds rest : List ℕ) → 0 < length ds → all_ascii_digits ds ≡ true → is_head (ds ++ rest) ≡ true
digits_head [] rest l h = absurd (omega arith)
digits_head (byte ∷ ds) rest l h = (and_parts (is_ascii_digit byte) (all_ascii_digits ds) h).0

pub number_head : (n : ℕ) (rest : List ℕ) → is_head (decimal n ++ rest) ≡ true
number_head n rest = digits_head (decimal n) rest (decimal_some n) (decimal_digits n)

-- a head and the one item that it begins
head_items : (head body : List ℕ) (item : ReportItem) → is_one_line head ≡ true → Stays head → is_head head ≡ true
    → item_at head (lines body) ≡ Some item → items body ≡ [] → items_of (head ++ 10 ∷ body) ≡ item ∷ []
unfolding items_of
head_items head body item one stays is_one begins none =
    ap items_in (line_first head body one ∙ ap (λ (z : List ℕ). z ∷ lines body) stays)
    ∙ rw (is_one, begins) (ap (λ (z : List ReportItem). item ∷ z) none)

execution_item : (head : List ℕ) (heading : Heading) (e : Execution) (body : List (List ℕ)) → too_large_in head ≡ None
    → heading_of head ≡ Some heading
    → claim_in body ≡ Some (record { plan = e.spelled; cost = decimal e.cost; cert = certificate_text e.cert })
    → item_at head body ≡ Some (claimed heading
    (Some (record { plan = e.spelled; cost = decimal e.cost; cert = certificate_text e.cert })))
unfolding item_at
execution_item head heading e body none is claim = rw (none, is, claim) refl

abbrev named : List ℕ → ℕ → List ℕ
named name number = canonical_name name ++ (codes " execution " ++ decimal number)

named_one_line : (e : Execution) → IsPlain e → is_one_line (named e.name e.number) ≡ true
named_one_line e plain =
    one_line_both (canonical_name e.name) (codes " execution " ++ decimal e.number) plain.name_line
    (one_line_both (codes " execution ") (decimal e.number) refl (decimal_one_line e.number))

-- Runs.

ran_one_line : (line : ℕ) (e : Execution) → IsPlain e → is_one_line (ran_head line e.name e.number) ≡ true
ran_one_line line e plain =
    let behind : List ℕ = named e.name e.number in
    one_line_both (decimal line) (codes " ran " ++ behind) (decimal_one_line line)
    (one_line_both (codes " ran ") behind refl (named_one_line e plain))

ran_stays : (line : ℕ) (e : Execution) → Stays (ran_head line e.name e.number)
ran_stays line e =
    let before : List ℕ = decimal line ++ (codes " ran " ++ (canonical_name e.name ++ codes " execution ")) in
    let whole : before ++ decimal e.number ≡ ran_head line e.name e.number = simp append_assoc in
    subst Stays whole (number_stays before e.number)

ran_not_large : (line : ℕ) (e : Execution) → IsNumber line → too_large_in (ran_head line e.name e.number) ≡ None
unfolding too_large_in
ran_not_large line e is = rw (numbered_read line (codes "ran " ++ named e.name e.number) is) refl

abbrev noted : Execution → List ℕ
noted e = at_line e.at ++ (by_line e.by ++ (evicted_line e.evicted ++ kept_line e.kept))

noted_quiet : (e : Execution) → IsQuiet (noted e)
noted_quiet e =
    quiet_both (at_line e.at) (by_line e.by ++ (evicted_line e.evicted ++ kept_line e.kept)) (at_quiet e.at)
    (quiet_both (by_line e.by) (evicted_line e.evicted ++ kept_line e.kept) (by_quiet e.by)
    (quiet_both (evicted_line e.evicted) (kept_line e.kept) (evicted_quiet e.evicted) (kept_quiet e.kept)))

abbrev rows_behind : List (List ℕ) → List ℕ
rows_behind rows = lines_text rows ++ (codes "end " ++ (decimal (length rows) ++ codes "\n"))

ran_text_is : (line : ℕ) (e : Execution) (rows : List (List ℕ)) → reply_text line (Ran e rows)
    ≡ ran_head line e.name e.number ++ 10 ∷ body_of e (noted e) (rows_behind rows)
unfolding execution_text
ran_text_is line e rows = simp (append_assoc, append-nil)

pub ran_items : (line : ℕ) (e : Execution) (rows : List (List ℕ)) → IsNumber line → IsPlain e → AreRows rows
    → items_of (reply_text line (Ran e rows)) ≡ block_told line e ∷ []
ran_items line e rows is plain h =
    let behind : List ℕ = rows_behind rows in
    let last = quiet_both (lines_text rows) (codes "end " ++ (decimal (length rows) ++ codes "\n")) (rows_quiet rows h)
    (end_quiet (length rows)) in
    let heading : Heading = record { line = line; name = e.name; number = e.number } in
    ap items_of (ran_text_is line e rows)
    ∙ head_items (ran_head line e.name e.number) (body_of e (noted e) behind) (block_told line e)
    (ran_one_line line e plain) (ran_stays line e) (number_head line (codes " ran " ++ named e.name e.number))
    (execution_item (ran_head line e.name e.number) heading e (lines (body_of e (noted e) behind))
    (ran_not_large line e is) (ran_read line e.number e.name is plain.number plain.name)
    (body_claimed e plain (noted e) behind (noted_quiet e) last))
    (body_begun e plain (noted e) behind (noted_quiet e) last)

-- Openings.

opened_one_line : (line : ℕ) (cursor : List ℕ) (e : Execution) → is_one_line (canonical_name cursor) ≡ true → IsPlain e
    → is_one_line (opened_head line cursor e.name e.number) ≡ true
opened_one_line line cursor e one plain =
    let behind : List ℕ = codes " " ++ named e.name e.number in
    one_line_both (decimal line) (codes " opened " ++ (canonical_name cursor ++ behind)) (decimal_one_line line)
    (one_line_both (codes " opened ") (canonical_name cursor ++ behind) refl
    (one_line_both (canonical_name cursor) behind one
    (one_line_both (codes " ") (named e.name e.number) refl (named_one_line e plain))))

opened_stays : (line : ℕ) (cursor : List ℕ) (e : Execution) → Stays (opened_head line cursor e.name e.number)
opened_stays line cursor e =
    let before : List ℕ = decimal line ++ (codes " opened " ++ (canonical_name cursor ++ (codes " "
    ++ (canonical_name e.name ++ codes " execution ")))) in
    let whole : before ++ decimal e.number ≡ opened_head line cursor e.name e.number = simp append_assoc in
    subst Stays whole (number_stays before e.number)

opened_not_large : (line : ℕ) (cursor : List ℕ) (e : Execution) → IsNumber line
    → too_large_in (opened_head line cursor e.name e.number) ≡ None
unfolding too_large_in
opened_not_large line cursor e is =
    rw (numbered_read line (codes "opened " ++ (canonical_name cursor ++ (codes " " ++ named e.name e.number))) is) refl

opened_text_is : (line : ℕ) (cursor : List ℕ) (e : Execution) → reply_text line (Opened cursor e)
    ≡ opened_head line cursor e.name e.number ++ 10 ∷ body_of e (noted e) (codes "end\n")
unfolding execution_text
opened_text_is line cursor e = simp (append_assoc, append-nil)

pub opened_items : (line : ℕ) (cursor : List ℕ) (e : Execution) → IsNumber line → is_name cursor ≡ true
    → is_one_line (canonical_name cursor) ≡ true → IsPlain e
    → items_of (reply_text line (Opened cursor e)) ≡ block_told line e ∷ []
opened_items line cursor e is name one plain =
    let heading : Heading = record { line = line; name = e.name; number = e.number } in
    ap items_of (opened_text_is line cursor e)
    ∙ head_items (opened_head line cursor e.name e.number) (body_of e (noted e) (codes "end\n")) (block_told line e)
    (opened_one_line line cursor e one plain) (opened_stays line cursor e)
    (number_head line (codes " opened " ++ (canonical_name cursor ++ (codes " " ++ named e.name e.number))))
    (execution_item (opened_head line cursor e.name e.number) heading e (lines (body_of e (noted e) (codes "end\n")))
    (opened_not_large line cursor e is) (opened_read line e.number cursor e.name is plain.number name plain.name)
    (body_claimed e plain (noted e) (codes "end\n") (noted_quiet e) last_quiet))
    (body_begun e plain (noted e) (codes "end\n") (noted_quiet e) last_quiet)

-- Too many rows.

large_stays : (line : ℕ) → Stays (too_large_head line)
large_stays line = end_stays (decimal line) (codes " refused 12 too many rows") (omega arith) refl

large_item : (line : ℕ) (body : List (List ℕ)) → IsNumber line → item_at (too_large_head line) body ≡ Some (TooLarge
    line)
unfolding item_at
large_item line body is = rw (too_large_read line is) refl

twelve : decimal 12 ≡ codes "12"
unfolding fmt.digits
twelve = refl

large_text_is : (line : ℕ) → reply_text line (Refused too_many_rows) ≡ too_large_head line ++ 10 ∷ []
large_text_is line =
    ap (λ (d : List ℕ). decimal line ++ (codes " refused " ++ (d ++ codes " too many rows\n"))) twelve
    ∙ sym (append_assoc (decimal line) (codes " refused 12 too many rows") (10 ∷ []))

pub large_items : (line : ℕ) → IsNumber line → items_of (reply_text line (Refused too_many_rows)) ≡ TooLarge line ∷ []
large_items line is =
    ap items_of (large_text_is line)
    ∙ head_items (too_large_head line) [] (TooLarge line)
    (one_line_both (decimal line) (codes " refused 12 too many rows") (decimal_one_line line) refl) (large_stays line)
    (number_head line (codes " refused 12 too many rows")) (large_item line (lines []) is) refl
