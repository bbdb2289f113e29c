-- The items of replies whose texts are of one line each, and of reports of them.
use Rattle.std.proofs.Common.{ℕ, suc, ◌≡◌, ◌∙◌, ◌<◌, ◌+◌, ◌^◌, ◌==◌, ◌||◌, List, [], ◌∷◌, ◌++◌, codes, length, take}
use Rattle.std.proofs.Common.{false, ap, append_assoc, append-nil, arith, refl, sym}
use Rattle.std.specs.Fmt.{decimal}
use Rattle.std.specs.List.{position_or_len}
use Rattle.std.specs.Str.{bytes_eq}
use Rattle.row_values.specs.Names.{canonical_name}
use Rattle.script_report.specs.Executions.{numbers_text}
use Rattle.script_report.specs.Replies.{lines_text, reply_text}
use Rattle.script_report.specs.Shown.{anchors_text, plans_text, shown_anchor_line, shown_plan_line}
use Rattle.script_report.specs.declared.replies.Reply.{Reply}
use Rattle.script_report.specs.declared.replies.Reply.TheVariants.{Closed, Evicted, Fetched, Indexed, Loaded}
use Rattle.script_report.specs.declared.replies.Reply.TheVariants.{Opened, Prepared, Ran, Refused, Shown, Spent}
use Rattle.script_report.specs.declared.shown.ShownAnchor.{ShownAnchor}
use Rattle.script_report.specs.declared.shown.ShownPlan.{ShownPlan}
use Rattle.report_items.specs.Heads.{first_word, is_space}
use Rattle.report_items.specs.Items.{items_of}
use Rattle.report_items.specs.Written.{IsNumber}
use Rattle.session_model.specs.Run.{Line, report_text}
use Rattle.reported_items.specs.Reported.{AreNumbered, AreRows, items_told}
use Rattle.reported_items.specs.RunItems.{reply_items, run_items}
use Rattle.reported_items.proofs.OtherHeads.{TellsNone}
use Rattle.reported_items.proofs.OtherRefusals.{refusal_items}
use Rattle.reported_items.proofs.Pieces.{IsEnded, ended_behind, items, line_end}
use Rattle.reported_items.proofs.PlainReplies.{ArePlainPlans, ArePlainReplies, IsLineName, IsPlainReply}
use Rattle.reported_items.proofs.Reports.{items_each}
use Rattle.reported_items.proofs.Silent.{letter_head, letter_line, only_head}
use Rattle.reported_items.proofs.ToldExecutions.{last_quiet, number_behind, numbers_one_line, opened_items, ran_items}
use Rattle.reported_items.proofs.ToldExecutions.{rows_quiet}

-- Words behind a line's number that are no item's: loaded, indexed, prepared, fetched, closed, evicted, shown.

-- the first word begins as the text does
word_first : (byte : ℕ) (m : List ℕ) → (byte == 32) ≡ false → first_word (byte ∷ m) ≡ byte ∷ first_word m
word_first byte m h = rw h (longer (position_or_len is_space m))
  where
    longer : (k : ℕ) → take (1 + k) (byte ∷ m) ≡ byte ∷ take k m
    longer k = let e : 1 + k ≡ suc k = omega arith in ap (λ n. take n (byte ∷ m)) e

-- a word that begins with another letter than `ran` and `opened` is none of them
other_by : (byte : ℕ) (m : List ℕ) → (byte == 32) ≡ false → (byte == 114) ≡ false → (byte == 111) ≡ false
    → (bytes_eq (first_word (byte ∷ m)) (codes "ran") || bytes_eq (first_word (byte ∷ m)) (codes "opened")) ≡ false
other_by byte m space r o =
    ap (λ (z : List ℕ). bytes_eq z (codes "ran") || bytes_eq z (codes "opened")) (word_first byte m space)
    ∙ rw (r, o) refl

-- `loaded`
letter_l : (m : List ℕ) → TellsNone (108 ∷ m)
letter_l m = record { not_large = refl; not_ran = refl; not_opened = refl; other_word = other_by 108 m refl refl refl }

-- `indexed`
letter_i : (m : List ℕ) → TellsNone (105 ∷ m)
letter_i m = record { not_large = refl; not_ran = refl; not_opened = refl; other_word = other_by 105 m refl refl refl }

-- `prepared`
letter_p : (m : List ℕ) → TellsNone (112 ∷ m)
letter_p m = record { not_large = refl; not_ran = refl; not_opened = refl; other_word = other_by 112 m refl refl refl }

-- `fetched`
letter_f : (m : List ℕ) → TellsNone (102 ∷ m)
letter_f m = record { not_large = refl; not_ran = refl; not_opened = refl; other_word = other_by 102 m refl refl refl }

-- `closed`
letter_c : (m : List ℕ) → TellsNone (99 ∷ m)
letter_c m = record { not_large = refl; not_ran = refl; not_opened = refl; other_word = other_by 99 m refl refl refl }

-- `evicted`
letter_e : (m : List ℕ) → TellsNone (101 ∷ m)
letter_e m = record { not_large = refl; not_ran = refl; not_opened = refl; other_word = other_by 101 m refl refl refl }

-- `shown`
letter_s : (m : List ℕ) → TellsNone (115 ∷ m)
letter_s m = record { not_large = refl; not_ran = refl; not_opened = refl; other_word = other_by 115 m refl refl refl }

-- a name before what ends a line
name_behind : (name : List ℕ) {b : List ℕ} → IsLineName name → IsEnded b → IsEnded (canonical_name name ++ b)
name_behind name h e = ended_behind (canonical_name name) h.line e

-- Fetches.

-- the last line of a fetch is no item
end_items : (count left : ℕ)
    → items (codes "end " ++ (decimal count ++ (codes " left " ++ (decimal left ++ codes "\n")))) ≡ []
end_items count left =
    let end : List ℕ = codes "end " ++ (decimal count ++ (codes " left " ++ (decimal left ++ codes "\n"))) in
    ap items (sym (append-nil end))
    ∙ letter_line 101 _ [] refl refl refl
    (ended_behind (codes "end ") refl (number_behind count (ended_behind (codes " left ") refl (number_behind left
    line_end))))

-- nor is a fetch
fetched_items : (line : ℕ) (cursor : List ℕ) (rows : List (List ℕ)) (left : ℕ) → IsNumber line → IsLineName cursor
    → AreRows rows → items_of (reply_text line (Fetched cursor rows left)) ≡ []
unfolding items_of
fetched_items line cursor rows left is name h =
    let end : List ℕ = codes "end " ++ (decimal (length rows) ++ (codes " left " ++ (decimal left ++ codes "\n"))) in
    let whole : reply_text line (Fetched cursor rows left)
    ≡ (decimal line ++ 32 ∷ (codes "fetched " ++ (canonical_name cursor ++ codes "\n"))) ++ (lines_text rows ++ end) =
    simp append_assoc in
    let quiet = rows_quiet rows h in
    ap items whole
    ∙ letter_head line is 102 _ (lines_text rows ++ end) refl refl letter_f
    (ended_behind (codes "fetched ") refl (name_behind cursor name line_end))
    ∙ quiet.begun end
    ∙ end_items (length rows) left

-- Shown caches.

-- no item begins in a shown plan's line
plan_begun : (plan : ShownPlan) (plans : List ShownPlan) (rest : List ℕ) → ArePlainPlans (plan ∷ plans)
    → items (shown_plan_line plan ++ rest) ≡ items rest
plan_begun plan plans rest h =
    letter_line 112 _ rest refl refl refl
    (ended_behind (codes "plan ") refl (number_behind plan.number (ended_behind (codes " uses ") refl
    (number_behind plan.uses (ended_behind (codes " ") refl (ended_behind plan.text h.0 line_end))))))

-- nor in those of all plans
plans_begun : (plans : List ShownPlan) (rest : List ℕ) → ArePlainPlans plans
    → items (plans_text plans ++ rest) ≡ items rest
plans_begun [] rest h = refl
plans_begun (plan ∷ plans) rest h =
    ap items (append_assoc (shown_plan_line plan) (plans_text plans) rest)
    ∙ plan_begun plan plans (plans_text plans ++ rest) h
    ∙ plans_begun plans rest h.1

-- nor in an anchor's line
anchor_begun : (a : ShownAnchor) (rest : List ℕ) → items (shown_anchor_line a ++ rest) ≡ items rest
anchor_begun a rest =
    letter_line 97 _ rest refl refl refl
    (ended_behind (codes "anchor ") refl (number_behind a.execution (ended_behind (codes " plan ") refl
    (number_behind a.plan (ended_behind (codes " uses ") refl (number_behind a.uses (ended_behind (codes " cost ") refl
    (number_behind a.cost (ended_behind (codes " least ") refl (number_behind a.least (ended_behind (codes " ") refl
    (ended_behind (codes "at") refl (ended_behind (numbers_text a.at) (numbers_one_line a.at) line_end)))))))))))))

-- nor in those of all anchors
anchors_begun : (anchors : List ShownAnchor) (rest : List ℕ) → items (anchors_text anchors ++ rest) ≡ items rest
anchors_begun [] rest = refl
anchors_begun (a ∷ anchors) rest =
    ap items (append_assoc (shown_anchor_line a) (anchors_text anchors) rest)
    ∙ anchor_begun a (anchors_text anchors ++ rest)
    ∙ anchors_begun anchors rest

-- a cache that is shown is no item
shown_items : (line : ℕ) (name : List ℕ) (plans : List ShownPlan) (anchors : List ShownAnchor) → IsNumber line
    → IsLineName name → ArePlainPlans plans → items_of (reply_text line (Shown name plans anchors)) ≡ []
unfolding items_of
shown_items line name plans anchors is named h =
    let whole : reply_text line (Shown name plans anchors)
    ≡ (decimal line ++ 32 ∷ (codes "shown " ++ (canonical_name name ++ (codes " plans " ++ (decimal (length plans)
    ++ (codes " anchors " ++ (decimal (length anchors) ++ codes "\n"))))))) ++ (plans_text plans
    ++ (anchors_text anchors ++ codes "end\n")) = simp append_assoc in
    ap items whole
    ∙ letter_head line is 115 _ (plans_text plans ++ (anchors_text anchors ++ codes "end\n")) refl refl letter_s
    (ended_behind (codes "shown ") refl (name_behind name named (ended_behind (codes " plans ") refl
    (number_behind (length plans) (ended_behind (codes " anchors ") refl (number_behind (length anchors) line_end))))))
    ∙ plans_begun plans (anchors_text anchors ++ codes "end\n") h
    ∙ anchors_begun anchors (codes "end\n")
    ∙ last_quiet.begun []

-- Indexes.

-- an index is no item
indexed_items : (line : ℕ) (table column : List ℕ) → IsNumber line → IsLineName table → IsLineName column
    → items_of (reply_text line (Indexed table column)) ≡ []
indexed_items line table column is h k =
    let whole : reply_text line (Indexed table column)
    ≡ decimal line ++ 32 ∷ (codes "indexed " ++ (canonical_name table ++ (codes " " ++ (canonical_name column
    ++ codes "\n")))) = simp append_assoc in
    ap items_of whole
    ∙ only_head line is 105 _ refl refl letter_i
    (ended_behind (codes "indexed ") refl (name_behind table h (ended_behind (codes " ") refl (name_behind column k
    line_end))))

-- Replies.

-- the items of a reply whose texts are of one line each
pub plain_items : (line : ℕ) (answer : Reply) → IsNumber line → IsPlainReply answer
    → items_of (reply_text line answer) ≡ reply_items line answer
plain_items line (Loaded table rows columns) is h =
    only_head line is 108 _ refl refl letter_l
    (ended_behind (codes "loaded ") refl (name_behind table h (ended_behind (codes " rows ") refl
    (number_behind rows (ended_behind (codes " columns ") refl (number_behind columns line_end))))))
plain_items line (Indexed table column) is h = indexed_items line table column is h.0 h.1
plain_items line (Prepared name tables predicates parameters) is h =
    only_head line is 112 _ refl refl letter_p
    (ended_behind (codes "prepared ") refl (name_behind name h (ended_behind (codes " tables ") refl
    (number_behind tables (ended_behind (codes " predicates ") refl (number_behind predicates
    (ended_behind (codes " parameters ") refl (number_behind parameters line_end))))))))
plain_items line (Ran execution rows) is h = ran_items line execution rows is h.0 h.1
plain_items line (Opened cursor execution) is h =
    let name = h.0 in opened_items line cursor execution is name.named name.line h.1
plain_items line (Fetched cursor rows left) is h = fetched_items line cursor rows left is h.0 h.1
plain_items line (Closed cursor) is h =
    only_head line is 99 _ refl refl letter_c (ended_behind (codes "closed ") refl (name_behind cursor h line_end))
plain_items line (Evicted name plan anchors) is h =
    only_head line is 101 _ refl refl letter_e
    (ended_behind (codes "evicted ") refl (name_behind name h (ended_behind (codes " plan ") refl
    (number_behind plan (ended_behind (codes " anchors ") refl (number_behind anchors line_end))))))
plain_items line (Shown name plans anchors) is h = shown_items line name plans anchors is h.0 h.1
plain_items line (Refused why) is h = refusal_items line why is h
plain_items line Spent is h = absurd h

-- Reports.

-- the numbers of the lines have 63 bits, and none is zero
abbrev pub AreLineNumbers : List Line → Type 0
AreLineNumbers [] = Unit {0}
AreLineNumbers (line ∷ lines) = IsNumber line.number × AreLineNumbers lines

-- so they have 64 bits
numbered_lines : (lines : List Line) → AreLineNumbers lines → AreNumbered lines
numbered_lines [] h = tt
numbered_lines (line ∷ lines) h = (wider line.number h.0, numbered_lines lines h.1)
  where
    wider : (n : ℕ) → IsNumber n → n < 2 ^ 64
    wider n is = let small : n < 2 ^ 63 = is.small in omega arith

-- the items of each reply
told_each : (lines : List Line) (replies : List Reply) → AreLineNumbers lines → ArePlainReplies lines replies
    → items_told lines replies ≡ run_items lines replies
told_each [] replies h k = refl
told_each (line ∷ lines) [] h k = refl
told_each (line ∷ lines) (reply ∷ replies) h k =
    (λ i. plain_items line.number reply h.0 k.0 i ++ told_each lines replies h.1 k.1 i)

-- the items of a report of such replies
pub plain_report : (lines : List Line) (replies : List Reply) → AreLineNumbers lines → ArePlainReplies lines replies
    → items_of (report_text lines replies) ≡ run_items lines replies
plain_report lines replies h k =
    items_each lines replies (numbered_lines lines h) ∙ told_each lines replies h k
