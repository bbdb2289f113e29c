-- Heads of replies that tell no execution begin no item.
use Rattle.std.proofs.Common.{ℕ, ◌≡◌, ◌∙◌, ◌<◌, ◌||◌, ◌^◌, List, [], ◌∷◌, ◌++◌, codes, false, true, None}
use Rattle.std.proofs.Common.{append_assoc, arith, ap, refl, subst, sym}
use Rattle.std.proofs.lemmas.List.{same_from_push}
use Rattle.row_values.specs.Names.{canonical_name}
use Rattle.script_report.specs.Replies.{reply_text}
use Rattle.script_report.specs.declared.replies.Reply.{Reply}
use Rattle.script_report.specs.declared.replies.Reply.TheVariants.{Closed, Evicted, Indexed, Loaded, Prepared}
use Rattle.std.specs.Fmt.{decimal}
use Rattle.std.specs.Str.{bytes_eq}
use Rattle.std.specs.Str.Lines.{lines}
use Rattle.std.proofs.lemmas.Fmt.{digits_decimal}
use Rattle.report_items.specs.Heads.{behind, first_word, heading_of, is_of_execution, too_large_in}
use Rattle.report_items.specs.Items.{item_at, items_in, items_of}
use Rattle.report_items.specs.Written.{IsNumber}
use Rattle.report_items.proofs.WrittenHeads.{numbered_read, numerals, split_read}
use Rattle.reported_items.specs.Reported.{IsPlainHead, Stays, is_one_line, is_other}
use Rattle.reported_items.proofs.Pieces.{items, line_first}
use Rattle.reported_items.proofs.ToldExecutions.{number_head}

-- what stands behind a line's number, where that tells no execution and no line with too many rows
pub record TellsNone (text : List ℕ) : Type 0 where
  pub not_large : bytes_eq text (codes "refused 12 too many rows") ≡ false
  pub not_ran : behind (codes "ran ") text ≡ None
  pub not_opened : behind (codes "opened ") text ≡ None
  pub other_word : (bytes_eq (first_word text) (codes "ran") || bytes_eq (first_word text) (codes "opened")) ≡ false

module _ (line : ℕ) (text : List ℕ) (is : IsNumber line) (none : TellsNone text) where
  not_large : too_large_in (decimal line ++ 32 ∷ text) ≡ None
  unfolding too_large_in
  not_large = let n = none.not_large in rw (numbered_read line text is, n) refl

  no_heading : heading_of (decimal line ++ 32 ∷ text) ≡ None
  unfolding heading_of
  no_heading =
      let ran = none.not_ran in
      let opened = none.not_opened in
      rw (numbered_read line text is, ran, opened) refl

  no_execution : is_of_execution (decimal line ++ 32 ∷ text) ≡ false
  no_execution =
      let small : line < 2 ^ 63 = is.small in
      let word = none.other_word in
      rw (split_read (decimal line) text (digits_decimal numerals line (omega arith)), word) refl

  pub no_item : (more : List (List ℕ)) → item_at (decimal line ++ 32 ∷ text) more ≡ None
  unfolding item_at
  no_item more = rw (not_large, no_heading, no_execution) refl

  -- such a head begins no item
  pub other_head : (rest : List ℕ) → is_one_line (decimal line ++ 32 ∷ text) ≡ true
      → Stays (decimal line ++ 32 ∷ text) → items ((decimal line ++ 32 ∷ text) ++ 10 ∷ rest) ≡ items rest
  other_head rest one stays =
      ap items_in (line_first (decimal line ++ 32 ∷ text) rest one
      ∙ ap (λ (z : List ℕ). z ∷ lines rest) stays)
      ∙ rw (number_head line (32 ∷ text), no_item (lines rest)) refl

-- Replies of one line.

same_front : (a b : List ℕ) → a ++ 10 ∷ [] ≡ b ++ 10 ∷ [] → a ≡ b
same_front a b e = (same_from_push a b 10 10 e).0

-- a reply whose head is this
one_head : (line : ℕ) (told text : List ℕ) (reply : Reply) → IsNumber line → TellsNone told
    → reply_text line reply ≡ (decimal line ++ 32 ∷ told) ++ 10 ∷ [] → reply_text line reply ≡ text ++ 10 ∷ []
    → IsPlainHead text → items_of (reply_text line reply) ≡ []
unfolding items_of
one_head line told text reply is none e f plain =
    let same : text ≡ decimal line ++ 32 ∷ told = same_front text (decimal line ++ 32 ∷ told) (sym f ∙ e) in
    let this = subst IsPlainHead same plain in
    ap items e ∙ other_head line told is none [] this.one this.stays

pub others_read : (line : ℕ) (text : List ℕ) (reply : Reply) → IsNumber line → is_other reply ≡ true
    → reply_text line reply ≡ text ++ 10 ∷ [] → IsPlainHead text → items_of (reply_text line reply) ≡ []
others_read line text (Loaded table rows columns) is other e plain =
    one_head line (codes "loaded " ++ (canonical_name table ++ (codes " rows " ++ (decimal rows ++ (codes " columns "
    ++ decimal columns))))) text (Loaded table rows columns) is
    (record { not_large = refl; not_ran = refl; not_opened = refl; other_word = refl }) (simp append_assoc) e plain
others_read line text (Indexed table column) is other e plain =
    one_head line (codes "indexed " ++ (canonical_name table ++ (codes " " ++ canonical_name column))) text
    (Indexed table column) is (record { not_large = refl; not_ran = refl; not_opened = refl; other_word = refl })
    (simp append_assoc) e plain
others_read line text (Prepared name tables predicates parameters) is other e plain =
    one_head line (codes "prepared " ++ (canonical_name name ++ (codes " tables " ++ (decimal tables
    ++ (codes " predicates " ++ (decimal predicates ++ (codes " parameters " ++ decimal parameters))))))) text
    (Prepared name tables predicates parameters) is
    (record { not_large = refl; not_ran = refl; not_opened = refl; other_word = refl }) (simp append_assoc) e plain
others_read line text (Closed cursor) is other e plain =
    one_head line (codes "closed " ++ canonical_name cursor) text (Closed cursor) is
    (record { not_large = refl; not_ran = refl; not_opened = refl; other_word = refl }) (simp append_assoc) e plain
others_read line text (Evicted name plan anchors) is other e plain =
    one_head line (codes "evicted " ++ (canonical_name name ++ (codes " plan " ++ (decimal plan ++ (codes " anchors "
    ++ decimal anchors))))) text (Evicted name plan anchors) is
    (record { not_large = refl; not_ran = refl; not_opened = refl; other_word = refl }) (simp append_assoc) e plain
others_read line text reply is other e plain = absurd cc
