-- Lines in which no item begins, whatever ends them: a CR at the end changes nothing in front of it.
use Rattle.std.proofs.Common.{ℕ, suc, ◌≡◌, ◌∙◌, ◌+◌, ◌-◌, ◌==◌, List, [], ◌∷◌, ◌++◌, length, take, get_or}
use Rattle.std.proofs.Common.{Bool, true, false, ap, append_assoc, append-nil, arith, cond, length-append, refl, subst}
use Rattle.std.proofs.Common.{sym}
use Rattle.std.specs.Char.{is_ascii_digit}
use Rattle.std.specs.Fmt.{decimal}
use Rattle.std.specs.Str.Lines.{lines, strip_carriage_return}
use Rattle.std.proofs.Math.Seq.{take-append-add}
use Rattle.std.proofs.lemmas.Bool.{eq-eqb, true≢false}
use Rattle.report_items.specs.Items.{items_in, items_of}
use Rattle.report_items.specs.Written.{IsNumber}
use Rattle.reported_items.specs.Reported.{is_one_line}
use Rattle.reported_items.proofs.OtherHeads.{TellsNone, no_item}
use Rattle.reported_items.proofs.Pieces.{IsEnded, decimal_one_line, end_stays, items, line_first, one_line_both}
use Rattle.reported_items.proofs.ToldExecutions.{number_head}

-- Fronts.

-- by whether the line's last byte is a CR
kept_by : (test : Bool) (before : List ℕ) (byte next : ℕ) (more : List ℕ)
    → (m : List ℕ) × (cond test (take (length (before ++ byte ∷ next ∷ more) - 1) (before ++ byte ∷ next ∷ more))
    (before ++ byte ∷ next ∷ more) ≡ before ++ byte ∷ m)
kept_by true before byte next more =
    let long : length (before ++ byte ∷ next ∷ more) - 1 ≡ length before + suc (length more) =
    omega (arith, length-append before (byte ∷ next ∷ more)) in (
      take (length more) (next ∷ more),
      ap (λ n. take n (before ++ byte ∷ next ∷ more)) long
          ∙ take-append-add before (byte ∷ next ∷ more) (suc (length more)),
    )
kept_by false before byte next more = (next ∷ more, refl)

-- a line without the CR at its end is the same up to a byte that is none
pub front_kept : (before : List ℕ) (byte : ℕ) (text : List ℕ) → (byte == 13) ≡ false
    → (m : List ℕ) × (strip_carriage_return (before ++ byte ∷ text) ≡ before ++ byte ∷ m)
front_kept before byte [] h = ([], end_stays before (byte ∷ []) (omega arith) h)
front_kept before byte (next ∷ more) h =
    kept_by (get_or (before ++ byte ∷ next ∷ more) (length (before ++ byte ∷ next ∷ more) - 1) 0 == 13) before byte next
    more

-- one line behind its first byte
record IsTail (byte : ℕ) (text : List ℕ) : Type 0 where
  pub line : List ℕ
  pub ends : text ≡ line ++ 10 ∷ []
  pub one : is_one_line (byte ∷ line) ≡ true

-- a line that begins with no LF is one line behind its first byte
tail_ended : (byte : ℕ) (text : List ℕ) → (byte == 10) ≡ false → IsEnded (byte ∷ text) → IsTail byte text
tail_ended byte text letter e = by_line e.line e.ends e.one
  where
    by_line : (line : List ℕ) → byte ∷ text ≡ line ++ 10 ∷ [] → is_one_line line ≡ true → IsTail byte text
    by_line [] same one = absurd (let ten : byte ≡ 10 = cc in true≢false (sym (eq-eqb byte 10 ten) ∙ letter))
    by_line (first ∷ line) same one =
        let this : first ≡ byte = cc in
        let tail : text ≡ line ++ 10 ∷ [] = cc in
        record { line = line; ends = tail; one = subst (λ b. is_one_line (b ∷ line) ≡ true) this one }

-- Lines that begin with a letter.

-- a line that begins with no digit is no head
unheaded : (byte : ℕ) (m : List ℕ) (more : List (List ℕ)) → is_ascii_digit byte ≡ false
    → items_in ((byte ∷ m) ∷ more) ≡ items_in more
unheaded byte m more h = rw h refl

-- nor does it begin an item where it ends with a CR
line_by : (byte : ℕ) (line rest : List ℕ) → is_ascii_digit byte ≡ false → (byte == 13) ≡ false
    → is_one_line (byte ∷ line) ≡ true → items ((byte ∷ line) ++ 10 ∷ rest) ≡ items rest
line_by byte line rest digit return one =
    let kept = front_kept [] byte line return in
    ap items_in (line_first (byte ∷ line) rest one ∙ ap (λ (z : List ℕ). z ∷ lines rest) kept.1)
    ∙ unheaded byte kept.0 (lines rest) digit

-- no item begins in such a line
pub letter_line : (byte : ℕ) (text rest : List ℕ) → is_ascii_digit byte ≡ false → (byte == 13) ≡ false
    → (byte == 10) ≡ false → IsEnded (byte ∷ text) → items ((byte ∷ text) ++ rest) ≡ items rest
letter_line byte text rest digit return letter e =
    let tail = tail_ended byte text letter e in
    ap (λ (z : List ℕ). items ((byte ∷ z) ++ rest)) tail.ends
    ∙ ap items (append_assoc (byte ∷ tail.line) (10 ∷ []) rest)
    ∙ line_by byte tail.line rest digit return tail.one

-- Heads.

module _ (line : ℕ) (is : IsNumber line) where
  -- a head that is read as one that begins no item
  pub head_by : (told read rest : List ℕ) → is_one_line (decimal line ++ 32 ∷ told) ≡ true
      → strip_carriage_return (decimal line ++ 32 ∷ told) ≡ decimal line ++ 32 ∷ read → TellsNone read
      → items ((decimal line ++ 32 ∷ told) ++ 10 ∷ rest) ≡ items rest
  head_by told read rest one stripped none =
      ap items_in (line_first (decimal line ++ 32 ∷ told) rest one ∙ ap (λ (z : List ℕ). z ∷ lines rest) stripped)
      ∙ rw (number_head line (32 ∷ read), no_item line read is none (lines rest)) refl

  -- a head whose word begins with a letter, by its line
  letter_by : (byte : ℕ) (text rest : List ℕ) → (byte == 13) ≡ false → ((m : List ℕ) → TellsNone (byte ∷ m))
      → is_one_line (byte ∷ text) ≡ true → items ((decimal line ++ 32 ∷ byte ∷ text) ++ 10 ∷ rest) ≡ items rest
  letter_by byte text rest return none one =
      let kept = front_kept (decimal line ++ 32 ∷ []) byte text return in
      let stripped : strip_carriage_return (decimal line ++ 32 ∷ byte ∷ text) ≡ decimal line ++ 32 ∷ byte ∷ kept.0 =
      ap strip_carriage_return (sym (append_assoc (decimal line) (32 ∷ []) (byte ∷ text)))
      ∙ kept.1 ∙ append_assoc (decimal line) (32 ∷ []) (byte ∷ kept.0) in
      head_by (byte ∷ text) (byte ∷ kept.0) rest
      (one_line_both (decimal line) (32 ∷ byte ∷ text) (decimal_one_line line) one) stripped (none kept.0)

  -- no item begins with a head whose word begins with a letter that no item's head has there
  pub letter_head : (byte : ℕ) (text rest : List ℕ) → (byte == 13) ≡ false → (byte == 10) ≡ false
      → ((m : List ℕ) → TellsNone (byte ∷ m)) → IsEnded (byte ∷ text)
      → items ((decimal line ++ 32 ∷ byte ∷ text) ++ rest) ≡ items rest
  letter_head byte text rest return letter none e =
      let tail = tail_ended byte text letter e in
      let front : List ℕ = decimal line ++ 32 ∷ byte ∷ tail.line in
      ap (λ (z : List ℕ). items ((decimal line ++ 32 ∷ byte ∷ z) ++ rest)) tail.ends
      ∙ ap (λ (z : List ℕ). items (z ++ rest)) (sym (append_assoc (decimal line) (32 ∷ byte ∷ tail.line) (10 ∷ [])))
      ∙ ap items (append_assoc front (10 ∷ []) rest)
      ∙ letter_by byte tail.line rest return none tail.one

  -- nor is there one where the text ends with that head
  pub only_head : (byte : ℕ) (text : List ℕ) → (byte == 13) ≡ false → (byte == 10) ≡ false
      → ((m : List ℕ) → TellsNone (byte ∷ m)) → IsEnded (byte ∷ text)
      → items_of (decimal line ++ 32 ∷ byte ∷ text) ≡ []
  unfolding items_of
  only_head byte text return letter none e =
      ap items (sym (append-nil (decimal line ++ 32 ∷ byte ∷ text))) ∙ letter_head byte text [] return letter none e
