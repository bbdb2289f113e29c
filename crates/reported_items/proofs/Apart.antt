-- Items of lines, and of further lines that begin with a head.
use Rattle.std.proofs.Common.{ℕ, ◌≡◌, ◌∙◌, List, [], ◌∷◌, ◌++◌, Bool, true, false, Option, Some, None, ap, refl, sym}
use Rattle.std.proofs.Common.{append_assoc, if◌then◌else◌}
use Rattle.std.specs.List.{filter}
use Rattle.std.specs.Option.{option_map_or}
use Rattle.std.specs.Str.Lines.{lines}
use Rattle.report_items.specs.Blocks.{claim_in, claim_told, is_told, until_head}
use Rattle.report_items.specs.Heads.{heading_of, is_head, too_large_in}
use Rattle.report_items.specs.Items.{claimed, item_at, items_in, items_of, pushed, unformed}
use Rattle.report_items.specs.declared.heads.Heading.{Heading}
use Rattle.report_items.specs.declared.items.ReportItem.{ReportItem}
use Rattle.report_items.specs.declared.items.ReportItem.TheVariants.{TooLarge}
use Rattle.reported_items.proofs.LinesApart.{lines_both}

-- there is no line, or the first one is a head
abbrev pub BeginsWithHead : List (List ℕ) → Type 0
BeginsWithHead [] = Unit {0}
BeginsWithHead (line ∷ lines) = is_head line ≡ true

until_apart : (first rest : List (List ℕ)) → BeginsWithHead rest → until_head (first ++ rest) ≡ until_head first
until_apart [] [] h = refl
until_apart [] (line ∷ rest) h = rw h refl
until_apart (line ∷ first) rest h =
    ap (λ (z : List (List ℕ)). if is_head line then [] else line ∷ z) (until_apart first rest h)

claim_apart : (first rest : List (List ℕ)) → BeginsWithHead rest → claim_in (first ++ rest) ≡ claim_in first
unfolding claim_in
claim_apart first rest h = ap (λ (z : List (List ℕ)). claim_told (filter is_told z)) (until_apart first rest h)

item_apart : (head : List ℕ) (first rest : List (List ℕ)) → BeginsWithHead rest
    → item_at head (first ++ rest) ≡ item_at head first
unfolding item_at
item_apart head first rest h =
    ap (λ o. option_map_or (λ line. Some (TooLarge line))
    (too_large_in head) (option_map_or (λ (heading : Heading). Some (claimed heading o)) (heading_of head) (unformed
    head)))
    (claim_apart first rest h)

pushed_on : (o : Option ReportItem) (items more : List ReportItem) → pushed o (items ++ more) ≡ pushed o items ++ more
pushed_on None items more = refl
pushed_on (Some item) items more = refl

items_by : (test : Bool) (o p : Option ReportItem) (both items more : List ReportItem) → o ≡ p → both ≡ items ++ more
    → (if test then pushed o both else both) ≡ (if test then pushed p items else items) ++ more
items_by true o p both items more e f = (λ i. pushed (e i) (f i)) ∙ pushed_on p items more
items_by false o p both items more e f = f

pub items_apart : (first rest : List (List ℕ)) → BeginsWithHead rest
    → items_in (first ++ rest) ≡ items_in first ++ items_in rest
items_apart [] rest h = refl
items_apart (line ∷ first) rest h =
    items_by (is_head line) (item_at line (first ++ rest)) (item_at line first) (items_in (first ++ rest))
    (items_in first) (items_in rest) (item_apart line first rest h) (items_apart first rest h)

-- a text that is empty or ends with LF
pub record IsWhole (text : List ℕ) : Type 0 where
  pub before : List ℕ
  pub ends : text ≡ before ++ 10 ∷ []

pub texts_apart : (text rest : List ℕ) → IsWhole text → BeginsWithHead (lines rest)
    → items_of (text ++ rest) ≡ items_of text ++ items_of rest
unfolding items_of
texts_apart text rest whole h =
    ap (λ (z : List ℕ). items_in (lines z))
    (ap (λ (z : List ℕ). z ++ rest) whole.ends ∙ append_assoc whole.before (10 ∷ []) rest)
    ∙ ap items_in (lines_both whole.before rest)
    ∙ items_apart (lines (whole.before ++ 10 ∷ [])) (lines rest) h
    ∙ ap (λ (z : List ℕ). items_in (lines z) ++ items_in (lines rest)) (sym whole.ends)
