-- What stands behind a word at the front of a text.
use Rattle.std.proofs.Common.{ℕ, ◌≡◌, ◌+◌, List, length, drop, Option, Some, None, ap, sym, subst, ◌∙◌, MatchOption}
use Rattle.std.proofs.Common.{true, false, option_map, if◌then◌else◌}
use Rattle.std.specs.Str.{IsCharBoundary}
use Rattle.std.specs.Str.Pattern.{FindsTextPrefix}
use Rattle.std.proofs.lemmas.Str.Pattern.{starts_text}
use denote.Ref.{Bor}
use Rattle.report_items.specs.Heads.{behind}

-- the clause of `strip_prefix` at a text
pub stripped : (word text : List ℕ) (r : Option (Bor (List ℕ)))
    → MatchOption r (FindsTextPrefix word text None)
    (λ x. (n : ℕ) × FindsTextPrefix word text (Some n) × (x.now ≡ drop n text) × (length x.now + n ≡ length text))
    → option_map (λ rest. rest.now) r ≡ behind word text
stripped word text None h =
    ap (λ t. if t then Some (drop (length word) text) else None) (starts_text false word text h)
stripped word text (Some x) h =
    let whole = subst (IsCharBoundary text) (sym h.1.0) h.1.2 in
    ap (λ z. Some z) (h.2 ∙ ap (λ n. drop n text) h.1.0)
    ∙ ap (λ t. if t then Some (drop (length word) text) else None) (starts_text true word text (h.0, h.1, whole))
