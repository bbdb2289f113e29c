-- From the tokens of a text to what it spells.
use Rattle.std.proofs.Common.{◌≡◌, ℕ, Some, None, List, [], ◌∷◌, ◌++◌, refl, sym, ◌∙◌, ap, subst}
use Rattle.sql_parser.specs.Grammar.{IsStatement, IsStatementText}
use Rattle.sql_parser.specs.Reading.{statement_at}
use Rattle.sql_parser.specs.Statement.{Parts}
use Rattle.std.specs.List.{prefix_len}
use Rattle.std.proofs.Common.{true, drop}
use Rattle.std.proofs.Math.Seq.{drop-append_seam}
use Rattle.sql_parser.specs.Statement.{each}
use Rattle.sql_parser.specs.Tokens.{AreTokens, none, next, IsFirst, is_white}
use Rattle.sql_parser.proofs.Runs.{run_is}
use Rattle.sql_parser.proofs.TokensOnce.{begins_black, goes_on, white_off, all_white}
use Rattle.sql_parser.specs.declared.tokens.Token.{Token}
use Rattle.sql_parser.proofs.Readers.{pair_is}
use Rattle.sql_parser.proofs.ReadIsSpelled.{statement_sound}
use Rattle.sql_parser.proofs.StatementsAreRead.{statement_again}
use Rattle.std.proofs.lemmas.Bool.{and_parts}

pub text_found : (text : List ℕ) (tokens : List Token) (s : Parts) (rest : List Token) → AreTokens text tokens
    → statement_at tokens ≡ Some (s, rest) → IsStatementText text s
text_found text tokens s rest are e =
    record { tokens = tokens; are = are; spelled = (statement_sound tokens s rest e).0 }

again_at : (tokens others : List Token) (s : Parts) → others ≡ tokens → IsStatement s others
    → statement_at tokens ≡ Some (s, [])
again_at tokens others s e is = let P : List Token → Type 0 = λ z. IsStatement s z in
    statement_again s tokens (subst P e is)

pub text_only : (text : List ℕ) (tokens : List Token) (s : Parts) (rest : List Token)
    → ((others : List Token) → AreTokens text others → others ≡ tokens)
    → statement_at tokens ≡ Some (s, rest) → (other : Parts) → IsStatementText text other → other ≡ s
text_only text tokens s rest once e other is =
    let q = pair_is (other, []) (s, rest) (sym (again_at tokens is.tokens other (once is.tokens is.are) is.spelled)
    ∙ e) in
    ap (λ (z : Parts × List Token). z.0) q

pub text_none : (text : List ℕ) (tokens : List Token)
    → ((others : List Token) → AreTokens text others → others ≡ tokens) → statement_at tokens ≡ None
    → (other : Parts) → IsStatementText text other → ⊥
text_none text tokens once e other is = let f = again_at tokens is.tokens other (once is.tokens is.are) is.spelled in cc

pub text_untokened : (text : List ℕ) → ((others : List Token) → AreTokens text others → ⊥) → (other : Parts)
    → IsStatementText text other → ⊥
text_untokened text no_tokens other is = no_tokens is.tokens is.are

-- ---- a text falls into tokens in one way

black_off : (w t rest : List ℕ) (first : Token) (tokens : List Token) → each is_white w ≡ true → IsFirst first t rest
    → AreTokens (w ++ t) tokens → AreTokens t tokens
black_off w t rest first tokens k f are =
    let run = run_is is_white w t k (begins_black first t rest f) in
    let off : drop (prefix_len is_white (w ++ t)) (w ++ t) ≡ t = rw run (drop-append_seam w t) in
    let P : List ℕ → Type 0 = λ z. AreTokens z tokens in
    subst P off (white_off (w ++ t) tokens are)

white_front : (w t : List ℕ) → each is_white (w ++ t) ≡ true → each is_white t ≡ true
white_front [] t e = e
white_front (b ∷ w) t e = white_front w t (and_parts (is_white b) (each is_white (w ++ t)) e).1

white_tokens : (text : List ℕ) (tokens : List Token) → each is_white text ≡ true → AreTokens text tokens → tokens ≡ []
white_tokens text tokens e (none k) = refl
white_tokens text tokens e (next w t rest {first} k f are) = absurd (all_white first t rest f (white_front w t e))

pub tokens_once : (text : List ℕ) (a b : List Token) → AreTokens text a → AreTokens text b → a ≡ b
tokens_once text a b (none k) are = sym (white_tokens text b k are)
tokens_once text a b (next w t rest {first} {tokens} k f more) are =
    let g = goes_on t b first rest (black_off w t rest first b k f are) f in
    ap (λ z. first ∷ z) (tokens_once rest tokens g.others more g.are) ∙ sym g.whole

pub read_once : (text : List ℕ) (s t : Parts) → IsStatementText text s → IsStatementText text t → s ≡ t
read_once text s t a b =
    let e = statement_again s a.tokens a.spelled in
    sym (text_only text a.tokens s [] (λ others are. tokens_once text others a.tokens are a.are) e t b)
