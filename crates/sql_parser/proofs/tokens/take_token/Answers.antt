use Rattle.std.proofs.Common.{◌≡◌, ◌∙◌, List, ℕ, Option, Some, None, refl, sym, ap}
use Rattle.sql_parser.specs.Spelled.{first_at}
use Rattle.sql_parser.specs.Tokens.{IsFirst}
use Rattle.sql_parser.specs.declared.tokens.Token.{Token}
use Rattle.sql_parser.proofs.FunctionsAreGrammar.{first_sound, first_again}
use Rattle.sql_parser.proofs.tokens.take_token.Goals as goal

-- nothing is found where no token stands
none_there : (text : List ℕ) → ((other : Token) (rest : List ℕ) → IsFirst other text rest → ⊥) → None ≡ first_at text
none_there text h =
    let step : (o : Option (Token × List ℕ)) → first_at text ≡ o → None ≡ o =
    λ o. elim o as (λ o. first_at text ≡ o → None ≡ o) [
      | None ↦ λ e. refl
      | Some found ↦ λ e. absurd (h found.0 found.1 (first_sound text found e))
    ]
    in step (first_at text) refl

pub returns-in-Err-Syntax : goal.returns-in-Err-Syntax
returns-in-Err-Syntax c = none_there c.args.text.now (rw c.in-Err-Syntax.field-0-is at c.in-Err-Syntax.ensures)

pub returns-in-Ok : goal.returns-in-Ok
returns-in-Ok c =
    let found = first_again c.args.text.now c.in-Ok.token _ c.in-Ok.ensures.0 in
    sym (found ∙ ap (λ z. Some (c.in-Ok.token, z)) (sym c.range_from.ensures.value))
