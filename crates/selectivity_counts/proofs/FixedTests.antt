-- The tests of the fixed predicates on a place.
use Rattle.std.proofs.Common.{ℕ, suc, ◌≡◌, ◌<◌, ◌+◌, ◌++◌, ◌&&◌, ◌==◌, Bool, true, false, not, List, [], ◌∷◌, cond, ap, sym, ◌∙◌, refl, length, drop, drop-cons, get_or, add-one}
use Rattle.std.proofs.Math.Bool.{and_assoc}
use Rattle.std.proofs.lemmas.Bool.{false≢true}
use Rattle.row_values.specs.Statements.{is_parameterised}
use Rattle.row_values.specs.declared.statement.Pred.{Pred}
use Rattle.row_values.specs.declared.values.Value.{Value}
use Rattle.csv_tables.specs.Tables.{TableValue}
use Rattle.statement_meaning.specs.Conditions.{holds, row_passes}
use Rattle.row_tests.specs.Ready.{all_hold, ready_holds}
use Rattle.row_tests.specs.declared.predicate_tests.Ready.{Ready}
use Rattle.row_tests.proofs.ReadyTests.{all_hold-push}
use Rattle.statement_statistics.specs.Statistics.{fixed_preds}

cut : (preds : List Pred) (index : ℕ) (pred : Pred) → index < length preds → pred ≡ get_or preds index pred
    → drop index preds ≡ pred ∷ drop (index + 1) preds
cut preds index pred inside is =
    rw (add-one, drop-cons preds index pred inside) (ap (λ (p : Pred). p ∷ drop (suc index) preds) (sym is))

-- what the predicates that are left ask, with this one in front
left : (preds : List Pred) (index place : ℕ) (pred : Pred) (cells : List Value) → index < length preds
    → pred ≡ get_or preds index pred → (varies : Bool) → is_parameterised pred ≡ varies
    → row_passes [] (fixed_preds (drop index preds)) place cells
    ≡ row_passes [] (cond (not varies) (pred ∷ fixed_preds (drop (index + 1) preds))
    (fixed_preds (drop (index + 1) preds))) place cells
left preds index place pred cells inside is varies e =
    ap (λ (ps : List Pred). row_passes [] (fixed_preds ps) place cells) (cut preds index pred inside is)
    ∙ ap (λ (b : Bool). row_passes [] (cond (not b) (pred ∷ fixed_preds (drop (index + 1) preds))
    (fixed_preds (drop (index + 1) preds))) place cells) e

both : (a b : Bool) → (a && not b) ≡ true → (a ≡ true) × (b ≡ false)
both true false e = (refl, refl)
both true true e = absurd (false≢true e)
both false b e = absurd (false≢true e)

pub fixed_taken : (table : TableValue) (preds : List Pred) (index place : ℕ) (pred : Pred) (tests : List Ready)
    (ready : Ready) (row : ℕ) (cells : List Value) (whole : Bool)
    → index < length preds → pred ≡ get_or preds index pred
    → (pred.at.place == place && not (is_parameterised pred)) ≡ true
    → ready_holds [] table ready row ≡ holds [] pred cells
    → (all_hold [] table tests row && row_passes [] (fixed_preds (drop index preds)) place cells) ≡ whole
    → (all_hold [] table (tests ++ ready ∷ []) row && row_passes [] (fixed_preds (drop (index + 1) preds)) place cells)
    ≡ whole
fixed_taken table preds index place pred tests ready row cells whole inside is on same e =
    let parts = both (pred.at.place == place) (is_parameterised pred) on in
    let front : row_passes [] (fixed_preds (drop index preds)) place cells
    ≡ (holds [] pred cells && row_passes [] (fixed_preds (drop (index + 1) preds)) place cells) =
    left preds index place pred cells inside is false parts.1
    ∙ ap (λ (b : Bool). cond b (holds [] pred cells) true
    && row_passes [] (fixed_preds (drop (index + 1) preds)) place cells) parts.0 in
    ap (λ (b : Bool). b && row_passes [] (fixed_preds (drop (index + 1) preds)) place cells)
    (all_hold-push [] table tests ready row)
    ∙ (and_assoc (all_hold [] table tests row) (ready_holds [] table ready row)
    (row_passes [] (fixed_preds (drop (index + 1) preds)) place cells)
    ∙ (ap (λ (b : Bool). all_hold [] table tests row
    && (b && row_passes [] (fixed_preds (drop (index + 1) preds)) place cells)) same
    ∙ (ap (λ (b : Bool). all_hold [] table tests row && b) (sym front) ∙ e)))

pub fixed_skipped : (preds : List Pred) (index place : ℕ) (pred : Pred) (cells : List Value) (before whole : Bool)
    → index < length preds → pred ≡ get_or preds index pred
    → (pred.at.place == place && not (is_parameterised pred)) ≡ false
    → (before && row_passes [] (fixed_preds (drop index preds)) place cells) ≡ whole
    → (before && row_passes [] (fixed_preds (drop (index + 1) preds)) place cells) ≡ whole
fixed_skipped preds index place pred cells before whole inside is off e =
    ap (λ (b : Bool). before && b)
    (sym (left preds index place pred cells inside is (is_parameterised pred) refl
    ∙ passed (pred.at.place == place) (is_parameterised pred) refl off)) ∙ e
  where
    passed : (t varies : Bool) → (pred.at.place == place) ≡ t → (t && not varies) ≡ false
        → row_passes [] (cond (not varies) (pred ∷ fixed_preds (drop (index + 1) preds))
        (fixed_preds (drop (index + 1) preds))) place cells
        ≡ row_passes [] (fixed_preds (drop (index + 1) preds)) place cells
    passed t true on off = refl
    passed true false on off = absurd (false≢true (sym off))
    passed false false on off =
        ap (λ (b : Bool). cond b (holds [] pred cells) true
        && row_passes [] (fixed_preds (drop (index + 1) preds)) place cells) on
