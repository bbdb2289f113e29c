-- The tests of one more predicate.
use Rattle.std.proofs.Common.{ℕ, ◌≡◌, ◌<◌, ◌+◌, suc, ◌++◌, ◌&&◌, ◌==◌, Bool, true, false, List, [], ◌∷◌, cond, ap, sym}
use Rattle.std.proofs.Common.{◌∙◌, length, drop, drop-cons, get_or, add-one, eq-eqb}
use Rattle.std.proofs.Math.Bool.{and_assoc, and-true}
use Rattle.std.proofs.lemmas.Bool.{ne_eqb}
use Rattle.row_values.specs.declared.values.Value.{Value}
use Rattle.row_values.specs.declared.statement.Pred.{Pred}
use Rattle.csv_tables.specs.Tables.{TableValue}
use Rattle.statement_meaning.specs.Conditions.{holds, row_passes}
use Rattle.row_tests.specs.declared.predicate_tests.Ready.{Ready}
use Rattle.row_tests.specs.Ready.{ready_holds, all_hold}

pub all_hold-push : (args : List Value) (table : TableValue) (more : List Ready) (ready : Ready) (row : ℕ)
    → all_hold args table (more ++ ready ∷ []) row ≡ (all_hold args table more row && ready_holds args table ready row)
all_hold-push args table [] ready row = and-true (ready_holds args table ready row)
all_hold-push args table (one ∷ more) ready row =
    ap (λ (b : Bool). ready_holds args table one row && b) (all_hold-push args table more ready row)
    ∙ sym (and_assoc (ready_holds args table one row) (all_hold args table more row) (ready_holds args table ready row))

-- one predicate goes over from those that are left to those that are ready
one_more : (args : List Value) (table : TableValue) (more : List Ready) (ready : Ready) (row : ℕ)
    (here rest whole : Bool)
    → ready_holds args table ready row ≡ here → (all_hold args table more row && (here && rest)) ≡ whole
    → (all_hold args table (more ++ ready ∷ []) row && rest) ≡ whole
one_more args table more ready row here rest whole h e =
    ap (λ (b : Bool). b && rest) (all_hold-push args table more ready row)
    ∙ (and_assoc (all_hold args table more row) (ready_holds args table ready row) rest
    ∙ (ap (λ (b : Bool). all_hold args table more row && (b && rest)) h ∙ e))

first_left : (args : List Value) (preds : List Pred) (index place : ℕ) (pred : Pred) (row : List Value) (b : Bool)
    → index < length preds → pred ≡ get_or preds index pred → (pred.at.place == place) ≡ b
    → row_passes args (drop index preds) place row
    ≡ (cond b (holds args pred row) true && row_passes args (drop (index + 1) preds) place row)
first_left args preds index place pred row b there is e =
    let cut : drop index preds ≡ pred ∷ drop (index + 1) preds =
    rw (add-one, drop-cons preds index pred there) (ap (λ (p : Pred). p ∷ drop (suc index) preds) (sym is)) in
    ap (λ (ps : List Pred). row_passes args ps place row) cut
    ∙ ap (λ (b : Bool). cond b (holds args pred row) true && row_passes args (drop (index + 1) preds) place row) e

-- a predicate on the place is made ready
pub taken : (args : List Value) (table : TableValue) (preds : List Pred) (index place : ℕ) (pred : Pred)
    (more : List Ready) (ready : Ready) (row : ℕ) (cells : List Value) (whole : Bool)
    → index < length preds → pred ≡ get_or preds index pred → pred.at.place ≡ place
    → ready_holds args table ready row ≡ holds args pred cells
    → (all_hold args table more row && row_passes args (drop index preds) place cells) ≡ whole
    → (all_hold args table (more ++ ready ∷ []) row && row_passes args (drop (index + 1) preds) place cells) ≡ whole
taken args table preds index place pred more ready row cells whole there is on same e =
    one_more args table more ready row (holds args pred cells) (row_passes args (drop (index + 1) preds) place cells)
    whole same
    (ap (λ (b : Bool). all_hold args table more row
    && b) (sym (first_left args preds index place pred cells true there is (eq-eqb pred.at.place place on))) ∙ e)

-- a predicate on another place asks nothing
pub skipped : (args : List Value) (preds : List Pred) (index place : ℕ) (pred : Pred) (cells : List Value)
    (before whole : Bool)
    → index < length preds → pred ≡ get_or preds index pred → (pred.at.place ≡ place → ⊥)
    → (before && row_passes args (drop index preds) place cells) ≡ whole
    → (before && row_passes args (drop (index + 1) preds) place cells) ≡ whole
skipped args preds index place pred cells before whole there is off e =
    ap (λ (b : Bool). before
    && b) (sym (first_left args preds index place pred cells false there is (ne_eqb pred.at.place place off)))
    ∙ e
