-- The first place at which the product of rows passes a limit, place by place.
use Rattle.std.proofs.Common.{ℕ, ◌≡◌, ◌<◌, ◌≤◌, ◌+◌, ◌*◌, ◌^◌, max, true, false, List, [], ◌∷◌, length, map, take, drop, ◌++◌, get_or, ap, sym, ◌∙◌, refl, arith, one-mul, drop-cons, add-one}
use Rattle.std.specs.Prelude.{Some, nat_lt}
use Rattle.std.specs.declared.rc.Rc.{Rc}
use Rattle.std.proofs.Math.Nat.{mul-le-mul, mul-le-mul_right, one-le-pow}
use Rattle.std.proofs.lemmas.Bool.{le-ltb, lt-ltb}
use Rattle.std.proofs.lemmas.List.{map_more}
use Rattle.row_values.specs.Statements.{Statement}
use Rattle.row_values.specs.declared.statement.Pred.{Pred}
use Rattle.row_values.specs.declared.values.Value.{Value}
use Rattle.csv_tables.specs.StatementTables.{rows_in, tables_in}
use Rattle.csv_tables.specs.Tables.{TableValue}
use Rattle.plan_trees.specs.Statistics.{selectivities_on}
use Rattle.statement_statistics.specs.Statistics.{first_above, row_count, row_counts}
use Rattle.selectivity_counts.proofs.ByPlace.{map_numbered, shared_over_places}

-- a number times at least 1
pub power_within : (size power : ℕ) → 1 ≤ size → power ≤ size * power
power_within size power some =
    let more = mul-le-mul_right power some in omega (arith, more, one-mul power)

-- the rows of each table, at least 1
abbrev pub counts_of : {Z : Type 0} → List (Rc TableValue Z) → List ℕ
counts_of shared = map (λ table. row_count table.value.rows) shared

pub counts_are : {Z : Type 0} (q : Statement) (shared : List (Rc TableValue Z)) → length shared ≡ length q.places
    → counts_of shared ≡ row_counts q (rows_in (tables_in shared))
counts_are q shared e =
    map_numbered (λ table. row_count table.value.rows) 0 shared
    ∙ shared_over_places (λ _ (rows : List (List Value)). row_count rows) shared q.places e

pub counts_left : {Z : Type 0} (shared : List (Rc TableValue Z)) (k : ℕ) (table : Rc TableValue Z) → k < length shared
    → table ≡ get_or shared k table
    → counts_of (drop k shared) ≡ row_count table.value.rows ∷ counts_of (drop (k + 1) shared)
counts_left shared k table h is =
    ap counts_of (drop-cons shared k table h)
    ∙ rw (add-one, ← is) refl

-- a place whose product doesn't pass
pub goes_on : (limit : ℕ) (preds : List Pred) (place size n product : ℕ) (rows : List ℕ)
    → product ≡ size * n ^ max 1 (selectivities_on place preds) → product ≤ limit
    → first_above limit preds place size (n ∷ rows) ≡ first_above limit preds (place + 1) product rows
goes_on limit preds place size n product rows is within =
    let here : nat_lt limit (size * n ^ max 1 (selectivities_on place preds)) ≡ false =
    ap (nat_lt limit) (sym is) ∙ le-ltb limit product within in
    rw (here, ← is) refl

-- one whose product passes
pub stops : (limit : ℕ) (preds : List Pred) (place size n : ℕ) (rows : List ℕ)
    → limit < size * n ^ max 1 (selectivities_on place preds)
    → first_above limit preds place size (n ∷ rows) ≡ Some place
stops limit preds place size n rows above =
    let here : nat_lt limit (size * n ^ max 1 (selectivities_on place preds)) ≡ true =
    lt-ltb limit (size * n ^ max 1 (selectivities_on place preds)) above in
    rw here refl

-- a product goes on to be at least 1
pub product_some : (size n times product : ℕ) → 1 ≤ size → 1 ≤ n → product ≡ size * n ^ times → 1 ≤ product
product_some size n times product some rows is =
    let both = mul-le-mul some (one-le-pow times n rows) in omega (arith, both, is)

-- the counts of the tables so far
pub counts_more : {Z : Type 0} (shared : List (Rc TableValue Z)) (k count : ℕ) (table : Rc TableValue Z)
    → k < length shared → table ≡ get_or shared k table → count ≡ row_count table.value.rows
    → counts_of (take (k + 1) shared) ≡ counts_of (take k shared) ++ count ∷ []
counts_more shared k count table h is e =
    map_more (λ table. row_count table.value.rows) shared k table h
    ∙ rw (← is, e) refl
