-- Operands that a column takes, and predicates and edges that no misfit is among.
use Rattle.std.proofs.Common.{ℕ, ◌≡◌, ◌<◌, ◌+◌, ◌==◌, nat_lt, List, [], ◌∷◌, length, true, false, not, ◌||◌}
use Rattle.std.proofs.Common.{Option, Some, None, IsSome, refl, arith, sym, subst}
use Rattle.std.specs.List.{All, find, flat_map, list_all}
use Rattle.std.proofs.lemmas.Bool.{eqb-false, ltb-false, not-false, or_parts}
use Rattle.std.proofs.lemmas.List.Elements.{All-cons, All-nil}
use Rattle.row_values.specs.Values.{kind_of}
use Rattle.row_values.specs.Operands.{AreOperands}
use Rattle.row_values.specs.Statements.{IsOperand, IsTest, IsPred, IsEdge}
use Rattle.row_values.specs.declared.operands.TheConstants.{OPERAND_LIMIT}
use Rattle.row_values.specs.declared.values.Kind.{Kind}
use Rattle.row_values.specs.declared.values.Kind.TheVariants.{Int, Text}
use Rattle.row_values.specs.declared.statement.Operand.{Operand}
use Rattle.row_values.specs.declared.statement.Place.{Place}
use Rattle.sql_parser.specs.Statement.{each, is_some, is_ref, is_operand, is_test, is_cond}
use Rattle.sql_parser.specs.declared.statement.RawRef.{RawRef}
use Rattle.sql_parser.specs.declared.statement.RawOperand.{RawOperand}
use Rattle.sql_parser.specs.declared.statement.RawOperand.TheVariants.{Literal, Param}
use Rattle.sql_parser.specs.declared.statement.RawTest.{RawTest}
use Rattle.sql_parser.specs.declared.statement.RawTest.TheVariants.{Lt, Le, Gt, Ge, Eq, Between, OneOf}
use Rattle.sql_parser.specs.declared.statement.RawCond.{RawCond}
use Rattle.sql_parser.specs.declared.statement.RawCond.TheVariants.{Test, Same}
use Rattle.name_binder.specs.References.{place_number, meant, kind_meant, is_unknown, cond_refs}
use Rattle.name_binder.specs.Parameters.{operands_of, test_count}
use Rattle.name_binder.specs.Refusals.{are_one_kind, takes_operand, takes_test, is_misfit, is_long, has_long}
use Rattle.name_binder.specs.Binding.{operand_from, next_number, operands_from, test_from, preds_from, edges_of}
use Rattle.name_binder.proofs.Known.{known_column, both_left, both_right}
use Rattle.name_binder.proofs.Found.{split_none}
use Rattle.name_binder.proofs.Operands.{from_operands}

pub one_kind : (a b : Option Kind) → are_one_kind a b ≡ true → a ≡ b
one_kind None b h = cc
one_kind (Some Int) None h = cc
one_kind (Some Int) (Some Int) h = refl
one_kind (Some Int) (Some Text) h = cc
one_kind (Some Text) None h = cc
one_kind (Some Text) (Some Int) h = cc
one_kind (Some Text) (Some Text) h = refl

operand_fits : (left : Option Kind) (n : ℕ) (a : RawOperand) → IsSome left → takes_operand left a ≡ true
    → IsOperand left (operand_from n a)
operand_fits left n (Literal value) there h = one_kind left (Some (kind_of value)) h
operand_fits left n Param there h = there

operands_fit : (left : Option Kind) (n : ℕ) (operands : List RawOperand) → IsSome left
    → list_all (takes_operand left) operands ≡ true → All (IsOperand left) (operands_from n operands)
operands_fit left n [] there h = All-nil _
operands_fit left n (a ∷ operands) there h =
    All-cons (IsOperand left) _ _
    (operand_fits left n a there (both_left (takes_operand left a) (list_all (takes_operand left) operands) h))
    (operands_fit left (next_number n a) operands there
    (both_right (takes_operand left a) (list_all (takes_operand left) operands) h))

operands_length : (n : ℕ) (operands : List RawOperand) → length (operands_from n operands) ≡ length operands
operands_length n [] = refl
operands_length n (a ∷ operands) = omega (arith, operands_length (next_number n a) operands)

pub are_operands : (n : ℕ) (operands : List RawOperand) → 0 < length operands → nat_lt OPERAND_LIMIT (length operands)
    ≡ false
    → AreOperands (operands_from n operands)
are_operands n operands some few =
    let same = operands_length n operands in
    record {
      some = omega (arith, same, some);
      few =
          omega (arith, same, ltb-false OPERAND_LIMIT (length operands) few);
    }

first_operand : (operands : List RawOperand) → is_some operands ≡ true → 0 < length operands
first_operand [] h = absurd cc
first_operand (a ∷ operands) h = omega arith

some_operand : (t : RawTest) → is_test t ≡ true → 0 < length (operands_of t)
some_operand (Lt a) h = omega arith
some_operand (Le a) h = omega arith
some_operand (Gt a) h = omega arith
some_operand (Ge a) h = omega arith
some_operand (Eq a) h = omega arith
some_operand (Between a b) h = omega arith
some_operand (OneOf operands) h = first_operand operands (both_left (is_some operands) (each is_operand operands) h)

test_fits : (left : Option Kind) (n : ℕ) (t : RawTest) → IsSome left → takes_test left t ≡ true → is_test t ≡ true
    → is_long t ≡ false
    → IsTest left (test_from n t)
test_fits left n t there h spelled short =
    subst (λ (operands : List Operand). AreOperands operands × All (IsOperand left) operands) (sym (from_operands n t))
    (are_operands n (operands_of t) (some_operand t spelled) short, operands_fit left n (operands_of t) there h)

edge_fits : (places : List Place) (a b : RawRef) → is_unknown places a ≡ false → is_misfit places (Same a b) ≡ false
    → IsEdge places (record { left = meant places a; right = meant places b })
edge_fits places a b known h =
    let both = or_parts (place_number a places == place_number b places)
    (not (are_one_kind (kind_meant places a) (kind_meant places b))) h in
    record {
      there = known_column a places known;
      one_kind = one_kind (kind_meant places a) (kind_meant places b) (not-false _ both.1);
      two_places = eqb-false (place_number a places) (place_number b places) both.0;
    }

pub preds_fit : (places : List Place) (n : ℕ) (conds : List RawCond)
    → find (is_unknown places) (flat_map cond_refs conds) ≡ None → find (is_misfit places) conds ≡ None
    → each is_cond conds ≡ true → has_long conds ≡ false
    → All (IsPred places) (preds_from places n conds)
preds_fit places n [] known fit spelled short = All-nil _
preds_fit places n (Test r t ∷ conds) known fit spelled short =
    let k = split_none (is_unknown places r) r (find (is_unknown places) (flat_map cond_refs conds)) known in
    let f = split_none (is_misfit places (Test r t)) (Test r t) (find (is_misfit places) conds) fit in
    let spelled_test = both_right (is_ref r) (is_test t) (both_left (is_cond (Test r t)) (each is_cond conds) spelled)
    in
    let spelled_rest = both_right (is_cond (Test r t)) (each is_cond conds) spelled in
    let s = or_parts (is_long t) (has_long conds) short in
    All-cons (IsPred places) _ _ (test_fits (kind_meant places r) n t (known_column r places k.0) (not-false _ f.0)
    spelled_test s.0)
    (preds_fit places (n + test_count t) conds k.1 f.1 spelled_rest s.1)
preds_fit places n (Same a b ∷ conds) known fit spelled short =
    let k = split_none (is_unknown places a) a _ known in
    let k2 = split_none (is_unknown places b) b (find (is_unknown places) (flat_map cond_refs conds)) k.1 in
    let f = split_none (is_misfit places (Same a b)) (Same a b) (find (is_misfit places) conds) fit in
    preds_fit places n conds k2.1 f.1 (both_right (is_cond (Same a b)) (each is_cond conds) spelled) short

pub edges_fit : (places : List Place) (conds : List RawCond) → find (is_unknown places) (flat_map cond_refs conds)
    ≡ None → find (is_misfit places) conds ≡ None
    → All (IsEdge places) (edges_of places conds)
edges_fit places [] known fit = All-nil _
edges_fit places (Test r t ∷ conds) known fit =
    let k = split_none (is_unknown places r) r (find (is_unknown places) (flat_map cond_refs conds)) known in
    let f = split_none (is_misfit places (Test r t)) (Test r t) (find (is_misfit places) conds) fit in
    edges_fit places conds k.1 f.1
edges_fit places (Same a b ∷ conds) known fit =
    let k = split_none (is_unknown places a) a _ known in
    let k2 = split_none (is_unknown places b) b (find (is_unknown places) (flat_map cond_refs conds)) k.1 in
    let f = split_none (is_misfit places (Same a b)) (Same a b) (find (is_misfit places) conds) fit in
    All-cons (IsEdge places) _ _ (edge_fits places a b k.0 f.0) (edges_fit places conds k2.1 f.1)
