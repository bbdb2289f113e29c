-- A statement has at most sixteen parameters for each parameterised predicate.
use Rattle.std.proofs.Common.{ℕ, Bool, true, false, refl, ◌≡◌, ◌≤◌, ◌+◌, ◌*◌, List, [], ◌∷◌, ◌++◌, length, map}
use Rattle.std.proofs.Common.{if◌then◌else◌, Option, All, unwrap_or, ◌<◌, suc, drop, get_or, ap, sym, ◌∙◌, add-one}
use Rattle.std.proofs.Common.{drop-cons, append_assoc, arith, length-append}
use Rattle.std.specs.List.{flat_map, list_any}
use Rattle.std.proofs.lemmas.List.{length-map}
use Rattle.std.proofs.lemmas.List.Elements.{All-head, All-tail}
use Rattle.row_values.specs.declared.values.Kind.{Kind}
use Rattle.row_values.specs.declared.values.Kind.TheVariants as kind
use Rattle.row_values.specs.declared.statement.Place.{Place}
use Rattle.row_values.specs.declared.statement.Pred.{Pred}
use Rattle.row_values.specs.declared.statement.Operand.{Operand}
use Rattle.row_values.specs.declared.statement.Operand.TheVariants.{Literal, Param}
use Rattle.row_values.specs.Statements.{operand_parameters, operands_of, is_parameter, test_parameters, kinds_of}
use Rattle.row_values.specs.Statements.{kind_at, selectivity_count, IsPred}

few_in_operand : (a : Operand) → length (operand_parameters a) ≤ 1
few_in_operand (Literal value) = omega arith
few_in_operand (Param number) = omega arith

few_in_operands : (operands : List Operand) → length (flat_map operand_parameters operands) ≤ length operands
few_in_operands [] = omega arith
few_in_operands (a ∷ operands) =
    omega (
      arith,
      length-append (operand_parameters a) (flat_map operand_parameters operands),
      few_in_operand a,
      few_in_operands operands,
    )

none_in_operands : (operands : List Operand) → list_any is_parameter operands ≡ false
    → length (flat_map operand_parameters operands) ≡ 0
none_in_operands [] none = refl
none_in_operands (Literal value ∷ operands) none = none_in_operands operands none
none_in_operands (Param number ∷ operands) none = cc

-- what is no more than sixteen is no more than sixteen times one, or it is nothing
few_by : (some : Bool) (count : ℕ) → (some ≡ false → count ≡ 0) → count ≤ 16 → count ≤ 16 * (if some then 1 else 0)
few_by true count none few = few
few_by false count none few = omega (arith, none refl)

few_in_pred : (places : List Place) (pred : Pred) → IsPred places pred
    → length (test_parameters pred.test) ≤ 16 * (if list_any is_parameter (operands_of pred.test) then 1 else 0)
few_in_pred places pred is =
    let operands = operands_of pred.test in
    few_by (list_any is_parameter operands) (length (flat_map operand_parameters operands)) (none_in_operands operands)
    (omega (arith, few_in_operands operands, is.0.few))

pub length-kinds_of : (places : List Place) (preds : List Pred) → All (IsPred places) preds
    → length (kinds_of places preds) ≤ 16 * selectivity_count preds
length-kinds_of places [] are = omega arith
length-kinds_of places (pred ∷ preds) are =
    let f : ℕ → Kind = λ _. unwrap_or (kind_at places pred.at) kind.Int in
    omega (
      arith,
      length-append (map f (test_parameters pred.test)) (kinds_of places preds),
      length-map (test_parameters pred.test) f,
      few_in_pred places pred (All-head (IsPred places) pred preds are),
      length-kinds_of places preds (All-tail (IsPred places) pred preds are),
    )

-- the kinds of one more predicate's parameters
pub kinds_more : (places : List Place) (preds : List Pred) (index : ℕ) (pred : Pred) (left : Kind)
    (kinds after whole : List Kind) → index < length preds → pred ≡ get_or preds index pred
    → left ≡ unwrap_or (kind_at places pred.at) kind.Int → after ≡ kinds ++ map (λ _. left) (test_parameters pred.test)
    → kinds ++ kinds_of places (drop index preds) ≡ whole → after ++ kinds_of places (drop (index + 1) preds) ≡ whole
kinds_more places preds index pred left kinds after whole there is k e same =
    let cut : drop index preds ≡ pred ∷ drop (index + 1) preds =
    rw (add-one, drop-cons preds index pred there) (ap (λ (p : Pred). p ∷ drop (suc index) preds) (sym is)) in
    let more : List Kind = kinds_of places (drop (index + 1) preds) in
    ap (λ (ks : List Kind). ks ++ more) e
    ∙ (append_assoc kinds (map (λ _. left) (test_parameters pred.test)) more
    ∙ (ap (λ (x : Kind). kinds ++ (map (λ _. x) (test_parameters pred.test) ++ more)) k
    ∙ (sym (ap (λ (ps : List Pred). kinds ++ kinds_of places ps) cut) ∙ same)))
