use Rattle.std.proofs.Common.{◌≡◌, ◌+◌, take, drop, arith, sym, ap, subst, ◌∙◌, ℤ, w64}
use Rattle.std.proofs.lemmas.Int.{to_z-of_z}
use Rattle.std.proofs.lemmas.Result.{OkIff-at_ok, OkIff-at_err}
use Rattle.std.specs.Int.RustNames.{FitsSigned}
use Rattle.std.specs.List.{prefix_len}
use Rattle.std.specs.Char.{is_ascii_digit}
use Rattle.sql_parser.proofs.Scanning.{all_behind, number_cut, number_found, number_lost}
use Rattle.sql_parser.proofs.tokens.number.Goals as goal

pub overflow_add-len : goal.overflow_add-len
overflow_add-len c =
    let n : c.digits_len-len.result ≡ prefix_len is_ascii_digit (drop 1 c.args.text.now) = c.digits_len-len.ensures
    ∙ rw (c.as_bytes.ensures.value) (ap (prefix_len is_ascii_digit) (all_behind c.args.text.now)) in
    let b = (number_cut c.args.text.now c.requires c.utf8.text).0 in
    omega arith

pub range-requires-clause-end_boundary : goal.range-requires-clause-end_boundary
range-requires-clause-end_boundary c =
    let n : c.digits_len-len.result ≡ prefix_len is_ascii_digit (drop 1 c.args.text.now) = c.digits_len-len.ensures
    ∙ rw (c.as_bytes.ensures.value) (ap (prefix_len is_ascii_digit) (all_behind c.args.text.now)) in
    rw n (number_cut c.args.text.now c.requires c.utf8.text)

pub returns-in-Ok : goal.returns-in-Ok
returns-in-Ok c =
    let n : c.digits_len-len.result ≡ prefix_len is_ascii_digit (drop 1 c.args.text.now) = c.digits_len-len.ensures
    ∙ rw (c.as_bytes.ensures.value) (ap (prefix_len is_ascii_digit) (all_behind c.args.text.now)) in
    let w : c.range.result.now ≡ take (1 + c.digits_len-len.result) c.args.text.now = grind arith in
    let v : c.range.result.now ≡ take (1 + prefix_len is_ascii_digit (drop 1 c.args.text.now)) c.args.text.now =
    rw n at w in
    let f = OkIff-at_ok c.parse.result _ _ c.in-Ok.number c.parse.ensures.value.0 c.in-Ok.is in
    let fits : FitsSigned w64 c.in-Ok.number =
    (let P : ℤ → Type 0 = λ z. FitsSigned w64 z in subst P (sym f.1) f.0.1) in
    rw (to_z-of_z w64 c.in-Ok.number fits, n) (
      number_found c.args.text.now c.range.result.now c.in-Ok.number c.requires v f,
      number_cut c.args.text.now c.requires c.utf8.text,
    )

pub returns-in-Err : goal.returns-in-Err
returns-in-Err c =
    let n : c.digits_len-len.result ≡ prefix_len is_ascii_digit (drop 1 c.args.text.now) = c.digits_len-len.ensures
    ∙ rw (c.as_bytes.ensures.value) (ap (prefix_len is_ascii_digit) (all_behind c.args.text.now)) in
    let w : c.range.result.now ≡ take (1 + c.digits_len-len.result) c.args.text.now = grind arith in
    let v : c.range.result.now ≡ take (1 + prefix_len is_ascii_digit (drop 1 c.args.text.now)) c.args.text.now =
    rw n at w in
    number_lost c.args.text.now c.range.result.now c.requires v
    (OkIff-at_err c.parse.result _ _ c.in-Err.field-0 c.parse.ensures.value.0 c.in-Err.is)
