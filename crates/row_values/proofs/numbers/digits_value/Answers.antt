use Rattle.std.proofs.Common.{◌+◌, ◌∙◌, drop, get_or, arith, sym}
use Rattle.std.proofs.lemmas.List.{drop_more, drop_all}
use Rattle.row_values.proofs.WholeNumbers.{passes, reads}
use Rattle.row_values.proofs.numbers.digits_value.Goals as goal

pub returns-in_err-checked_mul : goal.returns-in_err-checked_mul
returns-in_err-checked_mul c =
    let i = c.loop-digit.digit-index in
    let left = rw (drop_more c.args.digits.now i 0 c.loop-digit-test.true) at c.loop-digit.invariant.value in
    let above = c.in_err-checked_mul.ensures in
    c.from_residual.ensures
    ∙ passes c.loop-digit.value 18446744073709551616 (get_or c.args.digits.now i 0) c.args.digits.now
    (drop (i + 1) c.args.digits.now) left (omega (arith, above))

pub returns-in_err-value : goal.returns-in_err-value
returns-in_err-value c =
    let i = c.loop-digit.digit-index in
    let left = rw (drop_more c.args.digits.now i 0 c.loop-digit-test.true) at c.loop-digit.invariant.value in
    let above = c.in_err-value.ensures in
    c.from_residual-in_err-value.ensures
    ∙ passes c.loop-digit.value 18446744073709551616 (get_or c.args.digits.now i 0) c.args.digits.now
    (drop (i + 1) c.args.digits.now) left (omega (arith, above, c.in_ok-checked_mul.ensures, c.from.ensures))

pub returns : goal.returns
returns c =
    let none = drop_all c.loop-digit.digit-index c.args.digits.now c.loop-digit-test.false in
    let value = rw none at c.loop-digit.invariant.value in
    let digits = rw none at c.loop-digit.invariant.digits in
    reads c.loop-digit.value 18446744073709551616 c.args.digits.now value (sym digits) (sym c.is_empty.ensures
    ∙ c.if-is_empty.false) (omega arith)
