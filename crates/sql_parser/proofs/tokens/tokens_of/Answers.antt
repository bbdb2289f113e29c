use Rattle.std.proofs.Common.{◌≡◌, ◌<◌, length, arith}
use Rattle.std.proofs.lemmas.Bool.Decides.{nat_tests}
use Rattle.std.proofs.lemmas.Result.{err_from_is_err_and}
use Rattle.sql_parser.specs.declared.faults.ParseFault.TheVariants as fault
use Rattle.sql_parser.proofs.TokensOnce.{read_none, read_one, read_all, read_only, read_stuck, step_shorter}
use Rattle.sql_parser.proofs.tokens.tokens_of.Goals as goal

pub loop-rest-init : goal.loop-rest-init
loop-rest-init c = (
  c.after_white-rest.utf8,
  rw (c.new-tokens.ensures.items)
      (read_none c.args.text.now c.after_white-rest.result.now c.after_white-rest.ensures),
)

pub returns-in_err-token-clause-syntax : goal.returns-in_err-token-clause-syntax
returns-in_err-token-clause-syntax c = λ s others are.
    let p = err_from_is_err_and c.from_residual.result c.from_residual.ensures.1 in
    let q = p.2 in
    let t = rw (p.1) at s in
    let e : c.in_err-token.field-0.0 ≡ fault.Syntax = cc in
    let z : 0 < length c.loop-rest.rest.now = grind (arith, nat_tests) in
    read_stuck c.args.text.now c.loop-rest.tokens.items c.loop-rest.rest.now c.loop-rest.invariant.1 z
    (rw e at c.in_err-token.ensures) others are

pub loop-rest-smaller : goal.loop-rest-smaller
loop-rest-smaller c =
    step_shorter c.in_ok-token.token c.loop-rest.rest.now _ c.after_white-rest-in-loop-rest.result.now
    c.in_ok-token.ensures.0 (rw (c.range_from.ensures.value) at c.after_white-rest-in-loop-rest.ensures)

pub loop-rest-preserved : goal.loop-rest-preserved
loop-rest-preserved c = (
  c.after_white-rest-in-loop-rest.utf8,
  rw (c.in_ok-push_back.ensures.items)
      (read_one c.args.text.now c.loop-rest.tokens.items c.loop-rest.rest.now c.in_ok-token.token _
      c.after_white-rest-in-loop-rest.result.now
      c.loop-rest.invariant.1 c.in_ok-token.ensures.0
      (rw (c.range_from.ensures.value) at c.after_white-rest-in-loop-rest.ensures)),
)

pub returns-clause-found : goal.returns-clause-found
returns-clause-found c =
    let z : length c.loop-rest.rest.now ≡ 0 = grind (arith, nat_tests) in
    read_all c.args.text.now c.loop-rest.tokens.items c.loop-rest.rest.now c.loop-rest.invariant.1 z

pub returns-clause-only : goal.returns-clause-only
returns-clause-only c =
    let z : length c.loop-rest.rest.now ≡ 0 = grind (arith, nat_tests) in
    read_only c.args.text.now c.loop-rest.tokens.items c.loop-rest.rest.now c.loop-rest.invariant.1 z
