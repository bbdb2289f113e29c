use Rattle.std.proofs.Common.{sym}
use Rattle.std.proofs.lemmas.Result.{err_from_is_err_and}
use Rattle.sql_parser.specs.Grammar.{IsListedOperand}
use Rattle.sql_parser.specs.Reading.{operand_at}
use Rattle.sql_parser.specs.declared.tokens.Symbol.TheVariants as symbol
use Rattle.sql_parser.proofs.ListsInLoops.{list_start, list_step, err_first}
use Rattle.sql_parser.proofs.ReadIsSpelled.{operand_reads, list_shorter}
use Rattle.sql_parser.proofs.reading.take_operands.Goals as goal

pub returns-in_err-first : goal.returns-in_err-first
returns-in_err-first c =
    let p = err_from_is_err_and c.from_residual.result c.from_residual.ensures.1 in
    rw (p.1, p.2) (err_first symbol.Comma operand_at c.args.tokens.now.items c.in_err-first.field-0.0
    c.in_err-first.ensures)

pub loop-tokens-init : goal.loop-tokens-init
loop-tokens-init c =
    rw (c.in_ok-push.ensures.items, c.new-operands.ensures.items)
    (list_start symbol.Comma operand_at c.args.tokens.now.items c.in_ok-first.first c.take_operand.new.tokens.items
    c.in_ok-first.ensures)

pub loop-tokens-smaller : goal.loop-tokens-smaller
loop-tokens-smaller c =
    list_shorter IsListedOperand symbol.Comma c.loop-tokens.tokens.items c.accept.new.tokens.items
    c.take_operand-in-loop-tokens.new.tokens.items operand_at c.in_ok-next.next operand_reads
    (sym c.loop-tokens-test.ensures.value) c.loop-tokens-test.ensures.rest c.in_ok-next.ensures

pub loop-tokens-preserved : goal.loop-tokens-preserved
loop-tokens-preserved c =
    rw (c.in_ok-push-2.ensures.items)
    (list_step symbol.Comma operand_at c.args.tokens.now.items c.loop-tokens.operands.items c.loop-tokens.tokens.items
    c.in_ok-next.next c.take_operand-in-loop-tokens.new.tokens.items
    c.loop-tokens.invariant (sym c.loop-tokens-test.ensures.value)
    (rw (c.loop-tokens-test.ensures.rest) at c.in_ok-next.ensures)
    (list_shorter IsListedOperand symbol.Comma c.loop-tokens.tokens.items c.accept.new.tokens.items
    c.take_operand-in-loop-tokens.new.tokens.items operand_at c.in_ok-next.next operand_reads
    (sym c.loop-tokens-test.ensures.value) c.loop-tokens-test.ensures.rest c.in_ok-next.ensures))
