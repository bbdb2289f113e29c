use Rattle.std.proofs.Common.{sym}
use Rattle.std.proofs.lemmas.Result.{err_from_is_err_and}
use Rattle.sql_parser.specs.Grammar.{IsCond}
use Rattle.sql_parser.specs.Reading.{cond_at}
use Rattle.sql_parser.specs.declared.tokens.Symbol.TheVariants as symbol
use Rattle.sql_parser.proofs.ListsInLoops.{list_start, list_step, err_first}
use Rattle.sql_parser.proofs.ReadIsSpelled.{cond_reads, list_shorter}
use Rattle.sql_parser.proofs.reading.take_conds.Goals as goal

pub returns-in_err-first : goal.returns-in_err-first
returns-in_err-first c =
    let p = err_from_is_err_and c.from_residual.result c.from_residual.ensures.1 in
    rw (p.1, p.2) (err_first symbol.And cond_at c.args.tokens.now.items c.in_err-first.field-0.0 c.in_err-first.ensures)

pub conds-init : goal.conds-init
conds-init c =
    rw (c.in_ok-push.ensures.items, c.new-conds.ensures.items)
    (list_start symbol.And cond_at c.args.tokens.now.items c.in_ok-first.first c.take_cond.new.tokens.items
    c.in_ok-first.ensures)

pub conds-smaller : goal.conds-smaller
conds-smaller c =
    list_shorter IsCond symbol.And c.conds.tokens.items c.accept.new.tokens.items c.take_cond-in-conds.new.tokens.items
    cond_at c.in_ok-next.next cond_reads
    (sym c.conds-test.ensures.value) c.conds-test.ensures.rest c.in_ok-next.ensures

pub conds-preserved : goal.conds-preserved
conds-preserved c =
    rw (c.in_ok-push-2.ensures.items)
    (list_step symbol.And cond_at c.args.tokens.now.items c.conds.conds.items c.conds.tokens.items c.in_ok-next.next
    c.take_cond-in-conds.new.tokens.items
    c.conds.invariant (sym c.conds-test.ensures.value) (rw (c.conds-test.ensures.rest) at c.in_ok-next.ensures)
    (list_shorter IsCond symbol.And c.conds.tokens.items c.accept.new.tokens.items c.take_cond-in-conds.new.tokens.items
    cond_at c.in_ok-next.next cond_reads
    (sym c.conds-test.ensures.value) c.conds-test.ensures.rest c.in_ok-next.ensures))
