use Rattle.std.proofs.Common.{sym}
use Rattle.std.proofs.lemmas.Result.{err_from_is_err_and}
use Rattle.sql_parser.proofs.ListsInLoops.{from_start, from_step, err_from}
use Rattle.sql_parser.proofs.ReadIsSpelled.{joined_shorter}
use Rattle.sql_parser.proofs.reading.take_from.Goals as goal

pub returns-in_err-first : goal.returns-in_err-first
returns-in_err-first c =
    let p = err_from_is_err_and c.from_residual.result c.from_residual.ensures.1 in
    rw (p.1, p.2) (err_from c.args.tokens.now.items c.in_err-first.field-0.0 c.in_err-first.ensures)

pub joins-init : goal.joins-init
joins-init c =
    rw (c.in_ok-push.ensures.items, c.new-places.ensures.items, c.new-conds.ensures.items)
    (from_start c.args.tokens.now.items c.in_ok-first.first c.take_place.new.tokens.items c.in_ok-first.ensures)

pub joins-smaller : goal.joins-smaller
joins-smaller c = joined_shorter c.joins.tokens.items
    (record { place = c.in_ok-join.join.place; conds = c.in_ok-join.join.conds.items }) c.take_joined.new.tokens.items
    c.in_ok-join.ensures

pub joins-preserved : goal.joins-preserved
joins-preserved c =
    rw (c.in_ok-push-2.ensures.items, c.in_ok-append.ensures.items)
    (from_step c.args.tokens.now.items c.joins.places.items c.joins.conds.items c.joins.tokens.items
    (record { place = c.in_ok-join.join.place; conds = c.in_ok-join.join.conds.items })
    c.take_joined.new.tokens.items
    c.joins.invariant (sym c.joins-test.ensures) c.in_ok-join.ensures
    (joined_shorter c.joins.tokens.items
    (record { place = c.in_ok-join.join.place; conds = c.in_ok-join.join.conds.items })
    c.take_joined.new.tokens.items c.in_ok-join.ensures))
