use Rattle.std.proofs.Common.{◌∙◌, sym}
use Rattle.std.proofs.lemmas.List.{drop_all}
use Rattle.csv.specs.Machine.{ends_at_end}
use Rattle.csv_tables.specs.Shapes.{state_at}
use Rattle.csv_tables.proofs.Widths.{closed, left_open, shape_is}
use Rattle.csv_tables.proofs.shape.shape_of.Goals as goal

pub returns-then-is_inside : goal.returns-then-is_inside
returns-then-is_inside c =
    let none = drop_all c.loop-byte.byte-index c.without_mark-bytes.result.now c.loop-byte-test.false in
    let total = rw (none, c.without_mark-bytes.ensures) at c.loop-byte.invariant.total in
    shape_is c.args.bytes.now c.with.result (c.with.ensures ∙
    left_open (ends_at_end (state_at c.loop-byte.count.state)) c.loop-byte.count.shape _ c.loop-byte.count.field_count
    (sym c.is_inside.ensures ∙ c.if-is_inside.true) total)

pub returns : goal.returns
returns c =
    let none = drop_all c.loop-byte.byte-index c.without_mark-bytes.result.now c.loop-byte-test.false in
    let total = rw (none, c.without_mark-bytes.ensures) at c.loop-byte.invariant.total in
    shape_is c.args.bytes.now c.loop-byte.count.shape
    (closed (ends_at_end (state_at c.loop-byte.count.state)) c.loop-byte.count.shape _ c.loop-byte.count.field_count
    (sym c.is_inside.ensures ∙ c.if-is_inside.false) total)
