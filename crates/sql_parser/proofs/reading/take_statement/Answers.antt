use Rattle.sql_parser.proofs.ReadIsSound.{parts_sound}
use Rattle.sql_parser.proofs.ReadIsSpelled.{read_from}
use Rattle.sql_parser.proofs.reading.take_statement.Goals as goal

pub of-requires : goal.of-requires
of-requires c =
    parts_sound c.args.tokens.now.items _ c.take_end.new.tokens.items
    (read_from c.args.tokens.now.items c.expect.new.tokens.items c.take_items.new.tokens.items
    c.expect-2.new.tokens.items
    c.take_source.new.tokens.items c.take_group.new.tokens.items c.take_order.new.tokens.items
    c.take_end.new.tokens.items
    c.in_ok-items.items.items (c.in_ok-places.places.items, c.in_ok-places.conds.items) c.in_ok-groups.groups.items
    c.in_ok-order.order.items
    c.in_ok-expect.field-0 c.in_ok-expect-2.field-0 c.in_ok-take_end.field-0
    c.in_ok-expect.ensures c.in_ok-items.ensures c.in_ok-expect-2.ensures c.in_ok-places.ensures c.in_ok-groups.ensures
    c.in_ok-order.ensures c.in_ok-take_end.ensures)
    c.requires
