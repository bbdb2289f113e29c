use Rattle.std.proofs.Common.{pos}
use Rattle.std.specs.Cmp.{int_cmp_total}
use Rattle.std.specs.Ordering.{int_cmp}
use Rattle.table_index.proofs.Changes.{new_by_last, not_equal}
use Rattle.table_index.proofs.distinct.is_new_number.Goals as goal

pub returns-else-position-eq0 : goal.returns-else-position-eq0
returns-else-position-eq0 c =
    rw (c.is_ne.ensures, c.cmp.ensures, not_equal)
    (new_by_last int_cmp int_cmp_total c.args.numbers.now c.requires.in_order c.args.position
    (pos 0) c.if-position-eq0.false c.requires.position)
