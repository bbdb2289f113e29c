use Rattle.std.proofs.Common.{◌<◌, List, length, ap, subst, arith}
use Rattle.row_values.specs.declared.statement.ColRef.{ColRef}
use Rattle.csv_tables.specs.StatementTables.{rows_in}
use Rattle.result_shape.proofs.GrowingGroups.{some_there}
use Rattle.result_shape.proofs.shaper.Shaper.push.Goals as goal

pub returns-then-not-is_empty-clause-pushed : goal.returns-then-not-is_empty-clause-pushed
returns-then-not-is_empty-clause-pushed c =
    λ tables h s.
    let some : 0 < length c.args.q.now.groups =
    subst (λ (groups : List ColRef). 0 < length groups) c.groups.ensures.value
    (some_there (length c.groups.result.now) c.if-not-is_empty.ensures) in
    let taken = rw (c.as_slice.ensures.value, c.as_slice-then-not-is_empty.ensures.value)
    at c.in_ok-take_in_group.ensures.taken in (
      record {
        tables_are = s.tables_are;
        ready = s.ready;
        combos = λ e. absurd (omega (arith, some, ap length e));
        groups = λ l. taken c.args.q.now (rows_in tables) h s.ready (s.groups l);
      },
      λ e. absurd (omega (arith, some, ap length e)),
    )
