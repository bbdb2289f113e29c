use Rattle.table_index.proofs.Entries.{derefed, looked_up}
use Rattle.table_index.proofs.statement_indexes.index_of.Goals as goal

pub returns-in_err-entry : goal.returns-in_err-entry
returns-in_err-entry c =
    rw (
      looked_up c.args.q.now.places c.args.indexes.now c.args.place c.args.column c.entries_of.result.now c.get.result
          c.places.result.now c.from.result c.entries_of.ensures c.places.ensures.value c.from.ensures c.get.ensures.lookup,
      c.in_err-entry.was,
      c.from_residual.ensures,
    )

pub returns : goal.returns
returns c =
    rw (
      looked_up c.args.q.now.places c.args.indexes.now c.args.place c.args.column c.entries_of.result.now c.get.result
          c.places.result.now c.from.result c.entries_of.ensures c.places.ensures.value c.from.ensures c.get.ensures.lookup,
      c.in_ok-entry.was,
    ) (derefed c.in_ok-entry.entry.now c.as_deref.result c.as_deref.ensures.cases)
