use Rattle.std.proofs.Common.{◌<◌, [], length}
use Rattle.std.proofs.lemmas.List.{get_or-map, length-map}
use Rattle.row_values.specs.declared.values.Kind.TheVariants as kind
use Rattle.csv_tables.proofs.PackedColumns.{kind_read}
use Rattle.csv_tables.proofs.table.Table.numbers.Goals as goal

pub returns-in-Int-clause-value : goal.returns-in-Int-clause-value
returns-in-Int-clause-value c =
    let inside = rw (← c.self.view_is) at c.requires in
    let k = rw c.columns.ensures.value at c.in-Int.is in
    let read = rw c.as_slice.ensures.value at c.index-as_slice-column.is in
    let one = rw length-map at c.self.invariant.numbers.one_each in
    let place : c.args.column < length c.self.inside.packed.items = rw one inside in
    let numbers = c.self.invariant.numbers.numbers c.args.column
    (kind_read c.self.inside.schema c.args.column _ kind.Int inside k) in
    let at = get_or-map (λ numbers. numbers.items) c.self.inside.packed.items c.args.column
    c.index-as_slice-column.result [] place in
    rw (← c.self.view_is, c.as_slice-in-Int.ensures.value) (rw (at, ← read) at numbers)

pub returns-in-Text-clause-found : goal.returns-in-Text-clause-found
returns-in-Text-clause-found c =
    let inside = rw (← c.self.view_is) at c.requires in
    let k = rw c.columns.ensures.value at c.in-Text.is in
    let text = kind_read c.self.inside.schema c.args.column _ kind.Text inside k in
    rw (← c.self.view_is) ((λ h. cc), (λ h. cc))
