use Rattle.std.proofs.Common.{sym, ◌∙◌}
use Rattle.csv.specs.Records.{fields_of}
use Rattle.csv_tables.proofs.Sound.{all_fit, built, kept, left, spells}
use Rattle.csv_tables.proofs.read.build.Goals as goal

pub read_cells-requires-clause-count : goal.read_cells-requires-clause-count
read_cells-requires-clause-count c =
    (left c.args.bytes.now c.args.headings.now c.args.row_count c.args.survey.now c.in_ok-columns.columns.items
    c.in_ok-next.field-0 (fields_of c.next.new.row) c.next.new.self c.requires
    (c.in_ok-columns.ensures _ c.requires.survey_is) (sym c.of-records.ensures ∙ c.in_ok-next.ensures)).counted

pub read_cells-requires-clause-few : goal.read_cells-requires-clause-few
read_cells-requires-clause-few c =
    rw c.deref.ensures.value
    (left c.args.bytes.now c.args.headings.now c.args.row_count c.args.survey.now c.in_ok-columns.columns.items
    c.in_ok-next.field-0 (fields_of c.next.new.row) c.next.new.self c.requires
    (c.in_ok-columns.ensures _ c.requires.survey_is) (sym c.of-records.ensures ∙ c.in_ok-next.ensures)).cells

pub returns-in_default-clause-whole : goal.returns-in_default-clause-whole
returns-in_default-clause-whole c = λ whole good.
    let fit = rw (c.in_default.is, c.deref.ensures.value) at c.in_ok-cells.ensures.fit in
    fit
    ∙ all_fit c.args.bytes.now c.args.headings.now c.args.row_count c.args.survey.now c.in_ok-columns.columns.items
    c.in_ok-next.field-0 (fields_of c.next.new.row) c.next.new.self c.requires
    (c.in_ok-columns.ensures _ c.requires.survey_is) (sym c.of-records.ensures ∙ c.in_ok-next.ensures) whole good

pub unwrap-schema-requires : goal.unwrap-schema-requires
unwrap-schema-requires c =
    let fit = rw (c.in-Some.is, c.deref.ensures.value) at c.in_ok-cells.ensures.fit in
    let k = built c.args.bytes.now c.args.headings.now c.args.row_count c.args.survey.now c.in_ok-columns.columns.items
    c.in_ok-next.field-0 (fields_of c.next.new.row) c.next.new.self c.requires
    (c.in_ok-columns.ensures _ c.requires.survey_is) (sym c.of-records.ensures ∙ c.in_ok-next.ensures) (sym fit) in
    c.of.ensures.found.1 k.schema

pub of-requires-2 : goal.of-requires-2
of-requires-2 c =
    let fit = rw (c.in-Some.is, c.deref.ensures.value) at c.in_ok-cells.ensures.fit in
    let value = rw c.in-Some.is at c.in_ok-cells.ensures.value in
    let k = built c.args.bytes.now c.args.headings.now c.args.row_count c.args.survey.now c.in_ok-columns.columns.items
    c.in_ok-next.field-0 (fields_of c.next.new.row) c.next.new.self c.requires
    (c.in_ok-columns.ensures _ c.requires.survey_is) (sym c.of-records.ensures ∙ c.in_ok-next.ensures) (sym fit) in
    let schema = rw c.unwrap-schema.ensures at c.of.ensures.value in
    kept c.args.bytes.now c.args.row_count c.in_ok-columns.columns.items c.unwrap-schema.result c.deref.result.now
    c.in-Some.cells.items c.next.new.self k
    (record { schema_is = schema; slice_is = c.deref.ensures.value; items_are = value })

pub returns-clause-table : goal.returns-clause-table
returns-clause-table c =
    let fit = rw (c.in-Some.is, c.deref.ensures.value) at c.in_ok-cells.ensures.fit in
    let value = rw c.in-Some.is at c.in_ok-cells.ensures.value in
    let k = built c.args.bytes.now c.args.headings.now c.args.row_count c.args.survey.now c.in_ok-columns.columns.items
    c.in_ok-next.field-0 (fields_of c.next.new.row) c.next.new.self c.requires
    (c.in_ok-columns.ensures _ c.requires.survey_is) (sym c.of-records.ensures ∙ c.in_ok-next.ensures) (sym fit) in
    let schema = rw c.unwrap-schema.ensures at c.of.ensures.value in
    rw c.in_ok-table.ensures
    (spells c.args.bytes.now c.args.row_count c.in_ok-columns.columns.items c.unwrap-schema.result c.deref.result.now
    c.in-Some.cells.items c.next.new.self k
    (record { schema_is = schema; slice_is = c.deref.ensures.value; items_are = value }))
