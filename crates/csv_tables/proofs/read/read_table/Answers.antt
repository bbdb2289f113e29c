use Rattle.std.proofs.Common.{◌∙◌, length, sym}
use Rattle.std.proofs.lemmas.Result.{err_from_is_err_and}
use Rattle.csv.specs.Records.{fields_of}
use Rattle.csv_tables.specs.Reading.{records_of}
use Rattle.csv_tables.specs.declared.faults.TableFault.TheVariants.{Columns}
use Rattle.csv_tables.proofs.Sound.{shaped_file}
use Rattle.csv_tables.proofs.Spelled.{columns_first, first_read, name_first, no_header, none_counted, refused}
use Rattle.csv_tables.proofs.Spelled.{shape_first, some_counted, uneven_fits}
use Rattle.csv_tables.proofs.read.read_table.Goals as goal

pub returns-in_default-clause-fault : goal.returns-in_default-clause-fault
returns-in_default-clause-fault c _ =
    no_header c.args.bytes.now
    (none_counted (records_of c.args.bytes.now) c.shape_of-shape.result c.shape_of-shape.ensures c.in_default.is)

pub returns-then-column_count-gt-COLUMN_LIMIT-clause-fault : goal.returns-then-column_count-gt-COLUMN_LIMIT-clause-fault
returns-then-column_count-gt-COLUMN_LIMIT-clause-fault c _ =
    let headed = some_counted (records_of c.args.bytes.now) c.shape_of-shape.result c.in-Some.column_count
    c.shape_of-shape.ensures c.in-Some.is in
    let many = rw headed.width_is at c.if-column_count-gt-COLUMN_LIMIT.true in
    refused c.args.bytes.now headed.header headed.rows Columns headed.are (columns_first headed.header headed.rows many)

pub read_header-requires : goal.read_header-requires
read_header-requires c =
    let headed = some_counted (records_of c.args.bytes.now) c.shape_of-shape.result c.in-Some.column_count
    c.shape_of-shape.ensures c.in-Some.is in
    let first = first_read (records_of c.args.bytes.now) c.shape_of-shape.result c.in-Some.column_count
    c.in_ok-next.field-0 (fields_of c.next.new.row) c.next.new.self headed
    (sym c.of-records.ensures ∙ c.in_ok-next.ensures) in
    let few = rw first.width_is at c.if-column_count-gt-COLUMN_LIMIT.false in
    few

pub returns-in_err-headings-clause-fault : goal.returns-in_err-headings-clause-fault
returns-in_err-headings-clause-fault c =
    let headed = some_counted (records_of c.args.bytes.now) c.shape_of-shape.result c.in-Some.column_count
    c.shape_of-shape.ensures c.in-Some.is in
    let first = first_read (records_of c.args.bytes.now) c.shape_of-shape.result c.in-Some.column_count
    c.in_ok-next.field-0 (fields_of c.next.new.row) c.next.new.self headed
    (sym c.of-records.ensures ∙ c.in_ok-next.ensures) in
    let few = rw first.width_is at c.if-column_count-gt-COLUMN_LIMIT.false in
    let p = err_from_is_err_and c.from_residual-in_err-headings.result c.from_residual-in_err-headings.ensures.1 in
    rw (p.1, p.2) (λ known. refused c.args.bytes.now (fields_of c.next.new.row) c.next.new.self _ first.are
    (name_first (fields_of c.next.new.row) c.next.new.self _ few (c.in_err-headings.ensures.fault known)))

pub fault_of_shape-requires-clause-uneven : goal.fault_of_shape-requires-clause-uneven
fault_of_shape-requires-clause-uneven c =
    let headed = some_counted (records_of c.args.bytes.now) c.shape_of-shape.result c.in-Some.column_count
    c.shape_of-shape.ensures c.in-Some.is in
    let first = first_read (records_of c.args.bytes.now) c.shape_of-shape.result c.in-Some.column_count
    c.in_ok-next.field-0 (fields_of c.next.new.row) c.next.new.self headed
    (sym c.of-records.ensures ∙ c.in_ok-next.ensures) in
    let few = rw first.width_is at c.if-column_count-gt-COLUMN_LIMIT.false in
    rw first.shape_is.row_count
    (uneven_fits (length (fields_of c.next.new.row)) c.next.new.self c.shape_of-shape.result.uneven
    (sym first.shape_is.uneven))

pub returns-in-Some-fault_of_shape-clause-fault : goal.returns-in-Some-fault_of_shape-clause-fault
returns-in-Some-fault_of_shape-clause-fault c _ =
    let headed = some_counted (records_of c.args.bytes.now) c.shape_of-shape.result c.in-Some.column_count
    c.shape_of-shape.ensures c.in-Some.is in
    let first = first_read (records_of c.args.bytes.now) c.shape_of-shape.result c.in-Some.column_count
    c.in_ok-next.field-0 (fields_of c.next.new.row) c.next.new.self headed
    (sym c.of-records.ensures ∙ c.in_ok-next.ensures) in
    let few = rw first.width_is at c.if-column_count-gt-COLUMN_LIMIT.false in
    let is = rw (first.shape_is.row_count, first.shape_is.uneven, first.width_is) at (sym c.fault_of_shape.ensures
    ∙ c.in-Some-fault_of_shape.is) in
    refused c.args.bytes.now (fields_of c.next.new.row) c.next.new.self c.in-Some-fault_of_shape.fault first.are
    (shape_first (fields_of c.next.new.row) c.next.new.self c.in-Some-fault_of_shape.fault few
    c.in_ok-headings.ensures.ok.1 is)

pub read_shaped-requires : goal.read_shaped-requires
read_shaped-requires c =
    let headed = some_counted (records_of c.args.bytes.now) c.shape_of-shape.result c.in-Some.column_count
    c.shape_of-shape.ensures c.in-Some.is in
    let first = first_read (records_of c.args.bytes.now) c.shape_of-shape.result c.in-Some.column_count
    c.in_ok-next.field-0 (fields_of c.next.new.row) c.next.new.self headed
    (sym c.of-records.ensures ∙ c.in_ok-next.ensures) in
    let few = rw first.width_is at c.if-column_count-gt-COLUMN_LIMIT.false in
    let none = rw (first.shape_is.row_count, first.shape_is.uneven, first.width_is) at (sym c.fault_of_shape.ensures
    ∙ c.in_default-fault_of_shape.is) in
    rw c.deref.ensures.value
    (shaped_file c.args.bytes.now (fields_of c.next.new.row) c.next.new.self c.in_ok-headings.headings.items
    c.shape_of-shape.result.row_count first.are few c.in_ok-headings.ensures.ok.1 c.in_ok-headings.ensures.ok.0
    first.shape_is.row_count none)
