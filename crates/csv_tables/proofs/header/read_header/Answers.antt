use Rattle.std.proofs.Common.{◌≡◌, ◌<◌, ◌+◌, ◌∙◌, [], ap, arith, get_or, length, map, rules, sym, true, false}
use Rattle.std.specs.Result.{is_ok}
use Rattle.std.specs.Str.{IsUtf8}
use Rattle.csv.specs.Records.{fields_of}
use Rattle.csv_tables.specs.Headers.{is_bad_name, kind_tag_of, name_of}
use Rattle.csv_tables.specs.declared.header.Heading.{Heading}
use Rattle.csv_tables.proofs.Names.{good_name, heading_more, name_more, no_text_is_bad, passed, refused}
use Rattle.csv_tables.proofs.header.read_header.Goals as goal

pub returns-in_default-clause-fault : goal.returns-in_default-clause-fault
returns-in_default-clause-fault c _ =
    let within : c.loop-column.column < length (fields_of c.args.row.now) = omega arith in
    refused (c.loop-column.column + 1) c.loop-column.column
    (map (λ (heading : Heading). heading.name) c.loop-column.headings.items)
    (fields_of c.args.row.now) c.parts-kind_tag.result.0.now _ within
    (c.parts-kind_tag.ensures.name ∙ ap name_of c.field.ensures) (no_text_is_bad _ _ c.in_default.ensures.cases.0)
    c.loop-column.invariant.names

pub loop-column-preserved : goal.loop-column-preserved
loop-column-preserved c =
    let within : c.loop-column.column < length (fields_of c.args.row.now) = omega arith in
    let good : is_ok c.push.result ≡ true = search rules in
    let items = rw good at c.push.ensures.items in
    let heading : Heading = record { name = c.in_ok-of.field-0; kind_tag = c.parts-kind_tag.result.1 } in
    let same = c.in-Ok.ensures.cases in
    let name : c.in_ok-of.field-0 ≡ name_of (get_or (fields_of c.args.row.now) c.loop-column.column []) =
    c.in_ok-of.ensures ∙ same.0 ∙ c.parts-kind_tag.ensures.name ∙ ap name_of c.field.ensures in
    let tag : c.parts-kind_tag.result.1 ≡ kind_tag_of (get_or (fields_of c.args.row.now) c.loop-column.column []) =
    c.parts-kind_tag.ensures.kind_tag ∙ ap kind_tag_of c.field.ensures in
    let earlier = map (λ (this : Heading). this.name) c.loop-column.headings.items in
    let full = sym c.is_empty.ensures ∙ c.if-is_empty.false in
    let new = sym c.is_named.ensures ∙ c.if-is_named.false in
    let text : IsUtf8 c.in-Ok.name.now = rw same.0 same.1 in
    let good : is_bad_name earlier c.in_ok-of.field-0 ≡ false =
    rw c.in_ok-of.ensures (good_name earlier c.in-Ok.name.now full text (rw c.deref.ensures.value at new)) in
    record {
      read =
          heading_more c.loop-column.column (fields_of c.args.row.now) _ _ heading within items
          c.loop-column.invariant.read name tag;
      names = rw (name_more c.loop-column.headings.items c.push.new.self.items heading items)
          (passed (c.loop-column.column + 1) c.loop-column.column earlier (fields_of c.args.row.now) c.in_ok-of.field-0
          _ within name good c.loop-column.invariant.names);
    }
