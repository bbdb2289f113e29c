use Rattle.std.proofs.Common.{◌∙◌, sym, arith}
use Rattle.std.proofs.lemmas.List.{length-map, length-take}
use Rattle.csv.specs.Records.{fields_of}
use Rattle.csv_tables.specs.Headers.{heading_of}
use Rattle.csv_tables.proofs.Sound.{behind_header}
use Rattle.csv_tables.proofs.survey.survey_file.Goals as goal

pub survey_rows-requires-clause-few : goal.survey_rows-requires-clause-few
survey_rows-requires-clause-few c = let few = c.requires.shaped.few_rows in let counted = c.requires.shaped.counted in omega arith

pub survey_rows-requires-clause-columns : goal.survey_rows-requires-clause-columns
survey_rows-requires-clause-columns c =
    rw (c.requires.shaped.headings_are, length-map c.requires.shaped.header heading_of) c.requires.shaped.few_columns

pub returns-clause-survey : goal.returns-clause-survey
returns-clause-survey c =
    let shaped = c.requires.shaped in
    let rows = behind_header c.in_ok-next.field-0 shaped.header (fields_of c.next.new.row) shaped.rows c.next.new.self
    (sym shaped.reads ∙ (sym c.of-records.ensures ∙ c.in_ok-next.ensures)) in
    record {
      shaped = shaped;
      seen = c.min.result;
      some = omega arith;
      survey_is = rw rows at c.in_ok-survey.ensures;
    }

pub returns-clause-count : goal.returns-clause-count
returns-clause-count c =
    let shaped = c.requires.shaped in
    let rows = behind_header c.in_ok-next.field-0 shaped.header (fields_of c.next.new.row) shaped.rows c.next.new.self
    (sym shaped.reads ∙ (sym c.of-records.ensures ∙ c.in_ok-next.ensures)) in
    let is = rw rows at c.in_ok-survey.ensures in
    let long = length-take c.min.result shaped.rows in
    let count = is.row_count in
    let all = shaped.counted in
    omega arith
