use Rattle.std.proofs.Common.{◌≡◌, ◌-◌, take}
use Rattle.csv_tables.proofs.Surveyed.{SurveysRest}
use Rattle.csv_tables.proofs.survey.survey_rows.Given as goal

-- the rows that are left decide
abbrev pub invariant-loop : goal.invariant-loop
invariant-loop l = record {
  count : l.survey.row_count ≡ l.counter;
  rest : SurveysRest l.headings (take l.row_count l.fn.records) (take (l.row_count - l.counter) l.records) l.survey;
}
