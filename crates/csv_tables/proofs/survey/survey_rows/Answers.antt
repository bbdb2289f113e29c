use Rattle.std.proofs.Common.{◌≡◌, ◌∙◌, ◌+◌, ◌-◌, suc, ap, take, arith}
use Rattle.csv.specs.Records.{fields_of}
use Rattle.csv_tables.proofs.Surveyed.{step}
use Rattle.csv_tables.proofs.survey.survey_rows.Goals as goal

pub loop-preserved : goal.loop-preserved
loop-preserved c =
    let was = rw c.if-not-branch.false at c.in_ok-next.ensures in
    let more : c.args.row_count - c.loop.counter ≡ suc (c.args.row_count - (c.loop.counter + 1)) = omega arith in
    record {
      count = c.note.ensures.row_count ∙ ap (λ n. n + 1) c.loop.invariant.count;
      rest =
          step c.args.headings.now (take c.args.row_count c.args.records.now)
          (take (c.args.row_count - (c.loop.counter + 1)) c.next.new.self) (fields_of c.next.new.row) c.loop.survey
          c.note.new.self
          (rw (was, more) at c.loop.invariant.rest) c.note.ensures;
    }
