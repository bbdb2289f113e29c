use Rattle.std.proofs.Common.{◌≡◌, replicate, true}
use Rattle.csv_tables.proofs.survey.Survey.new.Given as goal

abbrev pub invariant-loop : goal.invariant-loop
invariant-loop l = l.numbers.items ≡ replicate l.counter true
