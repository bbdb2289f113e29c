use Rattle.index_ranges.proofs.TakenRows.{not_one_of}
use Rattle.index_ranges.proofs.test_ranges.count_in.Goals as goal

pub count_between-requires-clause-no_in : goal.count_between-requires-clause-no_in
count_between-requires-clause-no_in c = not_one_of c.args.test.now c.in_default.not-OneOf
