use Rattle.std.specs.Option.{option_map}
use Rattle.index_ranges.specs.Values.{above_count}
use Rattle.index_ranges.proofs.TakenRows.{AreTaken}
use Rattle.index_ranges.proofs.test_ranges.ranges_of_values.Given as goal

abbrev pub invariant-loop-value : goal.invariant-loop-value
invariant-loop-value l =
    AreTaken l.args (option_map (λ value. value.now) l.last) l.operands l.t l.index.column l.index.rows l.ranges

abbrev pub decreases-loop-value : goal.decreases-loop-value
decreases-loop-value l = above_count l.args (option_map (λ value. value.now) l.last) l.operands
