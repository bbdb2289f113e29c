-- What is left between the two ends passes both tests.
use Rattle.std.proofs.Common.{◌-◌, length, take, drop, not, rules, ap, sym, ◌∙◌, arith}
use Rattle.std.specs.List.{filter}
use Rattle.std.proofs.lemmas.List.{length-drop, take_all}
use Rattle.std.proofs.lemmas.List.Sorted.{IsNonDecreasingBy-take, IsPartitionPoint-from_clause}
use Rattle.selectivity_check.proofs.Windows.{filter_both, high_last, is_high_enough, is_low_enough, kept_below}
use Rattle.selectivity_check.proofs.Windows.{kept_from, low_first}
use Rattle.selectivity_check.proofs.window.window.Goals as goal

pub returns : goal.returns
returns c =
    let entries = c.args.entries.now in
    let num = c.args.lambda.num in
    let den = c.args.lambda.den in
    let first = c.args.first in
    let end = c.partition_point-end.result in
    let start = c.partition_point-start.result in
    let low = kept_below (is_low_enough num den first) entries end
    (IsPartitionPoint-from_clause (is_low_enough num den first) entries end c.partition_point-end.ensures.partitioned
    (low_first num den first entries c.requires) (λ a r f k. (search rules, search rules))) in
    let high = kept_from (is_high_enough num den first) (take end entries) start
    (IsPartitionPoint-from_clause (λ entry. not (is_high_enough num den first entry)) (take end entries) start
    c.partition_point-start.ensures.partitioned
    (high_last num den first (take end entries) (IsNonDecreasingBy-take (λ entry. entry.first) end entries c.requires))
    (λ a r f k. (search rules, search rules))) in
    let long = length-drop start (take end entries) in
    take_all (length (take end entries) - start) (drop start (take end entries)) (omega arith) ∙ sym high
    ∙ ap (filter (is_high_enough num den first)) (sym low)
    ∙ filter_both (is_low_enough num den first) (is_high_enough num den first) entries
