use Rattle.std.proofs.Common.{◌≡◌}
use Rattle.std.proofs.lemmas.List.Sorted.{All-permutation, IsPermutation-map}
use Rattle.std.specs.Prelude.{Some, slice_get}
use Rattle.table_index.proofs.Orders.{pairs_ordered}
use Rattle.table_index.proofs.sorting.sorted_by_number.Goals as goal

pub returns-clause-each_once : goal.returns-clause-each_once
returns-clause-each_once c =
    rw (c.in_ok-rows.ensures, c.as_slice.ensures.value, ← c.in_ok-pairs.ensures.rows)
    (IsPermutation-map (λ pair. pair.1) c.in_ok-pairs.pairs.items c.sort_unstable.new.self.items
    c.sort_unstable.ensures.permutation)

pub returns-clause-in_order : goal.returns-clause-in_order
returns-clause-in_order c =
    let all = All-permutation (λ pair. slice_get c.args.numbers.now pair.1
    ≡ Some pair.0) c.in_ok-pairs.pairs.items c.sort_unstable.new.self.items c.sort_unstable.ensures.permutation
    c.in_ok-pairs.ensures.numbers in
    rw (c.in_ok-rows.ensures, c.as_slice.ensures.value)
    (pairs_ordered c.args.numbers.now c.sort_unstable.new.self.items all c.sort_unstable.ensures.sorted)
