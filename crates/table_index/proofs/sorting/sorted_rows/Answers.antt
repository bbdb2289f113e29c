use Rattle.table_index.proofs.Orders.{ordered_by_numbers}
use Rattle.table_index.proofs.sorting.sorted_rows.Goals as goal
use Rattle.table_index.proofs.sorting.sorted_rows.Goals.{in-Some+in_ok-rows-in-Some, in-None+in_ok-rows-in-None}

pub returns : goal.returns
returns c = elim c.match-numbers.branch [
  | in-Some+in_ok-rows-in-Some w ↦ rw w.rows-is record {
    each_once = rw (← w.in-Some.ensures.value.count) w.in_ok-rows-in-Some.ensures.each_once;
    in_order =
        ordered_by_numbers c.args.t.now c.args.column w.in-Some.numbers.now w.in_ok-rows-in-Some.rows.items
        w.in-Some.ensures.value w.in_ok-rows-in-Some.ensures.in_order;
  }
  | in-None+in_ok-rows-in-None w ↦ rw w.rows-is w.in_ok-rows-in-None.ensures
]
