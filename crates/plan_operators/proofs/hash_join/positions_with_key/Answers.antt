use Rattle.std.proofs.Common.{rules, sym, ap, ◌∙◌, map, length, arith}
use Rattle.std.proofs.lemmas.List.{length-map}
use Rattle.std.specs.Option.{option_map}
use Rattle.row_values.specs.Orders.{cell_order}
use Rattle.statement_meaning.proofs.EqualCells.{none_by_key}
use Rattle.table_index.proofs.Cuts.{cut_from_point}
use Rattle.plan_operators.specs.BuildSides.{is_below, is_up_to}
use Rattle.plan_operators.specs.Columns.{cell_seen, value_read}
use Rattle.plan_operators.proofs.KeyOrder.{below_first, keyed_run, sorted_keys, up_to_first}
use Rattle.plan_operators.proofs.KeyPoints.{below_up_to, point_from_run}
use Rattle.plan_operators.proofs.hash_join.positions_with_key.Goals as goal

pub returns-in-None : goal.returns-in-None
returns-in-None c = record {
  found = rw c.in-None.is (sym (none_by_key (cell_seen c.args.side.now.column) c.args.side.now.combos.items));
  ordered = search rules;
  inside = search rules;
}

pub returns-in-Some : goal.returns-in-Some
returns-in-Some c =
    let keys = ap (map (option_map value_read)) c.as_slice-keys.ensures.value ∙ c.requires.keys in
    let sorted = sorted_keys (option_map value_read) (cell_seen c.args.side.now.column) c.as_slice-keys.result.now
    c.args.side.now.combos.items keys c.requires.in_order in
    let first = c.first_from-first.ensures.first
    (below_first (option_map value_read) c.as_slice-keys.result.now sorted (option_map value_read c.args.key)) in
    let end = point_from_run (is_below c.args.key) (is_up_to c.args.key)
    (λ one h. below_up_to (cell_order (option_map value_read one) (option_map value_read c.args.key)) h)
    c.as_slice-keys.result.now c.first_from-first.result c.end_from-end.result first c.end_from-end.ensures.run
    c.end_from-end.ensures.stop
    (up_to_first (option_map value_read) c.as_slice-keys.result.now sorted (option_map value_read c.args.key)) in
    record {
      found =
          keyed_run (option_map value_read) (cell_seen c.args.side.now.column) c.as_slice-keys.result.now
          c.args.side.now.combos.items keys (option_map value_read c.args.key) (value_read c.in-Some.field-0)
          (ap (option_map value_read) c.in-Some.is) c.first_from-first.result c.end_from-end.result c.max.result
          (cut_from_point (is_below c.args.key) c.as_slice-keys.result.now c.first_from-first.result
          c.first_from-first.ensures.bound first)
          (cut_from_point (is_up_to c.args.key) c.as_slice-keys.result.now c.end_from-end.result
          c.end_from-end.ensures.bound end)
          c.max.ensures;
      ordered = omega (arith, c.max.ensures);
      inside =
          let long = sym (length-map c.as_slice-keys.result.now (option_map value_read))
          ∙ (ap length keys ∙ length-map c.args.side.now.combos.items (cell_seen c.args.side.now.column)) in
          omega (arith, c.max.ensures, c.first_from-first.ensures.bound, c.end_from-end.ensures.bound, long);
    }
