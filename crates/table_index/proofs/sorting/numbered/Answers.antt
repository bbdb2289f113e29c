use Rattle.std.proofs.Common.{◌≡◌, add-one, get_or, pos, refl, rules, w64, ◌∙◌, ℤ, Some}
use Rattle.std.proofs.lemmas.Int.{to_z-of_z}
use Rattle.std.proofs.lemmas.List.{map_push}
use Rattle.std.proofs.lemmas.List.Elements.{All-push}
use Rattle.std.proofs.lemmas.Option.{slice_get-get_or}
use Rattle.std.specs.Prelude.{slice_get}
use mir.Val.{SFits}
use Rattle.table_index.proofs.sorting.numbered.Goals as goal

pub loop-row-preserved : goal.loop-row-preserved
loop-row-preserved c =
    let number : ℤ = get_or c.args.numbers.now c.loop-row.row (pos 0) in
    let fits : SFits w64 (get_or c.args.numbers.now c.loop-row.row (pos 0)) = search rules in
    rw (c.in_ok-push.ensures.items, to_z-of_z w64 (get_or c.args.numbers.now c.loop-row.row (pos 0)) fits) record {
      rows =
          map_push (λ pair. pair.1) c.loop-row.pairs.items (number, c.loop-row.row)
          ∙ rw (c.loop-row.invariant.rows, add-one) refl;
      numbers =
          All-push (λ pair. slice_get c.args.numbers.now pair.1 ≡ Some pair.0) c.loop-row.pairs.items
          (number, c.loop-row.row) c.loop-row.invariant.numbers
          (slice_get-get_or c.args.numbers.now c.loop-row.row (pos 0) c.loop-row-test.true);
    }
