use Rattle.std.proofs.Common.{◌≡◌, Some, length, arith}
use Rattle.std.proofs.lemmas.List.{map_push}
use Rattle.std.specs.List.{slice_get}
use Rattle.row_values.specs.declared.values.Kind.TheVariants as kind
use Rattle.csv_tables.specs.Tables.{column_kinds}
use Rattle.csv_tables.proofs.PackedColumns.{all_packed, kind_at, packed_more}
use Rattle.csv_tables.proofs.packed.pack.Goals as goal
use Rattle.csv_tables.proofs.packed.pack.Goals.{in-Int+in_ok-pack_column-in-Int+in_ok-push-in-Int}
use Rattle.csv_tables.proofs.packed.pack.Goals.{in-Text+in_ok-push-in-Text}

pub loop-column-preserved : goal.loop-column-preserved
loop-column-preserved c = elim c.match-this.branch [
  | in-Int+in_ok-pack_column-in-Int+in_ok-push-in-Int w ↦
      rw (
        w.packed-is,
        w.in_ok-push-in-Int.ensures.items,
        map_push (λ numbers. numbers.items) c.loop-column.packed.items
            w.in_ok-pack_column-in-Int.field-0,
      )
      (packed_more _ _ _ _ c.loop-column.invariant (λ _. w.in_ok-pack_column-in-Int.ensures))
  | in-Text+in_ok-push-in-Text w ↦
      rw (
        w.packed-is,
        w.in_ok-push-in-Text.ensures.items,
        map_push (λ numbers. numbers.items) c.loop-column.packed.items
            w.new.result,
      )
      (packed_more _ _ _ _ c.loop-column.invariant (λ is. absurd (is_text c w.in-Text.is is)))
]
  where
    is_text : (c : goal.Joined-this) → c.this-item.result.kind ≡ kind.Text
        → slice_get (column_kinds c.args.schema.now) c.loop-column.column ≡ Some kind.Int → ⊥
    is_text c text number =
        let width = c.columns-this-items.ensures.value in
        let item = rw width at c.this-item.is in
        let at = kind_at c.args.schema.now c.loop-column.column c.this-item.result (rw width at c.loop-column-test.true)
        item in
        cc

pub returns : goal.returns
returns c =
    let width = c.columns-this-items.ensures.value in
    let end = rw width at c.loop-column-test.false in
    let before = rw width at c.loop-column.auto.column-end in
    let all : c.loop-column.column ≡ length c.args.schema.now = omega arith in
    all_packed _ _ _ all c.loop-column.invariant
