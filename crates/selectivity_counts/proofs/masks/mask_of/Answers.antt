use Rattle.std.proofs.Common.{ℕ, ◌≡◌, ◌<◌, ◌+◌, ◌^◌, arith, ap, sym, ◌∙◌}
use Rattle.selectivity_counts.proofs.EntryMasks.{bit_is, bit_kept, bit_room, mask_counted, mask_passed}
use Rattle.table_index.specs.StatementIndexes.{mask_of}
use Rattle.selectivity_counts.proofs.masks.mask_of.Goals as goal
use Rattle.selectivity_counts.proofs.masks.mask_of.Goals.{then-is_some, else-is_some}

pub loop-column-preserved : goal.loop-column-preserved
loop-column-preserved c =
    elim c.if-is_some.branch [
      | then-is_some w ↦
          let few : c.loop-column.column < 64 = omega (arith, c.requires, c.loop-column-test.true) in
          let more : c.if-is_some.mask ≡ c.loop-column.mask + 2 ^ c.loop-column.column =
          w.mask-is ∙ ap (λ (n : ℕ). c.loop-column.mask + n) (bit_is c.loop-column.column few) in
          record {
            small = rw more (bit_room c.loop-column.column c.loop-column.mask c.loop-column.invariant.small);
            value =
                rw more
                (mask_counted c.args.entries.now c.loop-column.column c.loop-column.mask (mask_of c.args.entries.now)
                c.index-entries-column.result c.loop-column-test.true c.index-entries-column.is
                (sym c.is_some.ensures ∙ w.if-is_some.true) c.loop-column.invariant.value);
          }
      | else-is_some w ↦ record {
        small = rw w.mask-is (bit_kept c.loop-column.column c.loop-column.mask c.loop-column.invariant.small);
        value =
            rw w.mask-is
            (mask_passed c.args.entries.now c.loop-column.column c.loop-column.mask (mask_of c.args.entries.now)
            c.index-entries-column.result c.loop-column-test.true c.index-entries-column.is
            (sym c.is_some.ensures ∙ w.if-is_some.false) c.loop-column.invariant.value);
      }
    ]
