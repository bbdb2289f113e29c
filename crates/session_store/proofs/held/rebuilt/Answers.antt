use Rattle.std.proofs.Common.{◌∙◌, ◌<◌, ◌∷◌, [], List, Option, length, length-append, ap, arith}
use Rattle.std.specs.declared.alloc.Global.{Global}
use Rattle.std.specs.declared.rc.Rc.{Rc}
use Rattle.table_index.specs.Indexes.{IndexValue}
use Rattle.session_store.proofs.HeldIndexes.{built_behind, flags_more}
use Rattle.session_store.proofs.held.rebuilt.Goals as goal

pub loop-column-preserved : goal.loop-column-preserved
loop-column-preserved c =
    let more = ap (λ (es : List (Option (Rc IndexValue Global))). length es) c.in_ok-push.ensures.items
    ∙ length-append c.loop-column.indexes.items (c.in_ok-index_if.field-0 ∷ []) in
    let count = c.loop-column.invariant.count in
    let width = ap length (c.columns-column-end.ensures.value ∙ c.schema.ensures.value) in
    let less : c.loop-column.column < length c.args.before.now =
    omega (arith, c.requires, width, c.loop-column-test.true) in
    record {
      count = omega (arith, more, count);
      flags = flags_more c.loop-column.indexes.items c.push.new.self.items c.in_ok-index_if.field-0
          c.index-before-column.result c.args.before.now c.loop-column.column c.in_ok-push.ensures.items
          (c.in_ok-index_if.ensures.flag ∙ c.is_some-wanted.ensures) c.index-before-column.is less
          c.loop-column.invariant.flags;
      built = built_behind c.args.table.now c.loop-column.indexes.items c.push.new.self.items c.in_ok-index_if.field-0
          c.loop-column.column c.in_ok-push.ensures.items count c.loop-column.invariant.built
          c.in_ok-index_if.ensures.built;
    }
