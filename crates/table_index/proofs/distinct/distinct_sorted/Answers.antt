use Rattle.std.proofs.Common.{◌≡◌, ◌+◌, pos, take}
use Rattle.std.specs.Ordering.{int_cmp, is_eq}
use Rattle.table_index.specs.Distinct.{distinct_count}
use Rattle.table_index.proofs.Changes.{byte-is, count_few, count_more}
use Rattle.table_index.proofs.distinct.distinct_sorted.Goals as goal

pub loop-position-preserved : goal.loop-position-preserved
loop-position-preserved c =
    let more = count_more (λ a b. is_eq (int_cmp a b)) c.args.numbers.now c.loop-position.position
    (pos 0) c.loop-position-test.true in
    let few = count_few (λ a b. is_eq (int_cmp a b)) c.args.numbers.now (c.loop-position.position + 1) in
    let counted : c.loop-position.count + c.from-count.result
    ≡ distinct_count (λ a b. is_eq (int_cmp a b)) (take (c.loop-position.position + 1) c.args.numbers.now) =
    rw (c.from-count.ensures, c.is_new_number.ensures, c.loop-position.invariant.counted, byte-is) more in
    record { counted = counted; few = rw counted few }
