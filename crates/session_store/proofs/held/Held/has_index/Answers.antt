use Rattle.std.proofs.Common.{◌≡◌, ◌∙◌, ◌<◌, List, Option, false, length, slice_index_or, ap, arith, subst}
use Rattle.table_index.specs.Indexes.{IndexValue}
use Rattle.table_index.specs.StatementIndexes.{indexes_in}
use Rattle.session_store.specs.Kept.{HeldTable, IsIndexed, flags_of}
use Rattle.session_store.proofs.HeldIndexes.{flag_shared, many_shared}
use Rattle.session_store.proofs.held.Held.has_index.Goals as goal

pub returns : goal.returns
returns c =
    let old : indexes_in c.as_slice.result.now ≡ c.args.self.now.indexes =
    rw c.as_slice.ensures.value (rw c.deref.ensures (ap (λ (h : HeldTable). h.indexes) c.self.view_is)) in
    let sound : IsIndexed c.args.self.now = subst IsIndexed c.self.view_is c.self.invariant.indexed in
    let many = many_shared c.as_slice.result.now in
    let same = ap (λ (es : List (Option IndexValue)). length es) old in
    let width = sound.one_each in
    let less : c.args.column < length c.as_slice.result.now = omega (arith, c.requires) in
    c.is_some.ensures
    ∙ (flag_shared c.as_slice.result.now c.args.column c.index-as_slice-from.result
    (rw (← c.from.ensures) c.index-as_slice-from.is) less
    ∙ ap (λ (es : List (Option IndexValue)). slice_index_or (flags_of es) c.args.column false) old)
