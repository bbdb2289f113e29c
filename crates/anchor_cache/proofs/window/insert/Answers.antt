-- The place is between the entries that are no greater and those that are greater.
use Rattle.std.proofs.Common.{◌≡◌, ◌≤◌, leb, rules, sym, subst, true, false, length}
use Rattle.std.specs.List.{insert}
use Rattle.std.specs.List.Sorted.{IsNonDecreasingBy, IsPartitionPoint}
use Rattle.std.proofs.lemmas.List.Sorted.{IsPartitionPoint-from_clause, IsPartitionedBy-leb}
use Rattle.anchor_cache.specs.declared.window.WindowEntry.{WindowEntry}
use Rattle.anchor_cache.specs.Anchors.{held}
use Rattle.anchor_cache.proofs.Ordering.{ordered_insert}
use Rattle.anchor_cache.proofs.window.insert.Goals as goal

pub returns-clause-ordered : goal.returns-clause-ordered
returns-clause-ordered c = λ anchors h.
    let entries = c.args.ordered.now.items in
    let place = c.partition_point-place.result in
    let same : c.deref.result.now ≡ entries = c.deref.ensures.value in
    let rising : IsNonDecreasingBy (λ (entry : WindowEntry). entry.first) c.deref.result.now =
    subst (IsNonDecreasingBy (λ (entry : WindowEntry). entry.first)) (sym same) h.rising in
    let cut =
    IsPartitionPoint-from_clause
    (λ entry. leb entry.first c.entry-new.result.first) c.deref.result.now place
    c.partition_point-place.ensures.partitioned
    (IsPartitionedBy-leb (λ entry. entry.first) c.deref.result.now c.entry-new.result.first rising)
    (λ a r f k. (search rules, search rules)) in
    let inside : place ≤ length entries = subst (λ xs. place ≤ length xs) same c.partition_point-place.ensures.bound in
    let put : c.insert.new.self.items ≡ insert entries place c.entry-new.result = search rules in
    let placed =
    subst (λ entry. IsPartitionPoint (λ x. leb x.first entry.first ≡ true)
    (λ x. leb x.first entry.first ≡ false) entries place) c.entry-new.ensures
    (subst (λ xs. IsPartitionPoint (λ x. leb x.first c.entry-new.result.first ≡ true)
    (λ x. leb x.first c.entry-new.result.first ≡ false) xs place) same cut) in
    rw (put, c.entry-new.ensures) (ordered_insert anchors entries (held c.args.anchor.now) place h inside placed)
