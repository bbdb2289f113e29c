use Rattle.std.proofs.Common.{◌≡◌, length, map, rules, subst, ◌∙◌, ap, arith}
use Rattle.std.specs.List.Sorted.{IsPermutation}
use Rattle.std.proofs.lemmas.List.{take_all}
use Rattle.std.proofs.lemmas.List.Sorted.{IsNonDecreasingBy-from_sort_by_key}
use Rattle.anchor_cache.specs.Anchors.{held}
use Rattle.anchor_cache.specs.Window.{entry_of}
use Rattle.anchor_cache.proofs.Views.{entries_held}
use Rattle.anchor_cache.proofs.window.put_in_order.Goals as goal

pub returns-clause-ordered : goal.returns-clause-ordered
returns-clause-ordered c =
    let whole : c.loop-anchor.anchor-index ≡ length c.args.anchors.now = omega arith in
    let entries : c.loop-anchor.ordered.items ≡ map entry_of (map held c.args.anchors.now) =
    c.loop-anchor.invariant.entries ∙ ap (map (λ anchor. entry_of (held anchor)))
    (take_all c.loop-anchor.anchor-index c.args.anchors.now (omega arith)) ∙ entries_held c.args.anchors.now in
    record {
      each =
          subst (λ xs. IsPermutation xs c.sort_unstable_by_key.new.self.items) entries
          c.sort_unstable_by_key.ensures.permutation;
      rising =
          IsNonDecreasingBy-from_sort_by_key
          (λ entry. entry.first) c.sort_unstable_by_key.new.self.items c.sort_unstable_by_key.ensures.sorted
          (λ a r q k. search rules);
    }
