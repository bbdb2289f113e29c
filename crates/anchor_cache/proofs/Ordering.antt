-- The entries by first selectivity, as anchors come.
use Rattle.std.proofs.Common.{ℕ, ◌≡◌, ◌≤◌, true, false, leb, List, [], ◌∷◌, ◌++◌, length, map, sym, ◌∙◌, subst, arith}
use Rattle.std.specs.List.{insert}
use Rattle.std.specs.List.Sorted.{IsPartitionPoint, IsPermutation}
use Rattle.std.proofs.lemmas.Bool.{leb-false, leb-true}
use Rattle.std.proofs.lemmas.List.{length-map, map-append}
use Rattle.std.proofs.lemmas.List.Sorted.{IsNonDecreasingBy-insert, IsPermutation-cons, IsPermutation-insert, IsPermutation-to_front, IsPermutation-trans, length_permutation}
use Rattle.cache_model.specs.Caches.{Anchor}
use Rattle.anchor_cache.specs.declared.window.WindowEntry.{WindowEntry}
use Rattle.anchor_cache.specs.Window.{IsOrdered, entry_of}

abbrev pub first_of_entry : WindowEntry → ℕ
first_of_entry entry = entry.first

pub as_many : (anchors : List Anchor) (entries : List WindowEntry) → IsOrdered anchors entries
    → length entries ≡ length anchors
as_many anchors entries h = length_permutation (map entry_of anchors) entries h.each ∙ length-map anchors entry_of

pub ordered_insert : (anchors : List Anchor) (entries : List WindowEntry) (new : Anchor) (place : ℕ)
    → IsOrdered anchors entries → place ≤ length entries
    → IsPartitionPoint (λ entry. leb entry.first (entry_of new).first ≡ true)
    (λ entry. leb entry.first (entry_of new).first ≡ false) entries place
    → IsOrdered (anchors ++ new ∷ []) (insert entries place (entry_of new))
ordered_insert anchors entries new place h inside cut = record {
  each =
      subst (λ xs. IsPermutation xs (insert entries place (entry_of new)))
      (sym (map-append entry_of anchors (new ∷ [])))
      (IsPermutation-trans (map entry_of anchors ++ entry_of new ∷ []) (entry_of new ∷ map entry_of anchors)
      (insert entries place (entry_of new))
      (IsPermutation-to_front (map entry_of anchors) (entry_of new))
      (IsPermutation-trans (entry_of new ∷ map entry_of anchors) (entry_of new ∷ entries)
      (insert entries place (entry_of new))
      (IsPermutation-cons (entry_of new) (map entry_of anchors) entries h.each)
      (IsPermutation-insert entries place (entry_of new))));
  rising =
      IsNonDecreasingBy-insert (λ entry. entry.first) entries place (entry_of new) h.rising inside
      (λ k d less. leb-true _ _ (cut.0 k d (omega arith) less))
      (λ k d from less. let more = leb-false _ _ (cut.1 k d from less) in omega arith);
}
