-- The anchors in the order of their first selectivities.
use Rattle.std.specs.Prelude.{List, map, slice_index}
use Rattle.std.specs.List.Sorted.{IsNonDecreasingBy, IsPermutation}
use Rattle.cache_model.specs.Caches.{Anchor}
use Rattle.anchor_cache.specs.declared.window.WindowEntry.{WindowEntry}

abbrev pub entry_of : Anchor → WindowEntry
entry_of anchor = record { first = slice_index anchor.at 0; execution = anchor.execution }

-- an entry for each anchor, the first selectivities rising
pub record IsOrdered (anchors : List Anchor) (entries : List WindowEntry) : Type 0 where
  pub each : IsPermutation (map entry_of anchors) entries
  pub rising : IsNonDecreasingBy (λ entry. entry.first) entries
