-- The first place that passes, of those that were looked at.
use Rattle.std.specs.Prelude.{ℕ, ◌≡◌, ◌≤◌, ◌<◌, ◌==◌, Bool, true, List, length, All, Option, Some, None, IfSome}
use Rattle.std.specs.Prelude.{position}
use Rattle.std.specs.List.{HoldsAt}
use Rattle.cache_model.specs.Caches.{Anchor}
use Rattle.anchor_cache.specs.declared.window.WindowEntry.{WindowEntry}

-- where the anchor of this execution stands
abbrev pub place_in : List Anchor → ℕ → Option ℕ
place_in anchors execution = position (λ anchor. anchor.execution == execution) anchors

-- the anchor at this place passes
abbrev pub PassesAt : (Anchor → Bool) → List Anchor → ℕ → Type 0
PassesAt test anchors place = (place < length anchors) × HoldsAt (λ anchor. test anchor ≡ true) anchors place

-- there is one, and it is no later than this place
abbrev pub IsNoLater : Option ℕ → ℕ → Type 0
IsNoLater None place = ⊥
IsNoLater (Some first) place = first ≤ place

-- what was found passes, and no anchor of these entries that passes stands before it
pub record IsFirstOf (test : Anchor → Bool) (anchors : List Anchor) (entries : List WindowEntry)
    (found : Option ℕ) : Type 0 where
  pub passes : IfSome found (PassesAt test anchors)
  pub first : All (λ entry. (place : ℕ) → place_in anchors entry.execution ≡ Some place → PassesAt test anchors place
      → IsNoLater found place) entries
