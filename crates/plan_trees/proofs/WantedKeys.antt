-- A valid plan in the wanted order has all wanted places.
use Rattle.std.proofs.Common.{ℕ, ◌≡◌, ◌+◌, ◌==◌, ◌&&◌, not, true, List, [], ◌∷◌, refl, sym, ◌∙◌, subst}
use Rattle.std.proofs.lemmas.Bool.{and_from, and_parts, eqb-true, or_left}
use Rattle.row_values.specs.Statements.{Statement}
use Rattle.row_values.specs.declared.statement.ColRef.{ColRef}
use Rattle.row_values.specs.declared.statement.OrderKey.{OrderKey}
use Rattle.plan_trees.specs.declared.plans.Access.{Access}
use Rattle.plan_trees.specs.declared.plans.Access.TheVariants.{Seq, Range, Full}
use Rattle.plan_trees.specs.PlaceSets.{has, one, are_apart}
use Rattle.plan_trees.specs.PlanSpace.{IsValidPlan, IsSortedPlan, column_of, has_all_keys, is_only_key}
use Rattle.plan_trees.specs.PlanSpace.{is_sorted_access, wanted_order}
use Rattle.plan_trees.specs.Trees.{Tree, Base, Join, HashJoin, Sort, place_of, place_entering, places_of}
use Rattle.plan_trees.proofs.Bits.{apart_from_one, has_one, has_union}
use Rattle.plan_trees.proofs.ValidPlans.{entering_new}

-- the place of the only key is that of the column
only_key_seen : (keys : List OrderKey) (at : ColRef) → is_only_key keys at ≡ true → has_all_keys (one at.place) keys
    ≡ true
only_key_seen [] at h = cc
only_key_seen (key ∷ []) at h =
    let parts = and_parts (key.at.place == at.place && key.at.column == at.column) (not key.descending) h in
    let place : key.at.place ≡ at.place =
    eqb-true key.at.place at.place (and_parts (key.at.place == at.place) (key.at.column == at.column) parts.0).0 in
    and_from (has (one at.place) key.at.place) true (subst (λ n. has (one at.place) n
    ≡ true) (sym place) (has_one at.place)) refl
only_key_seen (key ∷ other ∷ keys) at h = cc

access_seen : (q : Statement) (access : Access) → is_sorted_access q access ≡ true
    → has_all_keys (one (place_of access)) (wanted_order q) ≡ true
access_seen q (Seq place) h = cc
access_seen q (Range place column pred) h = only_key_seen (wanted_order q) (column_of place column) h
access_seen q (Full place column) h = only_key_seen (wanted_order q) (column_of place column) h

-- keys that were seen are seen with more places
seen_with : (left right : ℕ) (keys : List OrderKey) → are_apart left right ≡ true → has_all_keys left keys ≡ true
    → has_all_keys (left + right) keys ≡ true
seen_with left right [] apart h = refl
seen_with left right (key ∷ keys) apart h =
    let parts = and_parts (has left key.at.place) (has_all_keys left keys) h in
    and_from (has (left + right) key.at.place) (has_all_keys (left + right) keys)
    (has_union left right key.at.place apart ∙ or_left (has left key.at.place) (has right key.at.place) parts.0)
    (seen_with left right keys apart parts.1)

pub sorted_has_keys : (q : Statement) (indexed : List ℕ) (plan : Tree) → IsValidPlan q indexed plan
    → IsSortedPlan q plan → has_all_keys (places_of plan) (wanted_order q) ≡ true
sorted_has_keys q indexed (Base access) valid sorted = access_seen q access sorted
sorted_has_keys q indexed (Join outer step) valid sorted =
    seen_with (places_of outer) (one (place_entering step)) (wanted_order q)
    (apart_from_one (places_of outer) (place_entering step) (entering_new q indexed (places_of outer) step valid.1))
    (sorted_has_keys q indexed outer valid.0 sorted)
sorted_has_keys q indexed (HashJoin outer inner edge) valid sorted =
    seen_with (places_of outer) (places_of inner) (wanted_order q) valid.2.0
    (sorted_has_keys q indexed outer valid.0 sorted)
sorted_has_keys q indexed (Sort outer) valid sorted = valid.2
