-- The choice for an instance: an anchor's plan that one of the two checks lets through, or a plan of its own.
use Rattle.std.specs.Prelude.{ℕ, ◌+◌, ◌*◌, ◌^◌, nat_lt, nat_le, min, max, Bool, false, ◌&&◌, List, [], ◌∷◌, take}
use Rattle.std.specs.Prelude.{position, Option, Some, None, if◌then◌else◌}
use Rattle.std.specs.Option.{option_map_or}
use Rattle.fraction_math.specs.Fraction.{Fraction}
use Rattle.cost_polynomials.specs.Growth.{grown_to, grown_from, shrunk_to, shrunk_from}
use Rattle.row_values.specs.Statements.{Statement}
use Rattle.plan_trees.specs.Statistics.{Statistics}
use Rattle.cost_model.specs.Costs.{top_cost}
use Rattle.cache_model.specs.Caches.{Anchor, CachedPlan, CacheState, top_numbered}

-- The checks, as tests.

-- at most, where both sides are numbers below 2 ^ 128; else it doesn't hold
abbrev pub is_at_most : ℕ → ℕ → Bool
is_at_most left right = nat_lt left (2 ^ 128) && nat_lt right (2 ^ 128) && nat_le left right

-- the selectivity check: no plan is costed at the instance
abbrev pub passes_selectivity_check : Fraction → List ℕ → Anchor → Bool
passes_selectivity_check lambda instance anchor =
    is_at_most (anchor.plan_cost * grown_to instance anchor.at * shrunk_from instance anchor.at * lambda.den)
    (lambda.num * anchor.least * grown_from instance anchor.at * shrunk_to instance anchor.at)

-- the cost check, where the anchor's plan has this cost at the instance
abbrev pub is_cheap_enough : Fraction → List ℕ → Anchor → ℕ → Bool
is_cheap_enough lambda instance anchor cost =
    is_at_most (cost * shrunk_from instance anchor.at * lambda.den)
    (lambda.num * anchor.least * shrunk_to instance anchor.at)

-- the cost check of an anchor whose plan is one of these
abbrev pub passes_cost_check : Statement → Statistics → Fraction → List ℕ → List CachedPlan → Anchor → Bool
passes_cost_check q s lambda instance plans anchor =
    option_map_or (λ top. is_cheap_enough lambda instance anchor (top_cost q s instance top))
    (top_numbered plans anchor.plan) false

-- Candidates.

-- an anchor, and where it stands in the list
pub record Candidate : Type 0 where
  pub position : ℕ
  pub anchor : Anchor

-- the anchors, the first of them standing at this position
abbrev pub placed_from : ℕ → List Anchor → List Candidate
placed_from position [] = []
placed_from position (anchor ∷ anchors) =
    record { position = position; anchor = anchor } ∷ placed_from (position + 1) anchors

-- the greater of each two numbers, multiplied
abbrev pub greater_product : List ℕ → List ℕ → ℕ
greater_product [] ys = 1
greater_product (x ∷ xs) [] = 1
greater_product (x ∷ xs) (y ∷ ys) = max x y * greater_product xs ys

-- the lesser of each two numbers, multiplied
abbrev pub lesser_product : List ℕ → List ℕ → ℕ
lesser_product [] ys = 1
lesser_product (x ∷ xs) [] = 1
lesser_product (x ∷ xs) (y ∷ ys) = min x y * lesser_product xs ys

-- the ratio of the two products is less at the first anchor: its vector is nearer to the instance
abbrev pub is_nearer : List ℕ → Anchor → Anchor → Bool
is_nearer instance a b =
    nat_lt (greater_product instance a.at * lesser_product instance b.at)
    (greater_product instance b.at * lesser_product instance a.at)

-- put before the first that isn't nearer
abbrev pub put_in_order : List ℕ → Candidate → List Candidate → List Candidate
put_in_order instance new [] = new ∷ []
put_in_order instance new (candidate ∷ candidates) =
    if is_nearer instance candidate.anchor new.anchor then candidate ∷ put_in_order instance new candidates else new
    ∷ candidate ∷ candidates

-- the nearest first, and of those as near as one another the first in the list
abbrev pub by_nearness : List ℕ → List Candidate → List Candidate
by_nearness instance [] = []
by_nearness instance (candidate ∷ candidates) = put_in_order instance candidate (by_nearness instance candidates)

abbrev pub candidates_of : List ℕ → ℕ → List Anchor → List Candidate
candidates_of instance recosts anchors = take recosts (by_nearness instance (placed_from 0 anchors))

-- The choice.

-- the anchor at this position is used again, by the one or the other check, or the instance is optimised; `tried` is
-- how many candidates the cost check looked at
pub data Choice : Type 0 where
  BySelectivity : (position : ℕ) → Choice
  ByCost : (position tried : ℕ) → Choice
  ByOptimum : (tried : ℕ) → Choice

-- the first of the candidates that passes, where so many were tried before
abbrev pub choice_among : (Anchor → Bool) → ℕ → List Candidate → Choice
choice_among passes tried [] = ByOptimum tried
choice_among passes tried (candidate ∷ candidates) =
    if passes candidate.anchor
    then ByCost candidate.position (tried + 1)
    else choice_among passes (tried + 1) candidates

-- the first anchor in the list that passes the selectivity check; else the nearest that passes the cost check, of so
-- many as are costed; else none
abbrev pub choice_of : CacheState → Statement → Statistics → List ℕ → Fraction → ℕ → Choice
choice_of cache q s instance lambda recosts =
    option_map_or BySelectivity (position (passes_selectivity_check lambda instance) cache.anchors)
    (choice_among (passes_cost_check q s lambda instance cache.plans) 0 (candidates_of instance recosts cache.anchors))

-- where the anchor stands whose plan is used again
abbrev pub position_chosen : Choice → Option ℕ
position_chosen (BySelectivity position) = Some position
position_chosen (ByCost position tried) = Some position
position_chosen (ByOptimum tried) = None
