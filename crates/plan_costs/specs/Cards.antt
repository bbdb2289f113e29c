-- Lists of cardinalities.
use Rattle.std.specs.Prelude.{ℕ, ◌≡◌, ◌<◌, ◌^◌, List, length, slice_index}
use Rattle.row_values.specs.Statements.{Statement}
use Rattle.plan_trees.specs.Statistics.{Statistics}
use Rattle.cost_model.specs.Cardinalities.{card_of}

-- the cardinality of each of the sets below this number, at the position of its number
pub record AreCardsBelow (q : Statement) (s : Statistics) (vector : List ℕ) (count : ℕ) (cards : List ℕ) : Type 0 where
  pub one_each : length cards ≡ count
  pub value : (set : ℕ) → set < count → slice_index cards set ≡ card_of q s vector set

-- the cardinality of each set of places
abbrev pub AreCards : Statement → Statistics → List ℕ → List ℕ → Type 0
AreCards q s vector cards = AreCardsBelow q s vector (2 ^ length q.places) cards
