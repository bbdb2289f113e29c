-- What valid parts name is there: places, predicates and edges.
use Rattle.std.proofs.Common.{ℕ, ◌≡◌, ◌<◌, List, length, Option, Some, None, IsSome, IsSomeAnd, slice_get}
use Rattle.std.proofs.Common.{option_and_then, refl}
use Rattle.std.specs.Option.{option_map}
use Rattle.std.proofs.lemmas.Option.{slice_get_within}
use Rattle.row_values.specs.declared.values.Kind.{Kind}
use Rattle.row_values.specs.Statements.{Statement, IsColumn}
use Rattle.row_values.specs.declared.statement.Place.{Place}
use Rattle.row_values.specs.declared.statement.ColRef.{ColRef}
use Rattle.row_values.specs.declared.statement.Edge.{Edge}
use Rattle.row_values.specs.declared.statement.Pred.{Pred}
use Rattle.plan_trees.specs.declared.plans.Access.{Access}
use Rattle.plan_trees.specs.declared.plans.Access.TheVariants.{Seq, Range, Full}
use Rattle.plan_trees.specs.declared.plans.StepKind.{StepKind}
use Rattle.plan_trees.specs.declared.plans.StepKind.TheVariants.{Loop, Probe}
use Rattle.plan_trees.specs.PlanSpace.{IsValidAccess, IsValidStep, column_of}
use Rattle.plan_trees.specs.Trees.{place_of, place_entering}

abbrev kind_in : ColRef → Option Place → Option Kind
kind_in at place = option_and_then (λ place. option_map (λ column. column.kind) (slice_get place.schema at.column))
    place

within : (places : List Place) (at : ColRef) (place : Option Place) → slice_get places at.place ≡ place
    → IsSome (kind_in at place) → at.place < length places
within places at (Some place) found there = slice_get_within places at.place place found
within places at None found there = cc

-- the place of a column that is there
pub column_in_range : (places : List Place) (at : ColRef) → IsColumn places at → at.place < length places
column_in_range places at there = within places at (slice_get places at.place) refl there

-- the place that a valid access reads
pub access_in_range : (q : Statement) (indexed : List ℕ) (access : Access) → IsValidAccess q indexed access
    → place_of access < length q.places
access_in_range q indexed (Seq place) valid = valid
access_in_range q indexed (Range place column pred) valid = column_in_range q.places (column_of place column) valid.0
access_in_range q indexed (Full place column) valid = column_in_range q.places (column_of place column) valid.0

-- the place that a valid step takes in
pub step_in_range : (q : Statement) (indexed : List ℕ) (set : ℕ) (step : StepKind) → IsValidStep q indexed set step
    → place_entering step < length q.places
step_in_range q indexed set (Loop access) valid = access_in_range q indexed access valid.0
step_in_range q indexed set (Probe place edge) valid = valid.0

pred_there_by : (preds : List Pred) (j : ℕ) (at : ColRef) (o : Option Pred) → slice_get preds j ≡ o
    → option_map (λ p. p.at) o ≡ Some at → j < length preds
pred_there_by preds j at None e on = cc
pred_there_by preds j at (Some pred) e on = slice_get_within preds j pred e

-- a predicate that is on a column
pub pred_there : (preds : List Pred) (j : ℕ) (at : ColRef) → option_map (λ p. p.at) (slice_get preds j) ≡ Some at
    → j < length preds
pred_there preds j at on = pred_there_by preds j at (slice_get preds j) refl on

edge_there_by : (P : Edge → Type 0) (edges : List Edge) (j : ℕ) (o : Option Edge) → slice_get edges j ≡ o
    → IsSomeAnd o P → j < length edges
edge_there_by P edges j None e on = absurd on
edge_there_by P edges j (Some edge) e on = slice_get_within edges j edge e

-- an edge of which something holds
pub edge_there : (P : Edge → Type 0) (edges : List Edge) (j : ℕ) → IsSomeAnd (slice_get edges j) P → j < length edges
edge_there P edges j on = edge_there_by P edges j (slice_get edges j) refl on
