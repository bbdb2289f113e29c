-- The kept combinations of a statement of one place are the rows that pass.
use Rattle.std.proofs.Common.{ℕ, ◌≡◌, ◌<◌, ◌&&◌, suc, zero, Bool, true, false, List, [], ◌∷◌, length, map, cond, ap}
use Rattle.std.proofs.Common.{sym, ◌∙◌, refl, arith, subst}
use Rattle.std.specs.Prelude.{All, filter, flat_map, IsSome, Option}
use Rattle.std.proofs.lemmas.Bool.{false≢true}
use Rattle.std.proofs.lemmas.List.Elements.{All-head, All-weaker}
use Rattle.row_values.proofs.Fitting.{test_there}
use Rattle.row_values.specs.Statements.{Statement, IsSoundQuery, IsEdge, IsColumn, IsPred, kind_at}
use Rattle.row_values.specs.declared.values.Kind.{Kind}
use Rattle.row_values.specs.declared.values.Value.{Value}
use Rattle.row_values.specs.declared.statement.Pred.{Pred}
use Rattle.row_values.specs.declared.statement.Edge.{Edge}
use Rattle.row_values.specs.declared.statement.Place.{Place}
use Rattle.row_values.specs.RowNumbers.{row_numbers}
use Rattle.statement_meaning.specs.Combinations.{World, combinations, sizes_from, keeps, kept, edges_hold}
use Rattle.statement_meaning.specs.Combinations.{kept_combinations, world_of, row_at, rows_at}
use Rattle.statement_meaning.specs.Conditions.{row_passes}

-- a column of the one place
pub only_place : (place : Place) (at number : ℕ) → IsColumn (place ∷ []) (record { place = at; column = number })
    → at ≡ 0
only_place place zero number h = refl
only_place place (suc at) number h = absurd (false≢true h)

-- a predicate of a sound statement is on the one place
on_it : (places : List Place) → length places ≡ 1 → (pred : Pred) → IsPred places pred → pred.at.place ≡ 0
on_it [] l pred h = absurd (omega (arith, l))
on_it (place ∷ []) l pred h =
    only_place place pred.at.place pred.at.column (test_there (kind_at (place ∷ []) pred.at) pred.test h)
on_it (place ∷ (other ∷ places)) l pred h = absurd (omega (arith, l))

-- so each predicate of a statement of one place is on that place
pub on_one_place : (q : Statement) → IsSoundQuery q → length q.places ≡ 1 → All (λ pred. pred.at.place ≡ 0) q.preds
on_one_place q s l =
    All-weaker (IsPred q.places) (λ pred. pred.at.place ≡ 0) (λ pred. on_it q.places l pred) q.preds s.preds

no_edge : (places : List Place) → length places ≡ 1 → (edge : Edge) → IsEdge places edge → ⊥
no_edge [] l edge e = absurd (omega (arith, l))
no_edge (place ∷ []) l edge e =
    e.two_places
    (only_place place edge.left.place edge.left.column e.there
    ∙ sym (only_place place edge.right.place edge.right.column (subst IsSome e.one_kind e.there)))
no_edge (place ∷ (other ∷ places)) l edge e = absurd (omega (arith, l))

no_edges : (places : List Place) → length places ≡ 1 → (edges : List Edge) → All (IsEdge places) edges → edges ≡ []
no_edges places l [] a = refl
no_edges places l (edge ∷ edges) a = absurd (no_edge places l edge (All-head (IsEdge places) edge edges a))

singles : (p : List ℕ → Bool) (rows : List ℕ)
    → filter p (flat_map (λ row. map (λ rest. row ∷ rest) ([] ∷ [])) rows)
    ≡ map (λ row. row ∷ []) (filter (λ row. p (row ∷ [])) rows)
singles p [] = refl
singles p (row ∷ rows) = by_test (p (row ∷ [])) (singles p rows)
  where
    by_test : (b : Bool)
        → filter p (flat_map (λ row. map (λ rest. row ∷ rest) ([] ∷ [])) rows)
        ≡ map (λ row. row ∷ []) (filter (λ row. p (row ∷ [])) rows)
        → cond b ((row ∷ []) ∷ filter p (flat_map (λ row. map (λ rest. row ∷ rest) ([] ∷ [])) rows))
        (filter p (flat_map (λ row. map (λ rest. row ∷ rest) ([] ∷ [])) rows))
        ≡ map (λ row. row ∷ []) (cond b (row ∷ filter (λ row. p (row ∷ [])) rows)
        (filter (λ row. p (row ∷ [])) rows))
    by_test true more = ap (λ (zs : List (List ℕ)). (row ∷ []) ∷ zs) more
    by_test false more = more

filter_same : (p q : ℕ → Bool) → ((row : ℕ) → p row ≡ q row) → (rows : List ℕ) → filter p rows ≡ filter q rows
filter_same p q h [] = refl
filter_same p q h (row ∷ rows) = rw (h row, filter_same p q h rows) refl

keeps_one : (world : World) → world.edges ≡ [] → (row : ℕ) → keeps world (row ∷ []) ≡ world.passes 0 row
keeps_one world e row =
    ap (λ (edges : List Edge). (world.passes 0 row && true) && edges_hold world edges (row ∷ [])) e
    ∙ and_true (world.passes 0 row)
  where
    and_true : (b : Bool) → ((b && true) && true) ≡ b
    and_true true = refl
    and_true false = refl

kept_one : (world : World) → world.edges ≡ [] → world.places ≡ 1
    → kept world ≡ map (λ row. row ∷ []) (filter (world.passes 0) (row_numbers (world.size 0)))
kept_one world e w =
    ap (λ (count : ℕ). filter (keeps world) (combinations (sizes_from world 0 count))) w
    ∙ (singles (keeps world) (row_numbers (world.size 0))
    ∙ ap (map (λ row. row ∷ [])) (filter_same (λ row. keeps world (row ∷ [])) (world.passes 0) (keeps_one world e)
    (row_numbers (world.size 0))))

pub one_place : (q : Statement) (tables : List (List (List Value))) (args : List Value) → IsSoundQuery q
    → length q.places ≡ 1
    → kept_combinations q tables args
    ≡ map (λ row. row ∷ []) (filter (λ row. row_passes args q.preds 0 (row_at tables 0 row))
    (row_numbers (length (rows_at tables 0))))
one_place q tables args s l = kept_one (world_of q tables args) (no_edges q.places l q.edges s.edges) l
