-- Without groups and order, the result rows are the items of the kept combinations.
use Rattle.std.proofs.Common.{ℕ, ◌≡◌, List, [], ◌∷◌, map, ap, sym, ◌∙◌, refl}
use Rattle.row_values.specs.Statements.{Statement}
use Rattle.row_values.specs.declared.values.Value.{Value}
use Rattle.row_values.specs.declared.statement.Item.{Item}
use Rattle.row_values.specs.declared.statement.ColRef.{ColRef}
use Rattle.row_values.specs.declared.statement.OrderKey.{OrderKey}
use Rattle.statement_meaning.specs.Combinations.{kept_combinations, world_of}
use Rattle.statement_meaning.specs.Meaning.{Shown, shown_row, rows_shown, is_before, meaning_of}
use Rattle.row_values.proofs.Rising.{in_order-ties}
use Rattle.statement_meaning.proofs.KeptOrder.{in_order-kept}

plain : (tables : List (List (List Value))) (items : List Item) (groups : List ColRef) (order : List OrderKey)
    (combos : List (List ℕ))
    → groups ≡ [] → order ≡ []
    → rows_shown tables items groups order combos ≡ map (λ c. shown_row tables items (c ∷ []) c) combos
plain tables items [] [] combos g o =
    ap (map (λ c. shown_row tables items (c ∷ []) c)) (in_order-ties (is_before tables []) (λ a b. refl) combos)
plain tables items [] (key ∷ keys) combos g o = cc
plain tables items (group ∷ groups) order combos g o = cc

pub plain_meaning : (q : Statement) (tables : List (List (List Value))) (args : List Value) → q.groups ≡ []
    → q.order ≡ []
    → meaning_of q tables args ≡ map (λ c. shown_row tables q.items (c ∷ []) c) (kept_combinations q tables args)
plain_meaning q tables args g o =
    ap (rows_shown tables q.items q.groups q.order) (in_order-kept (world_of q tables args))
    ∙ plain tables q.items q.groups q.order (kept_combinations q tables args) g o

map_single : (f : List ℕ → List Shown) (numbers : List ℕ)
    → map f (map (λ row. row ∷ []) numbers) ≡ map (λ row. f (row ∷ [])) numbers
map_single f [] = refl
map_single f (row ∷ numbers) = ap (λ (rest : List (List Shown)). f (row ∷ []) ∷ rest) (map_single f numbers)

-- of one place, they are the items of the rows that are kept
pub plain_rows_of_one : (q : Statement) (tables : List (List (List Value))) (args : List Value) (numbers : List ℕ)
    → q.groups ≡ [] → q.order ≡ [] → map (λ row. row ∷ []) numbers ≡ kept_combinations q tables args
    → meaning_of q tables args ≡ map (λ row. shown_row tables q.items ((row ∷ []) ∷ []) (row ∷ [])) numbers
plain_rows_of_one q tables args numbers g o k =
    plain_meaning q tables args g o
    ∙ (ap (map (λ c. shown_row tables q.items (c ∷ []) c)) (sym k)
    ∙ map_single (λ c. shown_row tables q.items (c ∷ []) c) numbers)
