-- What one edge asks of the combinations that meet the edges between two sides, and one predicate of a row that passes.
use Rattle.std.proofs.Common.{ℕ, ◌≡◌, ◌<◌, suc, zero, Bool, true, false, ◌&&◌, ◌==◌, List, [], ◌∷◌, length, get_or, set}
use Rattle.std.proofs.Common.{cond, ap, sym, ◌∙◌, refl}
use Rattle.std.specs.Prelude.{filter, slice_get, Some}
use Rattle.std.proofs.lemmas.Bool.{false≢true, eq-eqb, and_parts, or_right}
use Rattle.std.proofs.lemmas.List.{get_or-set_same, get_or-set_other}
use Rattle.row_values.specs.declared.values.Value.{Value}
use Rattle.row_values.specs.declared.statement.Edge.{Edge}
use Rattle.row_values.specs.declared.statement.Pred.{Pred}
use Rattle.statement_meaning.specs.Combinations.{World, edge_holds, edges_hold}
use Rattle.statement_meaning.specs.Conditions.{holds, row_passes}
use Rattle.statement_meaning.specs.PartialCombinations.{single, AreApart, is_between, edges_between, Fits, merged}
use Rattle.statement_meaning.proofs.Joining.{swap_apart}
use Rattle.statement_meaning.proofs.Merging.{merged_first, merged_second}

edge_of_filter : (world : World) (p : Edge → Bool) (es : List Edge) (c : List ℕ)
    → edges_hold world (filter p es) c ≡ true → (number : ℕ) (edge : Edge) → slice_get es number ≡ Some edge
    → p edge ≡ true → edge_holds world edge c ≡ true
edge_of_filter world p [] c h number edge g k = cc
edge_of_filter world p (first ∷ es) c h zero edge g k =
    let e : first ≡ edge = cc in
    let kept : p first ≡ true = ap p e ∙ k in
    let front : edges_hold world (first ∷ filter p es) c ≡ true =
    ap (λ (b : Bool). edges_hold world (cond b (first ∷ filter p es) (filter p es)) c) (sym kept) ∙ h in
    ap (λ (x : Edge). edge_holds world x c) (sym e)
    ∙ (and_parts (edge_holds world first c) (edges_hold world (filter p es) c) front).0
edge_of_filter world p (first ∷ es) c h (suc number) edge g k =
    by_test (p first) refl (λ m. edge_of_filter world p es c m number edge g k)
  where
    by_test : (b : Bool) → p first ≡ b → (edges_hold world (filter p es) c ≡ true → edge_holds world edge c ≡ true)
        → edge_holds world edge c ≡ true
    by_test true e more =
        more
        ((and_parts (edge_holds world first c) (edges_hold world (filter p es) c)
        (ap (λ (b : Bool). edges_hold world (cond b (first ∷ filter p es) (filter p es)) c) (sym e) ∙ h)).1)
    by_test false e more =
        more (ap (λ (b : Bool). edges_hold world (cond b (first ∷ filter p es) (filter p es)) c) (sym e) ∙ h)

-- where two combinations meet the edges between, their rows at an edge's two places agree: its left place on the outer
-- side
pub edge_asks : (world : World) (outer inner : ℕ → Bool) → AreApart outer inner → (c d : List ℕ) → Fits world outer c
    → Fits world inner d → edges_hold world (edges_between world outer inner) (merged outer c d) ≡ true
    → (number : ℕ) (edge : Edge) → slice_get world.edges number ≡ Some edge → outer edge.left.place ≡ true
    → inner edge.right.place ≡ true → world.agree edge (get_or c edge.left.place 0) (get_or d edge.right.place 0) ≡ true
edge_asks world outer inner apart c d f g m number edge at l r =
    let same : length c ≡ length d = f.long ∙ sym g.long in
    let met : edge_holds world edge (merged outer c d) ≡ true =
    edge_of_filter world (is_between outer inner) world.edges (merged outer c d) m number edge at (rw (l, r) refl)
    in
    sym
    (ap (λ (row : ℕ). world.agree edge row (get_or (merged outer c d) edge.right.place 0))
    (merged_first outer c d same edge.left.place l)
    ∙ ap (λ (row : ℕ). world.agree edge (get_or c edge.left.place 0) row) (merged_second outer c d same edge.right.place
    (swap_apart outer inner apart edge.right.place r))) ∙ met

-- and its left place on the inner side
pub edge_asks_back : (world : World) (outer inner : ℕ → Bool) → AreApart outer inner → (c d : List ℕ)
    → Fits world outer c → Fits world inner d
    → edges_hold world (edges_between world outer inner) (merged outer c d) ≡ true → (number : ℕ) (edge : Edge)
    → slice_get world.edges number ≡ Some edge → inner edge.left.place ≡ true → outer edge.right.place ≡ true
    → world.agree edge (get_or d edge.left.place 0) (get_or c edge.right.place 0) ≡ true
edge_asks_back world outer inner apart c d f g m number edge at r l =
    let same : length c ≡ length d = f.long ∙ sym g.long in
    let met : edge_holds world edge (merged outer c d) ≡ true =
    edge_of_filter world (is_between outer inner) world.edges (merged outer c d) m number edge at
    (rw (r, l) (or_right (outer edge.left.place && inner edge.right.place) true refl)) in
    sym
    (ap (λ (row : ℕ). world.agree edge row (get_or (merged outer c d) edge.right.place 0))
    (merged_second outer c d same edge.left.place (swap_apart outer inner apart edge.left.place r))
    ∙ ap (λ (row : ℕ). world.agree edge (get_or d edge.left.place 0) row)
    (merged_first outer c d same edge.right.place l)) ∙ met

-- the same of a combination and a row of the place that enters
pub row_asks : (world : World) (outer : ℕ → Bool) (place : ℕ) → outer place ≡ false → place < world.places
    → (c : List ℕ) → Fits world outer c → (row : ℕ)
    → edges_hold world (edges_between world outer (single place)) (set c place row) ≡ true → (number : ℕ) (edge : Edge)
    → slice_get world.edges number ≡ Some edge → outer edge.left.place ≡ true → edge.right.place ≡ place
    → world.agree edge (get_or c edge.left.place 0) row ≡ true
row_asks world outer place out i c f row m number edge at l r =
    let met : edge_holds world edge (set c place row) ≡ true =
    edge_of_filter world (is_between outer (single place)) world.edges (set c place row) m number edge at
    (rw (l, eq-eqb place edge.right.place (sym r)) refl) in
    let old : get_or (set c place row) edge.left.place 0 ≡ get_or c edge.left.place 0 =
    get_or-set_other c place edge.left.place row 0 (λ q. false≢true (sym out ∙ (ap outer (sym q) ∙ l))) in
    let new : get_or (set c place row) edge.right.place 0 ≡ row = ap (λ (n : ℕ). get_or (set c place row) n 0) r
    ∙ get_or-set_same c place row 0 (rw f.long i) in
    sym (ap (λ (x : ℕ). world.agree edge x (get_or (set c place row) edge.right.place 0)) old
    ∙ ap (λ (x : ℕ). world.agree edge (get_or c edge.left.place 0) x) new)
    ∙ met

pub row_asks_back : (world : World) (outer : ℕ → Bool) (place : ℕ) → outer place ≡ false → place < world.places
    → (c : List ℕ) → Fits world outer c → (row : ℕ)
    → edges_hold world (edges_between world outer (single place)) (set c place row) ≡ true → (number : ℕ) (edge : Edge)
    → slice_get world.edges number ≡ Some edge → edge.left.place ≡ place → outer edge.right.place ≡ true
    → world.agree edge row (get_or c edge.right.place 0) ≡ true
row_asks_back world outer place out i c f row m number edge at r l =
    let met : edge_holds world edge (set c place row) ≡ true =
    edge_of_filter world (is_between outer (single place)) world.edges (set c place row) m number edge at
    (rw (l, eq-eqb place edge.left.place (sym r)) (or_right (outer edge.left.place && single place edge.right.place)
    true refl)) in
    let old : get_or (set c place row) edge.right.place 0 ≡ get_or c edge.right.place 0 =
    get_or-set_other c place edge.right.place row 0 (λ q. false≢true (sym out ∙ (ap outer (sym q) ∙ l))) in
    let new : get_or (set c place row) edge.left.place 0 ≡ row = ap (λ (n : ℕ). get_or (set c place row) n 0) r
    ∙ get_or-set_same c place row 0 (rw f.long i) in
    sym (ap (λ (x : ℕ). world.agree edge x (get_or (set c place row) edge.right.place 0)) new
    ∙ ap (λ (x : ℕ). world.agree edge row x) old)
    ∙ met

-- a row that passes meets each predicate on its place
pub pred_asks : (args : List Value) (preds : List Pred) (place : ℕ) (row : List Value)
    → row_passes args preds place row ≡ true → (number : ℕ) (pred : Pred) → slice_get preds number ≡ Some pred
    → pred.at.place ≡ place → holds args pred row ≡ true
pred_asks args [] place row h number pred g e = cc
pred_asks args (first ∷ preds) place row h zero pred g e =
    let one : first ≡ pred = cc in
    let front = (and_parts (cond (first.at.place == place) (holds args first row) true)
    (row_passes args preds place row) h).0 in
    let here : first.at.place ≡ place = ap (λ (x : Pred). x.at.place) one ∙ e in
    ap (λ (x : Pred). holds args x row) (sym one)
    ∙ (sym (ap (λ (b : Bool). cond b (holds args first row) true) (eq-eqb first.at.place place here)) ∙ front)
pred_asks args (first ∷ preds) place row h (suc number) pred g e =
    pred_asks args preds place row
    (and_parts (cond (first.at.place == place) (holds args first row) true) (row_passes args preds place row) h).1
    number pred g e
