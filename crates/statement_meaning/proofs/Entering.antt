-- One place enters a join: the case of one place of the law of joins.
use Rattle.std.proofs.Common.{ℕ, ◌≡◌, ◌<◌, Bool, true, false, ◌&&◌, ◌==◌, List, [], ◌∷◌, get_or, set, map, cond, ap}
use Rattle.std.proofs.Common.{sym, ◌∙◌, refl, subst}
use Rattle.std.specs.Prelude.{filter, All, nat_eq}
use Rattle.std.proofs.lemmas.Bool.{false≢true, eqb-true, eq-eqb, ne_eqb}
use Rattle.std.proofs.lemmas.List.{ext_get_or, get_or-set_same, get_or-set_other, length-set}
use Rattle.std.proofs.lemmas.List.Elements.{All-nil, All-cons, All-head, All-tail, All-filter, filter_passes}
use Rattle.row_values.specs.declared.statement.Edge.{Edge}
use Rattle.row_values.specs.RowNumbers.{row_numbers}
use Rattle.statement_meaning.specs.Combinations.{World, edges_hold}
use Rattle.statement_meaning.specs.PartialCombinations.{single, either, AreApart, HasSoundEdges, is_inside}
use Rattle.statement_meaning.specs.PartialCombinations.{edges_between, Fits, is_same, Once, merged, joined, Offers}
use Rattle.statement_meaning.specs.PartialCombinations.{placed, joined_rows, RowsOnce, OffersRows}
use Rattle.row_values.specs.Sorting.{times}
use Rattle.row_values.proofs.Counting.{exact_lists, exact_numbers, HaveSame, all_of_same, times-filter}
use Rattle.row_values.proofs.Counting.{times_row_numbers}
use Rattle.statement_meaning.proofs.Joining.{joined_once}
use Rattle.statement_meaning.proofs.Merging.{merged_is, length-placed, placed_there, placed_elsewhere}
use Rattle.row_values.proofs.Rising.{below}

-- a place that isn't in the set is apart from it
pub single_apart : (outer : ℕ → Bool) (place : ℕ) → outer place ≡ false → AreApart outer (single place)
single_apart outer place out other h = ne_eqb place other (λ e. false≢true (sym out ∙ (ap outer e ∙ h)))

-- The rows of a place as combinations over that place.

-- no edge is inside one place
one_place_edges : (place : ℕ) (es : List Edge) → All (λ edge. (edge.left.place == edge.right.place) ≡ false) es
    → filter (is_inside (single place)) es ≡ []
one_place_edges place [] a = refl
one_place_edges place (edge ∷ es) a =
    ap (λ (b : Bool). cond b (edge ∷ filter (is_inside (single place)) es) (filter (is_inside (single place)) es))
    (by_ends (place == edge.left.place) refl (place == edge.right.place) refl)
    ∙ one_place_edges place es (All-tail (λ edge. (edge.left.place == edge.right.place) ≡ false) edge es a)
  where
    by_ends : (x : Bool) → (place == edge.left.place) ≡ x → (y : Bool) → (place == edge.right.place) ≡ y
        → ((place == edge.left.place) && (place == edge.right.place)) ≡ false
    by_ends true p true q =
        absurd
        (false≢true (sym (All-head (λ edge. (edge.left.place == edge.right.place) ≡ false) edge es a)
        ∙ eq-eqb edge.left.place edge.right.place (sym (eqb-true place edge.left.place p)
        ∙ eqb-true place edge.right.place q)))
    by_ends true p false q = rw (p, q) refl
    by_ends false p y q = rw p refl

pub row_fits : (world : World) → HasSoundEdges world → (place : ℕ) → place < world.places → (row : ℕ)
    → row < world.size place → world.passes place row ≡ true → Fits world (single place) (placed world place row)
row_fits world sound place i row a b = record {
  long = length-placed world place row;
  within = λ other h. at_it other (eqb-true place other h);
  zeros = λ other h. placed_elsewhere world place row other h;
  met =
      ap (λ (es : List Edge). edges_hold world es (placed world place row))
      (one_place_edges place world.edges sound.two_places);
}
  where
    at_it : (other : ℕ) → place ≡ other
        → (get_or (placed world place row) other 0 < world.size other)
        × (world.passes other (get_or (placed world place row) other 0) ≡ true)
    at_it other e =
        subst
        (λ (other : ℕ). (get_or (placed world place row) other 0 < world.size other)
        × (world.passes other (get_or (placed world place row) other 0) ≡ true))
        e (rw (placed_there world place row i) (a, b))

-- a combination over one place is that of its row there
pub placed_row : (world : World) (place : ℕ) → place < world.places → (d : List ℕ) → Fits world (single place) d
    → placed world place (get_or d place 0) ≡ d
placed_row world place i d g =
    ext_get_or 0 (placed world place (get_or d place 0)) d (length-placed world place (get_or d place 0) ∙ sym g.long)
    (λ other k. by_place other (single place other) refl)
  where
    by_place : (other : ℕ) (b : Bool) → single place other ≡ b
        → get_or (placed world place (get_or d place 0)) other 0 ≡ get_or d other 0
    by_place other true e =
        subst (λ (other : ℕ). get_or (placed world place (get_or d place 0)) other 0 ≡ get_or d other 0)
        (eqb-true place other e) (placed_there world place (get_or d place 0) i)
    by_place other false e = placed_elsewhere world place (get_or d place 0) other e ∙ sym (g.zeros other e)

same_placed : (world : World) (place : ℕ) → place < world.places → (d : List ℕ) → Fits world (single place) d
    → (row : ℕ) → is_same d (placed world place row) ≡ nat_eq (get_or d place 0) row
same_placed world place i d g row =
    by_test (is_same d (placed world place row)) refl (nat_eq (get_or d place 0) row) refl
  where
    by_test : (b : Bool) → is_same d (placed world place row) ≡ b → (k : Bool) → nat_eq (get_or d place 0) row ≡ k
        → is_same d (placed world place row) ≡ nat_eq (get_or d place 0) row
    by_test true e true h = e ∙ sym h
    by_test false e false h = e ∙ sym h
    by_test true e false h =
        let there : get_or d place 0 ≡ row =
        ap (λ (z : List ℕ). get_or z place 0) (exact_lists.one d (placed world place row) e)
        ∙ placed_there world place row i in
        absurd (false≢true (sym h ∙ eq-eqb (get_or d place 0) row there))
    by_test false e true h =
        let whole : placed world place row ≡ d = ap (placed world place) (sym (eqb-true (get_or d place 0) row h))
        ∙ placed_row world place i d g in
        absurd (false≢true (sym e ∙ (ap (is_same d) whole ∙ exact_lists.itself d)))

times_placed : (world : World) (place : ℕ) → place < world.places → (d : List ℕ) → Fits world (single place) d
    → (rows : List ℕ) → times is_same d (map (placed world place) rows) ≡ times nat_eq (get_or d place 0) rows
times_placed world place i d g [] = refl
times_placed world place i d g (row ∷ rows) =
    rw (same_placed world place i d g row, times_placed world place i d g rows) refl

all_placed : (world : World) → HasSoundEdges world → (place : ℕ) → place < world.places → (rows : List ℕ)
    → All (λ row. (row < world.size place) × (world.passes place row ≡ true)) rows
    → All (Fits world (single place)) (map (placed world place) rows)
all_placed world sound place i [] a = All-nil (Fits world (single place))
all_placed world sound place i (row ∷ rows) a =
    let here = All-head (λ row. (row < world.size place) × (world.passes place row ≡ true)) row rows a in
    All-cons (Fits world (single place)) (placed world place row) _ (row_fits world sound place i row here.0 here.1)
    (all_placed world sound place i rows (All-tail (λ row. (row < world.size place)
    × (world.passes place row ≡ true)) row rows a))

-- the rows of a place that meet its predicates, each once, are the combinations over that place: the first step of each
-- plan
pub rows_once : (world : World) → HasSoundEdges world → (place : ℕ) → place < world.places → (rows : List ℕ)
    → RowsOnce world place rows → Once world (single place) (map (placed world place) rows)
rows_once world sound place i rows o = record {
  only = all_placed world sound place i rows o.only;
  once =
      λ d g. let here = g.within place (eq-eqb place place refl) in times_placed world place i d g rows
      ∙ o.once (get_or d place 0) here.0 here.1;
}

-- A combination with one more row.

pub merged_placed : (world : World) (outer : ℕ → Bool) (place : ℕ) → outer place ≡ false → place < world.places
    → (c : List ℕ) → Fits world outer c → (row : ℕ) → merged outer c (placed world place row) ≡ set c place row
merged_placed world outer place out i c f row =
    merged_is outer c (placed world place row) (set c place row) (f.long ∙ sym (length-placed world place row))
    (length-set c place row) (λ other k. by_place other (single place other) refl)
  where
    by_set : (other : ℕ) → single place other ≡ false → (b : Bool) → outer other ≡ b
        → get_or c other 0 ≡ cond b (get_or c other 0) (get_or (placed world place row) other 0)
    by_set other n true e = refl
    by_set other n false e = f.zeros other e ∙ sym (placed_elsewhere world place row other n)

    by_place : (other : ℕ) (b : Bool) → single place other ≡ b
        → get_or (set c place row) other 0
        ≡ cond (outer other) (get_or c other 0) (get_or (placed world place row) other 0)
    by_place other true e =
        subst
        (λ (other : ℕ). get_or (set c place row) other 0
        ≡ cond (outer other) (get_or c other 0) (get_or (placed world place row) other 0))
        (eqb-true place other e)
        (get_or-set_same c place row 0 (rw f.long i)
        ∙ sym (ap (λ (b : Bool). cond b (get_or c place 0) (get_or (placed world place row) place 0)) out
        ∙ placed_there world place row i))
    by_place other false e =
        get_or-set_other c place other row 0 (λ q. false≢true (sym e ∙ eq-eqb place other (sym q)))
        ∙ by_set other e (outer other) refl

rows_merged : (world : World) (outer : ℕ → Bool) (place : ℕ) → outer place ≡ false → place < world.places → (c : List ℕ)
    → Fits world outer c → (rows : List ℕ)
    → map (merged outer c) (map (placed world place) rows) ≡ map (set c place) rows
rows_merged world outer place out i c f [] = refl
rows_merged world outer place out i c f (row ∷ rows) =
    rw (merged_placed world outer place out i c f row, rows_merged world outer place out i c f rows) refl

-- the join by a place is the join by the combinations over that place
pub joined_rows_is : (world : World) (outer : ℕ → Bool) (place : ℕ) → outer place ≡ false → place < world.places
    → (offered : List ℕ → List ℕ) (cs : List (List ℕ)) → All (Fits world outer) cs
    → joined world outer (single place) (λ c. map (placed world place) (offered c)) cs
    ≡ joined_rows world outer place offered cs
joined_rows_is world outer place out i offered [] a = refl
joined_rows_is world outer place out i offered (c ∷ cs) a =
    rw (
      rows_merged world outer place out i c (All-head (Fits world outer) c cs a) (offered c),
      joined_rows_is world outer place out i offered cs (All-tail (Fits world outer) c cs a),
    )
    refl

placed_offered : (world : World) → HasSoundEdges world → (outer : ℕ → Bool) (place : ℕ) → outer place ≡ false
    → place < world.places → (c : List ℕ) → Fits world outer c → (rows : List ℕ) → OffersRows world outer place c rows
    → Offers world outer (single place) c (map (placed world place) rows)
placed_offered world sound outer place out i c f rows o = record {
  only = all_placed world sound place i rows o.only;
  once = λ d g m.
      let here = g.within place (eq-eqb place place refl) in
      let whole : merged outer c d ≡ set c place (get_or d place 0) =
      ap (merged outer c) (sym (placed_row world place i d g))
      ∙ merged_placed world outer place out i c f (get_or d place 0) in
      times_placed world place i d g rows
      ∙ o.once (get_or d place 0) here.0 here.1 (ap (edges_hold world (edges_between world outer (single place)))
      (sym whole) ∙ m);
}

-- The join by a place: where each combination of the outer side stands once, and each is offered the rows that it may
-- be
-- joined with, each combination of the outer side's places and this one stands once in what is made.
pub joined_rows_once : (world : World) → HasSoundEdges world → (outer : ℕ → Bool) (place : ℕ) → outer place ≡ false
    → place < world.places → (offered : List ℕ → List ℕ) (cs : List (List ℕ))
    → ((c : List ℕ) → Fits world outer c → OffersRows world outer place c (offered c)) → Once world outer cs
    → Once world (either outer (single place)) (joined_rows world outer place offered cs)
joined_rows_once world sound outer place out i offered cs offers o =
    subst (Once world (either outer (single place))) (joined_rows_is world outer place out i offered cs o.only)
    (joined_once world outer (single place) (single_apart outer place out) (λ c. map (placed world place) (offered c))
    cs (λ c f. placed_offered world sound outer place out i c f (offered c) (offers c f)) o)

-- Rows once, and what is offered.

-- Rows in any order, of which those stay that pass a test and then meet the predicates, where all that meet the
-- predicates pass the test: a scan (each passes), and an index range.
pub tested_rows_once : (world : World) (place : ℕ) (rows : List ℕ) (p : ℕ → Bool)
    → HaveSame nat_eq (row_numbers (world.size place)) rows
    → ((row : ℕ) → row < world.size place → world.passes place row ≡ true → p row ≡ true)
    → RowsOnce world place (filter (world.passes place) (filter p rows))
tested_rows_once world place rows p h t = record {
  only =
      λ k d l. (
        All-filter (world.passes place) (λ row. row < world.size place) (filter p rows)
            (All-filter p (λ row. row < world.size place) rows
            (all_of_same nat_eq exact_numbers (λ row. row < world.size place) (row_numbers (world.size place)) rows h
            (below (world.size place)))) k d l,
        filter_passes (world.passes place) (filter p rows) k d l,
      );
  once =
      λ row i e. times-filter nat_eq exact_numbers (world.passes place) row e (filter p rows)
      ∙ (times-filter nat_eq exact_numbers p row (t row i e) rows
      ∙ (sym (h row) ∙ times_row_numbers (world.size place) row i));
}

-- the scan
pub scanned_once : (world : World) (place : ℕ)
    → RowsOnce world place (filter (world.passes place) (row_numbers (world.size place)))
scanned_once world place = record {
  only =
      λ k d l. (
        All-filter (world.passes place) (λ row. row < world.size place) (row_numbers (world.size place))
            (below (world.size place)) k d l,
        filter_passes (world.passes place) (row_numbers (world.size place)) k d l,
      );
  once =
      λ row i e. times-filter nat_eq exact_numbers (world.passes place) row e (row_numbers (world.size place))
      ∙ times_row_numbers (world.size place) row i;
}

-- all rows that meet the predicates: the nested loop
pub all_rows_offered : (world : World) (outer : ℕ → Bool) (place : ℕ) (c rows : List ℕ) → RowsOnce world place rows
    → OffersRows world outer place c rows
all_rows_offered world outer place c rows o = record { only = o.only; once = λ row i e m. o.once row i e }

-- of these, those that pass a test which all pass that meet the edges by which the place enters: the hash join
pub passing_rows_offered : (world : World) (outer : ℕ → Bool) (place : ℕ) (c rows : List ℕ) (p : ℕ → Bool)
    → RowsOnce world place rows
    → ((row : ℕ) → row < world.size place → world.passes place row ≡ true
    → edges_hold world (edges_between world outer (single place)) (set c place row) ≡ true → p row ≡ true)
    → OffersRows world outer place c (filter p rows)
passing_rows_offered world outer place c rows p o h = record {
  only = All-filter p (λ row. (row < world.size place) × (world.passes place row ≡ true)) rows o.only;
  once = λ row i e m. times-filter nat_eq exact_numbers p row (h row i e m) rows ∙ o.once row i e;
}

-- rows in any order, of which those stay that pass such a test and then meet the predicates: the index probe
pub tested_rows_offered : (world : World) (outer : ℕ → Bool) (place : ℕ) (c rows : List ℕ) (p : ℕ → Bool)
    → HaveSame nat_eq (row_numbers (world.size place)) rows
    → ((row : ℕ) → row < world.size place → world.passes place row ≡ true
    → edges_hold world (edges_between world outer (single place)) (set c place row) ≡ true → p row ≡ true)
    → OffersRows world outer place c (filter (world.passes place) (filter p rows))
tested_rows_offered world outer place c rows p h t = record {
  only =
      λ k d l. (
        All-filter (world.passes place) (λ row. row < world.size place) (filter p rows)
            (All-filter p (λ row. row < world.size place) rows
            (all_of_same nat_eq exact_numbers (λ row. row < world.size place) (row_numbers (world.size place)) rows h
            (below (world.size place)))) k d l,
        filter_passes (world.passes place) (filter p rows) k d l,
      );
  once =
      λ row i e m. times-filter nat_eq exact_numbers (world.passes place) row e (filter p rows)
      ∙ (times-filter nat_eq exact_numbers p row (t row i e m) rows
      ∙ (sym (h row) ∙ times_row_numbers (world.size place) row i));
}

-- none, where no row of the place may be joined with it
pub no_rows_offered : (world : World) (outer : ℕ → Bool) (place : ℕ) (c : List ℕ)
    → ((row : ℕ) → row < world.size place → world.passes place row ≡ true
    → edges_hold world (edges_between world outer (single place)) (set c place row) ≡ true → ⊥)
    → OffersRows world outer place c []
no_rows_offered world outer place c h =
    record {
      only = All-nil (λ row. (row < world.size place) × (world.passes place row ≡ true));
      once =
          λ row i e m. absurd (h row i e m);
    }
