-- A join keeps the order of its outer side, where the order reads only places of the outer side.
use Rattle.std.proofs.Common.{ℕ, ◌≡◌, ◌<◌, ◌++◌, Bool, true, false, List, [], ◌∷◌, get_or, set, map, cond, ap, sym, ◌∙◌}
use Rattle.std.proofs.Common.{refl}
use Rattle.std.specs.Prelude.{All, filter, flat_map, Option, slice_get}
use Rattle.std.specs.Cmp.{IsStrictWeakOrder}
use Rattle.std.specs.Ordering.{is_lt, ordering_then}
use Rattle.std.specs.declared.cmp.Ordering.{Ordering}
use Rattle.std.specs.declared.cmp.Ordering.TheVariants.{Less, Equal, Greater}
use Rattle.std.proofs.lemmas.Bool.{false≢true}
use Rattle.std.proofs.lemmas.List.{get_or-set_other}
use Rattle.std.proofs.lemmas.List.Elements.{All-nil, All-head, All-tail, All-append, All-map, All-filter, All-weaker}
use Rattle.row_values.specs.declared.values.Value.{Value}
use Rattle.row_values.specs.declared.statement.OrderKey.{OrderKey}
use Rattle.row_values.specs.declared.statement.ColRef.{ColRef}
use Rattle.statement_meaning.specs.Combinations.{World, edges_hold, row_at}
use Rattle.row_values.specs.Orders.{cell_order}
use Rattle.statement_meaning.specs.Meaning.{cell_of, column_order, key_order, keys_order, is_before}
use Rattle.statement_meaning.specs.PartialCombinations.{single, edges_between, Fits, merged, joined, Offers}
use Rattle.statement_meaning.specs.PartialCombinations.{joined_rows, placed}
use Rattle.row_values.specs.Sorting.{Rises}
use Rattle.statement_meaning.proofs.FullOrders.{keys_ranked}
use Rattle.row_values.proofs.InOrder.{nothing_below_itself}
use Rattle.statement_meaning.proofs.Merging.{merged_first, placed_there}

-- two elements that an order doesn't tell apart
abbrev pub AreAlike : {X : Type 0} → (X → X → Bool) → X → X → Type 0
AreAlike {X} lt p z = (c : X) → (lt z c ≡ lt p c) × (lt c z ≡ lt c p)

above_pieces : {X : Type 0} (lt : X → X → Bool) (piece : X → List X) (x : X) (cs : List X)
    → All (λ c. All (AreAlike lt c) (piece c)) cs → All (λ c. lt c x ≡ false) cs
    → All (λ y. lt y x ≡ false) (flat_map piece cs)
above_pieces lt piece x [] h a = All-nil (λ y. lt y x ≡ false)
above_pieces lt piece x (c ∷ cs) h a =
    All-append (λ y. lt y x ≡ false) (piece c) (flat_map piece cs)
    (λ k d l. (All-head (λ c. All (AreAlike lt c) (piece c)) c cs h k d l x).0 ∙ All-head (λ c. lt c x ≡ false) c cs a)
    (above_pieces lt piece x cs (All-tail (λ c. All (AreAlike lt c) (piece c)) c cs h) (All-tail (λ c. lt c x
    ≡ false) c cs a))

-- a piece whose elements are alike to this one, and what lies above this one
piece_rises : {X : Type 0} (lt : X → X → Bool) → IsStrictWeakOrder lt → (c : X) (zs rest : List X)
    → All (AreAlike lt c) zs → All (λ y. lt y c ≡ false) rest → Rises lt rest → Rises lt (zs ++ rest)
piece_rises lt o c [] rest a b r = r
piece_rises lt o c (z ∷ zs) rest a b r =
    let here : AreAlike lt c z = All-head (AreAlike lt c) z zs a in (
      All-append (λ y. lt y z ≡ false) zs rest
          (λ k d l. (here _).1 ∙ ((All-tail (AreAlike lt c) z zs a k d l c).0 ∙ nothing_below_itself lt o c))
          (λ k d l. (here _).1 ∙ b k d l),
      piece_rises lt o c zs rest (All-tail (AreAlike lt c) z zs a) b r,
    )

-- a list that rises, with each element replaced by some that are alike to it
pub pieces_rise : {X : Type 0} (lt : X → X → Bool) → IsStrictWeakOrder lt → (piece : X → List X) (cs : List X)
    → All (λ c. All (AreAlike lt c) (piece c)) cs → Rises lt cs → Rises lt (flat_map piece cs)
pieces_rise lt o piece [] h r = tt
pieces_rise lt o piece (c ∷ cs) h r =
    let more = All-tail (λ c. All (AreAlike lt c) (piece c)) c cs h in
    piece_rises lt o c (piece c) (flat_map piece cs) (All-head (λ c. All (AreAlike lt c) (piece c)) c cs h)
    (above_pieces lt piece c cs more r.0) (pieces_rise lt o piece cs more r.1)

-- Combinations that have the same rows at the places of the keys.

abbrev pub AgreeOnKeys : List OrderKey → List ℕ → List ℕ → Type 0
AgreeOnKeys keys c d = All (λ key. get_or c key.at.place 0 ≡ get_or d key.at.place 0) keys

pub keys_first : (tables : List (List (List Value))) (keys : List OrderKey) (c d x : List ℕ) → AgreeOnKeys keys c d
    → keys_order tables keys c x ≡ keys_order tables keys d x
keys_first tables [] c d x h = refl
keys_first tables (key ∷ keys) c d x h =
    let one : cell_of tables c key.at ≡ cell_of tables d key.at =
    ap (λ (row : ℕ). slice_get (row_at tables key.at.place row) key.at.column)
    (All-head (λ key. get_or c key.at.place 0 ≡ get_or d key.at.place 0) key keys h) in
    ap (λ (o : Ordering). ordering_then o (keys_order tables keys c x))
    (ap (λ (cell : Option Value). cond key.descending (cell_order (cell_of tables x key.at) cell)
    (cell_order cell (cell_of tables x key.at))) one)
    ∙ ap (ordering_then (key_order tables key d x))
    (keys_first tables keys c d x (All-tail (λ key. get_or c key.at.place 0 ≡ get_or d key.at.place 0) key keys h))

pub keys_second : (tables : List (List (List Value))) (keys : List OrderKey) (c d x : List ℕ) → AgreeOnKeys keys c d
    → keys_order tables keys x c ≡ keys_order tables keys x d
keys_second tables [] c d x h = refl
keys_second tables (key ∷ keys) c d x h =
    let one : cell_of tables c key.at ≡ cell_of tables d key.at =
    ap (λ (row : ℕ). slice_get (row_at tables key.at.place row) key.at.column)
    (All-head (λ key. get_or c key.at.place 0 ≡ get_or d key.at.place 0) key keys h) in
    ap (λ (o : Ordering). ordering_then o (keys_order tables keys x c))
    (ap (λ (cell : Option Value). cond key.descending (cell_order cell (cell_of tables x key.at))
    (cell_order (cell_of tables x key.at) cell)) one)
    ∙ ap (ordering_then (key_order tables key x d))
    (keys_second tables keys c d x (All-tail (λ key. get_or c key.at.place 0 ≡ get_or d key.at.place 0) key keys h))

-- are alike to the order by these keys
pub alike_by_keys : (tables : List (List (List Value))) (keys : List OrderKey) (c d : List ℕ) → AgreeOnKeys keys d c
    → AreAlike (is_before tables keys) c d
alike_by_keys tables keys c d h x =
    (ap is_lt (keys_first tables keys d c x h), ap is_lt (keys_second tables keys d c x h))

-- The join keeps the order by keys that the outer side has.
pub joined_rises : (world : World) (outer inner : ℕ → Bool) (tables : List (List (List Value))) (keys : List OrderKey)
    → All (λ key. outer key.at.place ≡ true) keys → (offered : List ℕ → List (List ℕ)) (cs : List (List ℕ))
    → ((c : List ℕ) → Fits world outer c → Offers world outer inner c (offered c)) → All (Fits world outer) cs
    → Rises (is_before tables keys) cs → Rises (is_before tables keys) (joined world outer inner offered cs)
joined_rises world outer inner tables keys h offered cs offers a r =
    pieces_rise (is_before tables keys) (keys_ranked tables keys)
    (λ c. filter (edges_hold world (edges_between world outer inner)) (map (merged outer c) (offered c))) cs
    (All-weaker (Fits world outer) (λ c. All (AreAlike (is_before tables keys) c)
    (filter (edges_hold world (edges_between world outer inner)) (map (merged outer c) (offered c)))) piece cs a)
    r
  where
    alike : (c : List ℕ) → Fits world outer c → (d : List ℕ) → Fits world inner d
        → AreAlike (is_before tables keys) c (merged outer c d)
    alike c f d g =
        alike_by_keys tables keys c (merged outer c d)
        (All-weaker (λ key. outer key.at.place ≡ true) (λ key. get_or (merged outer c d) key.at.place 0
        ≡ get_or c key.at.place 0) (λ key k. merged_first outer c d (f.long ∙ sym g.long) key.at.place k) keys h)

    piece : (c : List ℕ) → Fits world outer c
        → All (AreAlike (is_before tables keys) c) (filter (edges_hold world (edges_between world outer inner))
        (map (merged outer c) (offered c)))
    piece c f =
        All-filter (edges_hold world (edges_between world outer inner)) (AreAlike (is_before tables keys) c)
        (map (merged outer c) (offered c))
        (All-map (AreAlike (is_before tables keys) c) (merged outer c) (offered c)
        (All-weaker (Fits world inner) (λ d. AreAlike (is_before tables keys) c (merged outer c d)) (alike c f)
        (offered c) (offers c f).only))

-- and so does the join by one place
pub joined_rows_rises : (world : World) (outer : ℕ → Bool) (place : ℕ) → outer place ≡ false
    → (tables : List (List (List Value))) (keys : List OrderKey) → All (λ key. outer key.at.place ≡ true) keys
    → (offered : List ℕ → List ℕ) (cs : List (List ℕ)) → Rises (is_before tables keys) cs
    → Rises (is_before tables keys) (joined_rows world outer place offered cs)
joined_rows_rises world outer place out tables keys h offered cs r =
    pieces_rise (is_before tables keys) (keys_ranked tables keys)
    (λ c. filter (edges_hold world (edges_between world outer (single place))) (map (set c place) (offered c))) cs
    (λ k d l. piece (get_or cs k d)) r
  where
    alike : (c : List ℕ) (row : ℕ) → AreAlike (is_before tables keys) c (set c place row)
    alike c row =
        alike_by_keys tables keys c (set c place row)
        (All-weaker (λ key. outer key.at.place ≡ true) (λ key. get_or (set c place row) key.at.place 0
        ≡ get_or c key.at.place 0) (λ key k. get_or-set_other c place key.at.place row 0 (λ q. false≢true (sym out
        ∙ (ap outer (sym q) ∙ k)))) keys h)

    piece : (c : List ℕ)
        → All (AreAlike (is_before tables keys) c) (filter (edges_hold world (edges_between world outer (single place)))
        (map (set c place) (offered c)))
    piece c =
        All-filter (edges_hold world (edges_between world outer (single place))) (AreAlike (is_before tables keys) c)
        (map (set c place) (offered c))
        (All-map (AreAlike (is_before tables keys) c) (set c place) (offered c)
        (λ k d l. alike c (get_or (offered c) k d)))

-- The order of an access path: rows that rise by a column of their place rise as combinations over that place.

pub rises_map : {X Y : Type 0} (lt : Y → Y → Bool) (f : X → Y) (xs : List X) → Rises (λ a b. lt (f a) (f b)) xs
    → Rises lt (map f xs)
rises_map lt f [] r = tt
rises_map lt f (x ∷ xs) r = (All-map (λ y. lt y (f x) ≡ false) f xs r.0, rises_map lt f xs r.1)

pub rises_weaker : {X : Type 0} (lt other : X → X → Bool) → ((a b : X) → lt a b ≡ false → other a b ≡ false)
    → (xs : List X) → Rises lt xs → Rises other xs
rises_weaker lt other h [] r = tt
rises_weaker lt other h (x ∷ xs) r =
    (All-weaker (λ y. lt y x ≡ false) (λ y. other y x ≡ false) (λ y k. h y x k) xs r.0, rises_weaker lt other h xs r.1)

-- how two rows of a place stand by a column
abbrev pub row_is_before : List (List (List Value)) → ColRef → ℕ → ℕ → Bool
row_is_before tables at a b =
    is_lt (cell_order (slice_get (row_at tables at.place a) at.column) (slice_get (row_at tables at.place b) at.column))

-- the one key: this column, ascending
abbrev pub by_column : ColRef → List OrderKey
by_column at = record { at = at; descending = false } ∷ []

pub placed_rises : (world : World) (tables : List (List (List Value))) (at : ColRef) → at.place < world.places
    → (rows : List ℕ) → Rises (row_is_before tables at) rows
    → Rises (is_before tables (by_column at)) (map (placed world at.place) rows)
placed_rises world tables at i rows r =
    rises_map (is_before tables (by_column at)) (placed world at.place) rows
    (rises_weaker (row_is_before tables at) (λ a b. is_before tables (by_column at) (placed world at.place a)
    (placed world at.place b)) (λ a b k. stands a b ∙ k) rows r)
  where
    cell : (a : ℕ) → cell_of tables (placed world at.place a) at ≡ slice_get (row_at tables at.place a) at.column
    cell a = ap (λ (row : ℕ). slice_get (row_at tables at.place row) at.column) (placed_there world at.place a i)

    one_key : (o : Ordering) → is_lt (ordering_then o Equal) ≡ is_lt o
    one_key Less = refl
    one_key Equal = refl
    one_key Greater = refl

    stands : (a b : ℕ)
        → is_before tables (by_column at) (placed world at.place a) (placed world at.place b)
        ≡ row_is_before tables at a b
    stands a b =
        one_key (column_order tables at (placed world at.place a) (placed world at.place b))
        ∙ (ap (λ (x : Option Value). is_lt (cell_order x (cell_of tables (placed world at.place b) at))) (cell a)
        ∙ ap (λ (y : Option Value). is_lt (cell_order (slice_get (row_at tables at.place a) at.column) y)) (cell b))
