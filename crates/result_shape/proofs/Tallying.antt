-- Tallies as a group begins and grows.
use Rattle.std.proofs.Common.{ℕ, suc, zero, ◌≡◌, ◌<◌, ◌+◌, ◌*◌, ◌^◌, ◌++◌, ℤ, pos, ◌+ℤ◌, ◌≤ℤ◌, Bool, List, []}
use Rattle.std.proofs.Common.{◌∷◌, length, map, cond, ap, ap₂, sym, ◌∙◌, refl, arith, subst, get_or, take}
use Rattle.std.specs.Prelude.{All, Option}
use Rattle.std.specs.Ordering.{is_lt}
use Rattle.std.proofs.lemmas.Int.{ints}
use Rattle.std.proofs.lemmas.List.{length_push, length-map, take_more}
use Rattle.std.proofs.lemmas.List.Elements.{All-nil, All-cons, All-head, All-tail}
use Rattle.row_values.specs.Orders.{cell_order}
use Rattle.row_values.specs.Sorting.{least_of}
use Rattle.row_values.specs.declared.values.Value.{Value}
use Rattle.row_values.specs.declared.statement.ColRef.{ColRef}
use Rattle.row_values.specs.declared.statement.Item.{Item}
use Rattle.row_values.specs.declared.statement.Item.TheVariants.{Column, CountAll, Sum, Min, Max}
use Rattle.plan_operators.specs.Columns.{cell_read, cell_seen}
use Rattle.statement_meaning.specs.Meaning.{Shown, Total, cell_of, number_in, shown_cell, shown_item, shown_row}
use Rattle.statement_meaning.proofs.AnyOrder.{least_more, sum_more}
use Rattle.result_shape.specs.Tallies.{AreTalliesOf, HasRoom, IsReadyItem, IsRowOf, IsSumOf, IsTallyOf, cell_at, column_in}
use Rattle.result_shape.specs.Tallies.{tally_shown, tallies_shown}
use Rattle.result_shape.specs.declared.tallies.ReadyItem.{ReadyItem}
use Rattle.result_shape.specs.declared.tallies.Tally.{Tally}
use Rattle.result_shape.specs.declared.tallies.Tally.TheVariants.{Number, Cell}

-- a map over a list with one more element, and over one more of its elements
pub map_snoc : {X Y : Type 0} (f : X → Y) (xs : List X) (x : X) → map f (xs ++ x ∷ []) ≡ map f xs ++ f x ∷ []
map_snoc f [] x = refl
map_snoc {Y = Y} f (y ∷ ys) x = ap (λ (zs : List Y). f y ∷ zs) (map_snoc f ys x)

pub map_more : {X Y : Type 0} (f : X → Y) (xs : List X) (i : ℕ) (d : X) → i < length xs
    → map f (take (i + 1) xs) ≡ map f (take i xs) ++ f (get_or xs i d) ∷ []
map_more f xs i d l = ap (map f) (take_more xs i d l) ∙ map_snoc f (take i xs) (get_or xs i d)

-- the cell that a combination has in the column of an item
pub seen : (tables : List (List (List Value))) (ready : ReadyItem) → IsReadyItem tables ready → (c : List ℕ)
    → cell_seen ready.column c ≡ cell_of tables c (column_in ready.item)
seen tables ready r c =
    r.cells (get_or c ready.column.place 0)
    ∙ ap (λ (place : ℕ). cell_at tables (column_in ready.item) (get_or c place 0)) r.place

-- A sum.

pub sum_begins : (number : ℤ) (cell : Option Value) → number ≡ number_in cell
    → pos 0 ≤ℤ (number +ℤ pos (2 ^ 63)) → number ≤ℤ pos (2 ^ 63) → IsSumOf number (cell ∷ [])
sum_begins number cell e l h = record {
  sum = e ∙ plus_zero (number_in cell);
  low = omega (arith, ints, l);
  high = omega (arith, ints, h);
}
  where
    plus_zero : (n : ℤ) → n ≡ (n +ℤ pos 0)
    plus_zero n = omega (arith, ints)

pub sum_goes_on : (number more : ℤ) (cells : List (Option Value)) (cell : Option Value) → IsSumOf number cells
    → more ≡ number_in cell → pos 0 ≤ℤ (more +ℤ pos (2 ^ 63)) → more ≤ℤ pos (2 ^ 63)
    → IsSumOf (number +ℤ more) (cells ++ cell ∷ [])
sum_goes_on number more cells cell s e l h = record {
  sum = ap₂ (λ (a : ℤ) (b : ℤ). a +ℤ b) s.sum e ∙ sym (sum_more cells cell);
  low =
      subst (λ (n : ℕ). pos 0 ≤ℤ ((number +ℤ more) +ℤ pos (n * 2 ^ 63))) (sym (length_push cells cell))
      (low_of (length cells) s.low);
  high =
      subst (λ (n : ℕ). (number +ℤ more) ≤ℤ pos (n * 2 ^ 63)) (sym (length_push cells cell))
      (high_of (length cells) s.high);
}
  where
    low_of : (n : ℕ) → pos 0 ≤ℤ (number +ℤ pos (n * 2 ^ 63))
        → pos 0 ≤ℤ ((number +ℤ more) +ℤ pos ((n + 1) * 2 ^ 63))
    low_of n k = omega (arith, ints, l, k)

    high_of : (n : ℕ) → number ≤ℤ pos (n * 2 ^ 63) → (number +ℤ more) ≤ℤ pos ((n + 1) * 2 ^ 63)
    high_of n k = omega (arith, ints, h, k)

-- A least cell: the lesser of the least so far and one more.
pub least_goes_on : (lt : Option Value → Option Value → Bool) (f : List ℕ → Option Value) (first : Option Value)
    (members : List (List ℕ)) (c : List ℕ) (kept cell made : Option Value)
    → kept ≡ least_of lt first (map f members) → cell ≡ f c → made ≡ cond (lt cell kept) cell kept
    → made ≡ least_of lt first (map f (members ++ c ∷ []))
least_goes_on lt f first members c kept cell made k e m =
    m
    ∙ (ap₂ (λ (a : Option Value) (b : Option Value). cond (lt a b) a b) e k
    ∙ (sym (least_more lt first (map f members) (f c))
    ∙ ap (least_of lt first) (sym (map_snoc f members c))))

-- What tallies show.

shown_there : (tables : List (List (List Value))) (at of : ColRef) (row : ℕ) (cell : Option Value)
    → IsRowOf tables at of row cell → tally_shown tables (Cell of row) ≡ shown_cell cell
shown_there tables at of row cell r =
    ap (λ (column : ColRef). shown_cell (cell_at tables column row)) r.column ∙ ap shown_cell r.value

count_room : (number : ℤ) (count : ℕ) → number ≡ pos count → count < 2 ^ 63 → HasRoom (Number number)
count_room number count e few = (
  subst (λ (n : ℤ). pos 0 ≤ℤ (n +ℤ pos (2 ^ 126))) (sym e) (omega (arith, ints)),
  subst (λ (n : ℤ). n ≤ℤ pos (2 ^ 126)) (sym e) (omega (arith, ints, few)),
)

sum_room : (number : ℤ) (cells : List (Option Value)) → IsSumOf number cells → length cells < 2 ^ 63
    → HasRoom (Number number)
sum_room number cells s few = (low_of (length cells) s.low few, high_of (length cells) s.high few)
  where
    low_of : (n : ℕ) → pos 0 ≤ℤ (number +ℤ pos (n * 2 ^ 63)) → n < 2 ^ 63 → pos 0 ≤ℤ (number +ℤ pos (2 ^ 126))
    low_of n k few = omega (arith, ints, k, few)

    high_of : (n : ℕ) → number ≤ℤ pos (n * 2 ^ 63) → n < 2 ^ 63 → number ≤ℤ pos (2 ^ 126)
    high_of n k few = omega (arith, ints, k, few)

tally_is : (tables : List (List (List Value))) (first : List ℕ) (members : List (List ℕ)) (item : Item) (tally : Tally)
    → IsTallyOf tables first members item tally → tally_shown tables tally ≡ shown_item tables first members item
tally_is tables first members (Column at) (Cell of row) t = shown_there tables at of row (cell_of tables first at) t
tally_is tables first members (Column at) (Number number) t = absurd t
tally_is tables first members CountAll (Number number) t = ap (λ (n : ℤ). Total n) t
tally_is tables first members CountAll (Cell of row) t = absurd t
tally_is tables first members (Sum at) (Number number) t = ap (λ (n : ℤ). Total n) t.sum
tally_is tables first members (Sum at) (Cell of row) t = absurd t
tally_is tables first members (Min at) (Cell of row) t = shown_there tables at of row _ t
tally_is tables first members (Min at) (Number number) t = absurd t
tally_is tables first members (Max at) (Cell of row) t = shown_there tables at of row _ t
tally_is tables first members (Max at) (Number number) t = absurd t

-- the tallies of a group show its row
pub tallies_are : (tables : List (List (List Value))) (first : List ℕ) (members : List (List ℕ)) (items : List Item)
    (tallies : List Tally)
    → AreTalliesOf tables first members items tallies
    → tallies_shown tables tallies ≡ shown_row tables items members first
tallies_are tables first members [] [] a = refl
tallies_are tables first members [] (tally ∷ tallies) a = absurd (omega (arith, a.count))
tallies_are tables first members (item ∷ items) [] a = absurd (omega (arith, a.count))
tallies_are tables first members (item ∷ items) (tally ∷ tallies) a =
    ap₂ (λ (shown : Shown) (rest : List Shown). shown ∷ rest)
    (tally_is tables first members item tally (a.each 0 item tally (omega arith)))
    (tallies_are tables first members items tallies record {
      count = omega (arith, a.count);
      each = λ k d e l. a.each (suc k) d e (omega (arith, l));
    })

-- The room of a tally.

pub tally_room : (tables : List (List (List Value))) (first : List ℕ) (members : List (List ℕ)) (item : Item)
    (tally : Tally)
    → IsTallyOf tables first members item tally → length members < 2 ^ 63 → HasRoom tally
tally_room tables first members (Column at) (Cell of row) t few = tt
tally_room tables first members (Column at) (Number number) t few = absurd t
tally_room tables first members CountAll (Number number) t few = count_room number (length members) t few
tally_room tables first members CountAll (Cell of row) t few = absurd t
tally_room tables first members (Sum at) (Number number) t few =
    sum_room number (map (λ m. cell_of tables m at) members) t
    (subst (λ (n : ℕ). n < 2 ^ 63) (sym (length-map members (λ m. cell_of tables m at))) few)
tally_room tables first members (Sum at) (Cell of row) t few = absurd t
tally_room tables first members (Min at) (Cell of row) t few = tt
tally_room tables first members (Min at) (Number number) t few = absurd t
tally_room tables first members (Max at) (Cell of row) t few = tt
tally_room tables first members (Max at) (Number number) t few = absurd t

-- fewer than 2 ^ 63 members leave room in each tally
pub tallies_room : (tables : List (List (List Value))) (first : List ℕ) (members : List (List ℕ)) (items : List Item)
    (tallies : List Tally)
    → AreTalliesOf tables first members items tallies → length members < 2 ^ 63 → All HasRoom tallies
tallies_room tables first members [] [] a few = All-nil HasRoom
tallies_room tables first members [] (tally ∷ tallies) a few = absurd (omega (arith, a.count))
tallies_room tables first members (item ∷ items) [] a few = absurd (omega (arith, a.count))
tallies_room tables first members (item ∷ items) (tally ∷ tallies) a few =
    All-cons HasRoom tally tallies
    (tally_room tables first members item tally (a.each 0 item tally (omega arith)) few)
    (tallies_room tables first members items tallies record {
      count = omega (arith, a.count);
      each = λ k d e l. a.each (suc k) d e (omega (arith, l));
    } few)

-- A group takes a combination in, tally by tally.

seen_in : (tables : List (List (List Value))) (ready : ReadyItem) (item : Item) → ready.item ≡ item
    → IsReadyItem tables ready → (c : List ℕ) → cell_seen ready.column c ≡ cell_of tables c (column_in item)
seen_in tables ready item e r c = seen tables ready r c ∙ ap (λ (item : Item). cell_of tables c (column_in item)) e

read_in : (tables : List (List (List Value))) (ready : ReadyItem) (item : Item) → ready.item ≡ item
    → IsReadyItem tables ready → (row : ℕ) → cell_read ready.column.cells row ≡ cell_at tables (column_in item) row
read_in tables ready item e r row = r.cells row ∙ ap (λ (item : Item). cell_at tables (column_in item) row) e

pub sum_taken : (ready : ReadyItem) (at : ColRef) (c : List ℕ) (number more made : ℤ) → ready.item ≡ Sum at
    → more ≡ number_in (cell_seen ready.column c) → pos 0 ≤ℤ (more +ℤ pos (2 ^ 63)) → more ≤ℤ pos (2 ^ 63)
    → made ≡ (number +ℤ more)
    → (tables : List (List (List Value))) (first : List ℕ) (members : List (List ℕ)) → IsReadyItem tables ready
    → IsTallyOf tables first members ready.item (Number number)
    → IsTallyOf tables first (members ++ c ∷ []) ready.item (Number made)
sum_taken ready at c number more made e m l h s tables first members r t =
    subst (λ (item : Item). IsTallyOf tables first (members ++ c ∷ []) item (Number made)) (sym e)
    (subst (λ (n : ℤ). IsSumOf n (map f (members ++ c ∷ []))) (sym s)
    (subst (λ (cells : List (Option Value)). IsSumOf (number +ℤ more) cells) (sym (map_snoc f members c))
    (sum_goes_on number more (map f members) (f c)
    (subst (λ (item : Item). IsTallyOf tables first members item (Number number)) e t)
    (m ∙ ap number_in (seen_in tables ready (Sum at) e r c)) l h)))
  where
    f : List ℕ → Option Value
    f member = cell_of tables member at

least_taken : (lt : Option Value → Option Value → Bool) (tables : List (List (List Value))) (ready : ReadyItem)
    (item : Item) (at of : ColRef) (c : List ℕ) (row other made : ℕ) → column_in item ≡ at → ready.item ≡ item
    → other ≡ get_or c ready.column.place 0
    → cell_read ready.column.cells made
    ≡ cond (lt (cell_read ready.column.cells other) (cell_read ready.column.cells row))
    (cell_read ready.column.cells other) (cell_read ready.column.cells row)
    → (first : Option Value) (members : List (List ℕ)) → IsReadyItem tables ready
    → IsRowOf tables at of row (least_of lt first (map (λ m. cell_of tables m at) members))
    → IsRowOf tables at of made (least_of lt first (map (λ m. cell_of tables m at) (members ++ c ∷ [])))
least_taken lt tables ready item at of c row other made i e o m first members r t = record {
  column = t.column;
  value =
      sym (there made)
      ∙ least_goes_on lt (λ m. cell_of tables m at) first members c (cell_read ready.column.cells row)
      (cell_read ready.column.cells other) (cell_read ready.column.cells made) (there row ∙ t.value)
      (ap (cell_read ready.column.cells) o
      ∙ (seen_in tables ready item e r c ∙ ap (λ (column : ColRef). cell_of tables c column) i)) m;
}
  where
    there : (n : ℕ) → cell_read ready.column.cells n ≡ cell_at tables at n
    there n = read_in tables ready item e r n ∙ ap (λ (column : ColRef). cell_at tables column n) i

pub min_taken : (ready : ReadyItem) (at of : ColRef) (c : List ℕ) (row other made : ℕ) → ready.item ≡ Min at
    → other ≡ get_or c ready.column.place 0
    → cell_read ready.column.cells made
    ≡ cond (is_lt (cell_order (cell_read ready.column.cells other) (cell_read ready.column.cells row)))
    (cell_read ready.column.cells other) (cell_read ready.column.cells row)
    → (tables : List (List (List Value))) (first : List ℕ) (members : List (List ℕ)) → IsReadyItem tables ready
    → IsTallyOf tables first members ready.item (Cell of row)
    → IsTallyOf tables first (members ++ c ∷ []) ready.item (Cell of made)
min_taken ready at of c row other made e o m tables first members r t =
    subst (λ (item : Item). IsTallyOf tables first (members ++ c ∷ []) item (Cell of made)) (sym e)
    (least_taken (λ a b. is_lt (cell_order a b)) tables ready (Min at) at of c row other made refl e o m
    (cell_of tables first at) members r
    (subst (λ (item : Item). IsTallyOf tables first members item (Cell of row)) e t))

pub max_taken : (ready : ReadyItem) (at of : ColRef) (c : List ℕ) (row other made : ℕ) → ready.item ≡ Max at
    → other ≡ get_or c ready.column.place 0
    → cell_read ready.column.cells made
    ≡ cond (is_lt (cell_order (cell_read ready.column.cells row) (cell_read ready.column.cells other)))
    (cell_read ready.column.cells other) (cell_read ready.column.cells row)
    → (tables : List (List (List Value))) (first : List ℕ) (members : List (List ℕ)) → IsReadyItem tables ready
    → IsTallyOf tables first members ready.item (Cell of row)
    → IsTallyOf tables first (members ++ c ∷ []) ready.item (Cell of made)
max_taken ready at of c row other made e o m tables first members r t =
    subst (λ (item : Item). IsTallyOf tables first (members ++ c ∷ []) item (Cell of made)) (sym e)
    (least_taken (λ a b. is_lt (cell_order b a)) tables ready (Max at) at of c row other made refl e o m
    (cell_of tables first at) members r
    (subst (λ (item : Item). IsTallyOf tables first members item (Cell of row)) e t))

-- Lists of tallies.

tallies_cons : (tables : List (List (List Value))) (first : List ℕ) (members : List (List ℕ)) (item : Item)
    (items : List Item) (tally : Tally) (tallies : List Tally)
    → IsTallyOf tables first members item tally → AreTalliesOf tables first members items tallies
    → AreTalliesOf tables first members (item ∷ items) (tally ∷ tallies)
tallies_cons tables first members item items tally tallies t a = record {
  count = omega (arith, a.count);
  each = by_place;
}
  where
    by_place : (k : ℕ) (d : Item) (e : Tally) → k < length (item ∷ items)
        → IsTallyOf tables first members (get_or (item ∷ items) k d) (get_or (tally ∷ tallies) k e)
    by_place zero d e l = t
    by_place (suc k) d e l = a.each k d e (omega (arith, l))

tallies_tail : (tables : List (List (List Value))) (first : List ℕ) (members : List (List ℕ)) (item : Item)
    (items : List Item) (tally : Tally) (tallies : List Tally)
    → AreTalliesOf tables first members (item ∷ items) (tally ∷ tallies)
    → AreTalliesOf tables first members items tallies
tallies_tail tables first members item items tally tallies a = record {
  count = omega (arith, a.count);
  each = λ k d e l. a.each (suc k) d e (omega (arith, l));
}

-- one more item at the end
pub tallies_push : (tables : List (List (List Value))) (first : List ℕ) (members : List (List ℕ)) (items : List Item)
    (item : Item) (tallies : List Tally) (tally : Tally)
    → AreTalliesOf tables first members items tallies → IsTallyOf tables first members item tally
    → AreTalliesOf tables first members (items ++ item ∷ []) (tallies ++ tally ∷ [])
tallies_push tables first members [] item [] tally a t = tallies_cons tables first members item [] tally [] t a
tallies_push tables first members [] item (other ∷ tallies) tally a t = absurd (omega (arith, a.count))
tallies_push tables first members (other ∷ items) item [] tally a t = absurd (omega (arith, a.count))
tallies_push tables first members (other ∷ items) item (before ∷ tallies) tally a t =
    tallies_cons tables first members other (items ++ item ∷ []) before (tallies ++ tally ∷ [])
    (a.each 0 other before (omega arith))
    (tallies_push tables first members items item tallies tally
    (tallies_tail tables first members other items before tallies a) t)

-- each tally has taken the combination in
pub all_taken : (tables : List (List (List Value))) (first : List ℕ) (members : List (List ℕ)) (c : List ℕ)
    (items : List ReadyItem) (old new : List Tally) → length new ≡ length old
    → ((k : ℕ) (d : ReadyItem) (e : Tally) → k < length items → (tables : List (List (List Value))) (first : List ℕ)
    (members : List (List ℕ)) → IsReadyItem tables (get_or items k d)
    → IsTallyOf tables first members (get_or items k d).item (get_or old k e)
    → IsTallyOf tables first (members ++ c ∷ []) (get_or items k d).item (get_or new k e))
    → All (IsReadyItem tables) items → AreTalliesOf tables first members (map (λ ready. ready.item) items) old
    → AreTalliesOf tables first (members ++ c ∷ []) (map (λ ready. ready.item) items) new
all_taken tables first members c [] [] [] s m r a = record { count = refl; each = λ k d e l. absurd (omega (arith, l)) }
all_taken tables first members c [] [] (t ∷ new) s m r a = absurd (omega (arith, s))
all_taken tables first members c [] (t ∷ old) new s m r a = absurd (omega (arith, a.count))
all_taken tables first members c (item ∷ items) [] new s m r a = absurd (omega (arith, a.count))
all_taken tables first members c (item ∷ items) (o ∷ old) [] s m r a = absurd (omega (arith, s))
all_taken tables first members c (item ∷ items) (o ∷ old) (n ∷ new) s m r a =
    tallies_cons tables first (members ++ c ∷ []) item.item (map (λ ready. ready.item) items) n new
    (m 0 item o (omega arith) tables first members (All-head (IsReadyItem tables) item items r)
    (a.each 0 item.item o (omega arith)))
    (all_taken tables first members c items old new (omega (arith, s))
    (λ k d e l. m (suc k) d e (omega (arith, l)))
    (All-tail (IsReadyItem tables) item items r)
    (tallies_tail tables first members item.item (map (λ ready. ready.item) items) o old a))

-- one combination alone shows the same by its tally as by the item
pub alone_shown : (tables : List (List (List Value))) (c : List ℕ) (item : Item) (tally : Tally)
    → IsTallyOf tables c (c ∷ []) item tally → tally_shown tables tally ≡ shown_item tables c (c ∷ []) item
alone_shown tables c item tally t = tally_is tables c (c ∷ []) item tally t
