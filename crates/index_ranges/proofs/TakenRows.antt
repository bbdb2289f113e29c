-- The rows of an IN's values so far, and those of its next value behind them.
use Rattle.std.proofs.Common.{ℕ, zero, suc, ◌≡◌, ◌<◌, ◌≤◌, ◌+◌, ◌-◌, Bool, true, false, not, ◌&&◌, ◌||◌, cond, List, [], ◌∷◌, ◌++◌, length, length-append, get_or, take, drop, ap, subst, sym, ◌∙◌, refl, arith}
use Rattle.std.specs.Prelude.{Option, Some, None, filter, nat_lt, slice_range}
use Rattle.std.specs.Option.{option_map_or}
use Rattle.std.specs.Ordering.{is_eq, is_ge, is_le, is_lt, ordering_reverse}
use Rattle.std.specs.declared.cmp.Ordering.{Ordering}
use Rattle.std.specs.declared.cmp.Ordering.TheVariants.{Less, Equal, Greater}
use Rattle.std.proofs.Math.Bool.{and-false}
use Rattle.std.proofs.Math.Seq.{take-nil}
use Rattle.std.proofs.lemmas.Bool.{false≢true, ltb-false, ltb-true}
use Rattle.std.proofs.lemmas.List.{append-nil, append_assoc, length_push, take_more}
use Rattle.std.proofs.lemmas.List.Elements.{All-append, filter_agree}
use Rattle.std.proofs.lemmas.List.Sums.{count_by-le-length, length-filter}
use Rattle.row_values.specs.Orders.{cell_order, compares, order_between}
use Rattle.row_values.specs.declared.statement.Operand.{Operand}
use Rattle.row_values.specs.declared.statement.Test.{Test}
use Rattle.row_values.specs.declared.statement.Test.TheVariants.{Lt, Le, Gt, Ge, Eq, Between, OneOf}
use Rattle.row_values.specs.declared.values.Value.{Value}
use Rattle.row_values.specs.declared.values.Value.TheVariants.{Int, Text}
use Rattle.row_values.proofs.TotalOrders.{cell_order_total}
use Rattle.csv_tables.specs.Tables.{TableValue, cell_at}
use Rattle.statement_meaning.specs.Conditions.{equals_one, operand_value}
use Rattle.table_index.specs.Indexes.{AreOrdered}
use Rattle.table_index.proofs.Partitions.{Rise, rise}
use Rattle.index_ranges.specs.Ranges.{are_within, is_one_of, rows_between}
use Rattle.index_ranges.specs.Values.{above_count, is_below, is_taken, next_above}
use Rattle.index_ranges.proofs.NextValues.{IsNext, below_up, cells_ranked, fewer_above, next_is, not_itself, nothing_above, same_cell}

-- Two tests of which the second is met by no row before one that meets the first.
none_left : {X : Type 0} (p : X → Bool) (xs : List X) → ((j : ℕ) (d : X) → j < length xs → p (get_or xs j d) ≡ false)
    → filter p xs ≡ []
none_left p [] h = refl
none_left p (x ∷ xs) h =
    rw (h 0 x (omega arith)) (none_left p xs (λ j d l. h (suc j) d (omega (arith, l))))

same_left : {X : Type 0} (p q : X → Bool) (xs : List X) → ((j : ℕ) (d : X) → j < length xs → p (get_or xs j d) ≡ false)
    → filter q xs ≡ filter (λ x. p x || q x) xs
same_left p q [] h = refl
same_left {X = X} p q (x ∷ xs) h =
    let more = same_left p q xs (λ j d l. h (suc j) d (omega (arith, l))) in
    rw (h 0 x (omega arith)) (by_test (q x) more)
  where
    by_test : (b : Bool) → filter q xs ≡ filter (λ x. p x || q x) xs
        → cond b (x ∷ filter q xs) (filter q xs)
        ≡ cond b (x ∷ filter (λ x. p x || q x) xs) (filter (λ x. p x || q x) xs)
    by_test true e = ap (λ (ys : List X). x ∷ ys) e
    by_test false e = e

pub split_filter : {X : Type 0} (p q : X → Bool) (xs : List X)
    → ((i j : ℕ) (d : X) → i ≤ j → j < length xs → q (get_or xs i d) ≡ true → p (get_or xs j d) ≡ false)
    → filter p xs ++ filter q xs ≡ filter (λ x. p x || q x) xs
split_filter p q [] h = refl
split_filter {X = X} p q (x ∷ xs) h =
    by_test (split_filter p q xs (λ i j d le l k. h (suc i) (suc j) d (omega (arith, le)) (omega (arith, l)) k))
    (q x) refl (p x) refl
  where
    by_test : filter p xs ++ filter q xs ≡ filter (λ x. p x || q x) xs → (b : Bool) → q x ≡ b → (a : Bool) → p x ≡ a
        → filter p (x ∷ xs) ++ filter q (x ∷ xs) ≡ filter (λ x. p x || q x) (x ∷ xs)
    by_test more true e a f =
        let none = none_left p (x ∷ xs) (λ j d l. h 0 j d (omega arith) l e) in
        ap (λ (ys : List X). ys ++ filter q (x ∷ xs)) none
        ∙ same_left p q (x ∷ xs) (λ j d l. h 0 j d (omega arith) l e)
    by_test more false e true f = rw (e, f) (ap (λ (ys : List X). x ∷ ys) more)
    by_test more false e false f = rw (e, f) more

-- A cell lies between a value and itself where it equals it.
pub between_is_equal : (cell : Option Value) (v : Value)
    → (compares is_ge cell (Some v) && compares is_le cell (Some v)) ≡ compares is_eq cell (Some v)
between_is_equal cell v = by_order (order_between cell (Some v))
  where
    by_order : (o : Option Ordering)
        → (option_map_or is_ge o false && option_map_or is_le o false) ≡ option_map_or is_eq o false
    by_order None = refl
    by_order (Some Less) = refl
    by_order (Some Equal) = refl
    by_order (Some Greater) = refl

-- values that tie are equal
tie : (v : Value) (cell : Option Value) → cell_order (Some v) cell ≡ Equal → compares is_eq cell (Some v) ≡ true
tie v None e = cc
tie (Int a) (Some (Int b)) e =
    ap is_eq (cell_order_total.antisymm (Some (Int b)) (Some (Int a)) ∙ ap ordering_reverse e)
tie (Text a) (Some (Text b)) e =
    ap is_eq (cell_order_total.antisymm (Some (Text b)) (Some (Text a)) ∙ ap ordering_reverse e)
tie (Int a) (Some (Text b)) e = cc
tie (Text a) (Some (Int b)) e = cc

-- a cell that isn't below a value and doesn't equal it is above it
above_else : (v : Value) (cell : Option Value) → is_below cell (Some v) ≡ false → compares is_eq cell (Some v) ≡ false
    → is_below (Some v) cell ≡ true
above_else v cell low other = by_order (cell_order (Some v) cell) refl
  where
    by_order : (o : Ordering) → cell_order (Some v) cell ≡ o → is_lt o ≡ true
    by_order Less e = refl
    by_order Equal e = absurd (false≢true (sym other ∙ tie v cell e))
    by_order Greater e =
        let back : cell_order cell (Some v) ≡ Less =
        cell_order_total.antisymm cell (Some v) ∙ ap ordering_reverse e in
        absurd (false≢true (sym low ∙ ap is_lt back))

taken_by_tests : (one high same above : Bool) → (same ≡ true → one ≡ true) → (same ≡ true → above ≡ false)
    → (high ≡ false → above ≡ false) → (one ≡ true → high ≡ true → same ≡ false → above ≡ true)
    → ((one && not high) || same) ≡ (one && not above)
taken_by_tests false high true above a b c d = absurd (false≢true (a refl))
taken_by_tests false high false above a b c d = refl
taken_by_tests true high true true a b c d = absurd (false≢true (sym (b refl)))
taken_by_tests true true true false a b c d = refl
taken_by_tests true false true false a b c d = refl
taken_by_tests true true false true a b c d = refl
taken_by_tests true true false false a b c d = absurd (false≢true (d refl refl refl))
taken_by_tests true false false true a b c d = absurd (false≢true (sym (c refl)))
taken_by_tests true false false false a b c d = refl

module _ (args : List Value) (last : Option Value) (operands : List Operand) (v : Value)
    (next : IsNext args last operands v) where
  low_stays : (cell : Option Value) → is_below last cell ≡ false → (t : Bool) → is_below (Some v) cell ≡ t → t ≡ false
  low_stays cell low true h =
      absurd (false≢true (sym low ∙ below_up last (Some v) cell next.above (cells_ranked.one_way (Some v) cell h)))
  low_stays cell low false h = refl

  -- what is taken up to the next value: what was taken before, and what equals it
  pub taken_more : (cell : Option Value)
      → (is_taken args last operands cell || compares is_eq cell (Some v)) ≡ is_taken args (Some v) operands cell
  taken_more cell =
      taken_by_tests (equals_one args cell operands) (is_below last cell) (compares is_eq cell (Some v))
      (is_below (Some v) cell)
      (λ e. ap (λ (c : Option Value). equals_one args c operands) (same_cell cell (Some v) e) ∙ next.among)
      (λ e. ap (is_below (Some v)) (same_cell cell (Some v) e) ∙ not_itself (Some v))
      (λ e. low_stays cell e (is_below (Some v) cell) refl)
      (λ one high other. above_else v cell (next.least cell one high) other)

  -- in the order of an index the rows of the next value stand behind those that were taken
  pub rows_taken : (table : TableValue) (column : ℕ) (rows : List ℕ) → AreOrdered table column rows
      → filter (λ row. is_taken args last operands (cell_at table row column)) rows
      ++ filter (λ row. compares is_ge (cell_at table row column) (Some v)
      && compares is_le (cell_at table row column) (Some v)) rows
      ≡ filter (λ row. is_taken args (Some v) operands (cell_at table row column)) rows
  rows_taken table column rows ordered =
      ap (λ (ys : List ℕ). filter (λ row. is_taken args last operands (cell_at table row column)) rows ++ ys)
      (filter_agree _ _ (λ row. between_is_equal (cell_at table row column) v) rows)
      ∙ (split_filter (λ row. is_taken args last operands (cell_at table row column))
      (λ row. compares is_eq (cell_at table row column) (Some v)) rows behind
      ∙ filter_agree _ _ (λ row. taken_more (cell_at table row column)) rows)
    where
      up : Rise table column rows
      up = rise table column rows ordered

      behind : (i j d : ℕ) → i ≤ j → j < length rows
          → compares is_eq (cell_at table (get_or rows i d) column) (Some v) ≡ true
          → is_taken args last operands (cell_at table (get_or rows j d) column) ≡ false
      behind i j d le l same =
          let high : is_below last (cell_at table (get_or rows j d) column) ≡ true =
          below_up last (Some v) (cell_at table (get_or rows j d) column) next.above
          (sym (ap (is_below (cell_at table (get_or rows j d) column))
          (same_cell (cell_at table (get_or rows i d) column) (Some v) same)) ∙ up.up i j d le l) in
          ap (λ (b : Bool). equals_one args (cell_at table (get_or rows j d) column) operands && not b) high
          ∙ and-false (equals_one args (cell_at table (get_or rows j d) column) operands)

-- At first nothing is taken.
equals_none : (args : List Value) (operands : List Operand) → equals_one args None operands ≡ false
equals_none args [] = refl
equals_none args (a ∷ operands) = equals_none args operands

none_taken : (args : List Value) (operands : List Operand) (cell : Option Value)
    → is_taken args None operands cell ≡ false
none_taken args operands None = rw (equals_none args operands) refl
none_taken args operands (Some w) = and-false (equals_one args (Some w) operands)

pub nothing_taken : (args : List Value) (operands : List Operand) (table : TableValue) (column : ℕ) (rows : List ℕ)
    → [] ≡ filter (λ row. is_taken args None operands (cell_at table row column)) rows
nothing_taken args operands table column rows = sym (none_left _ rows (λ j d l. none_taken args operands _))

-- At last all is taken.
pub all_taken : (args : List Value) (last : Option Value) (operands : List Operand)
    → next_above args last operands ≡ None → (table : TableValue) (column : ℕ) (rows : List ℕ)
    → filter (λ row. is_taken args last operands (cell_at table row column)) rows
    ≡ filter (λ row. equals_one args (cell_at table row column) operands) rows
all_taken args last operands e table column rows =
    filter_agree _ _ (λ row. by_tests (equals_one args (cell_at table row column) operands)
    (is_below last (cell_at table row column)) (nothing_above args last operands e (cell_at table row column))) rows
  where
    by_tests : (one high : Bool) → (one ≡ true → high ≡ false) → (one && not high) ≡ one
    by_tests true true h = absurd (false≢true (sym (h refl)))
    by_tests true false h = refl
    by_tests false high h = refl

-- A range that is put behind the others.
between-append : (rows : List ℕ) (ranges : List (ℕ × ℕ)) (range : ℕ × ℕ)
    → rows_between rows (ranges ++ range ∷ []) ≡ rows_between rows ranges ++ slice_range rows range.0 range.1
between-append rows [] range = append-nil (slice_range rows range.0 range.1)
between-append rows (first ∷ ranges) range =
    ap (λ (ys : List ℕ). slice_range rows first.0 first.1 ++ ys) (between-append rows ranges range)
    ∙ sym (append_assoc (slice_range rows first.0 first.1) (rows_between rows ranges) (slice_range rows range.0 range.1))

pub rows_pushed : (rows : List ℕ) (ranges new : List (ℕ × ℕ)) (range : ℕ × ℕ)
    → new ≡ cond (nat_lt range.0 range.1) (ranges ++ range ∷ []) ranges
    → rows_between rows new ≡ rows_between rows ranges ++ slice_range rows range.0 range.1
rows_pushed rows ranges new range e = ap (rows_between rows) e ∙ by_test (nat_lt range.0 range.1) refl
  where
    by_test : (b : Bool) → nat_lt range.0 range.1 ≡ b
        → rows_between rows (cond b (ranges ++ range ∷ []) ranges)
        ≡ rows_between rows ranges ++ slice_range rows range.0 range.1
    by_test true h = between-append rows ranges range
    by_test false h =
        let none : slice_range rows range.0 range.1 ≡ [] =
        let size : range.1 - range.0 ≡ 0 = omega (arith, ltb-false range.0 range.1 h) in
        ap (λ (n : ℕ). take n (drop range.0 rows)) size in
        rw none (sym (append-nil (rows_between rows ranges)))

one_within : (count : ℕ) (range : ℕ × ℕ) → range.0 < range.1 → range.1 ≤ count → are_within count (range ∷ [])
one_within count range some end zero d l = (some, end)
one_within count range some end (suc k) d l = absurd (omega (arith, l))

within_pushed : (count : ℕ) (ranges new : List (ℕ × ℕ)) (range : ℕ × ℕ)
    → new ≡ cond (nat_lt range.0 range.1) (ranges ++ range ∷ []) ranges → range.1 ≤ count → are_within count ranges
    → are_within count new
within_pushed count ranges new range e end w = by_test (nat_lt range.0 range.1) refl
  where
    by_test : (b : Bool) → nat_lt range.0 range.1 ≡ b → are_within count new
    by_test true h =
        subst (are_within count) (sym (e ∙ ap (λ (b : Bool). cond b (ranges ++ range ∷ []) ranges) h))
        (All-append (λ (r : ℕ × ℕ). (r.0 < r.1) × (r.1 ≤ count)) ranges (range ∷ []) w
        (one_within count range (ltb-true range.0 range.1 h) end))
    by_test false h =
        subst (are_within count) (sym (e ∙ ap (λ (b : Bool). cond b (ranges ++ range ∷ []) ranges) h)) w

one_longer : (ranges new : List (ℕ × ℕ)) (range : ℕ × ℕ)
    → new ≡ cond (nat_lt range.0 range.1) (ranges ++ range ∷ []) ranges → length new ≤ length ranges + 1
one_longer ranges new range e = by_test (nat_lt range.0 range.1) refl
  where
    by_test : (b : Bool) → nat_lt range.0 range.1 ≡ b → length new ≤ length ranges + 1
    by_test true h =
        let size : length new ≡ length ranges + 1 =
        ap length (e ∙ ap (λ (b : Bool). cond b (ranges ++ range ∷ []) ranges) h) ∙ length_push ranges range in
        omega (arith, size)
    by_test false h =
        let size : length new ≡ length ranges =
        ap length (e ∙ ap (λ (b : Bool). cond b (ranges ++ range ∷ []) ranges) h) in
        omega (arith, size)

-- what stands after each value: the rows of the values so far, in ranges, and room for those of the values above
pub record AreTaken (args : List Value) (last : Option Value) (operands : List Operand) (table : TableValue)
    (column : ℕ) (rows : List ℕ) (ranges : List (ℕ × ℕ)) : Type 0 where
  pub rows_are : rows_between rows ranges
      ≡ filter (λ row. is_taken args last operands (cell_at table row column)) rows
  pub within : are_within (length rows) ranges
  pub room : length ranges + above_count args last operands ≤ length operands

pub taken_first : (args : List Value) (operands : List Operand) (table : TableValue) (column : ℕ) (rows : List ℕ)
    (ranges : List (ℕ × ℕ)) → ranges ≡ [] → AreTaken args None operands table column rows ranges
taken_first args operands table column rows ranges e = record {
  rows_are = ap (rows_between rows) e ∙ nothing_taken args operands table column rows;
  within = subst (are_within (length rows)) (sym e) (λ k d l. absurd (omega (arith, l)));
  room =
      omega (
        arith,
        ap length e,
        length-filter (λ a. is_below None (operand_value args a)) operands,
        count_by-le-length (λ a. is_below None (operand_value args a)) operands,
      );
}

pub taken_next : (args : List Value) (last : Option Value) (operands : List Operand) (table : TableValue) (column : ℕ)
    (rows : List ℕ) (ranges new : List (ℕ × ℕ)) (range : ℕ × ℕ) (v : Value)
    → AreOrdered table column rows → next_above args last operands ≡ Some v
    → slice_range rows range.0 range.1
    ≡ filter (λ row. compares is_ge (cell_at table row column) (Some v)
    && compares is_le (cell_at table row column) (Some v)) rows
    → range.1 ≤ length rows → new ≡ cond (nat_lt range.0 range.1) (ranges ++ range ∷ []) ranges
    → AreTaken args last operands table column rows ranges → AreTaken args (Some v) operands table column rows new
taken_next args last operands table column rows ranges new range v ordered e here end pushed t =
    let next = next_is args last operands v e in
    record {
      rows_are =
          rows_pushed rows ranges new range pushed
          ∙ (ap (λ (ys : List ℕ). ys ++ slice_range rows range.0 range.1) t.rows_are
          ∙ (ap (λ (ys : List ℕ). filter (λ row. is_taken args last operands (cell_at table row column)) rows ++ ys) here
          ∙ rows_taken args last operands v next table column rows ordered));
      within = within_pushed (length rows) ranges new range pushed end t.within;
      room =
          omega (arith, t.room, one_longer ranges new range pushed, fewer_above args last v next.above operands next.among);
    }

pub fewer_left : (args : List Value) (last : Option Value) (operands : List Operand) (v : Value)
    → next_above args last operands ≡ Some v → above_count args (Some v) operands + 1 ≤ above_count args last operands
fewer_left args last operands v e =
    let next = next_is args last operands v e in fewer_above args last v next.above operands next.among

-- Counting: the ranges so far hold at most as many rows as all of them, and these at most as many as there are.
pub one_more_range : (rows : List ℕ) (ranges : List (ℕ × ℕ)) (i : ℕ) (d : ℕ × ℕ) → i < length ranges
    → length (rows_between rows (take (i + 1) ranges))
    ≡ length (rows_between rows (take i ranges))
    + length (slice_range rows (get_or ranges i d).0 (get_or ranges i d).1)
one_more_range rows ranges i d inside =
    ap (λ (rs : List (ℕ × ℕ)). length (rows_between rows rs)) (take_more ranges i d inside)
    ∙ (ap length (between-append rows (take i ranges) (get_or ranges i d))
    ∙ length-append (rows_between rows (take i ranges))
    (slice_range rows (get_or ranges i d).0 (get_or ranges i d).1))

some_of_all : (rows : List ℕ) (ranges : List (ℕ × ℕ)) (i : ℕ)
    → length (rows_between rows (take i ranges)) ≤ length (rows_between rows ranges)
some_of_all rows [] i = rw (take-nil i) (omega arith)
some_of_all rows (range ∷ ranges) zero = omega arith
some_of_all rows (range ∷ ranges) (suc i) =
    omega (
      arith,
      some_of_all rows ranges i,
      length-append (slice_range rows range.0 range.1) (rows_between rows (take i ranges)),
      length-append (slice_range rows range.0 range.1) (rows_between rows ranges),
    )

pub no_more_than_rows : (p : ℕ → Bool) (rows : List ℕ) (ranges : List (ℕ × ℕ)) (i : ℕ)
    → rows_between rows ranges ≡ filter p rows → length (rows_between rows (take i ranges)) ≤ length rows
no_more_than_rows p rows ranges i e =
    omega (arith, some_of_all rows ranges i, ap length e, length-filter p rows, count_by-le-length p rows)

pub counted_more : (p : ℕ → Bool) (rows now : List ℕ) (ranges items : List (ℕ × ℕ)) (i count : ℕ) (d : ℕ × ℕ)
    → now ≡ rows → items ≡ ranges → rows_between rows ranges ≡ filter p rows → i < length items
    → count ≡ length (rows_between rows (take i items))
    → (count + length (slice_range now (get_or items i d).0 (get_or items i d).1)
    ≡ length (rows_between rows (take (i + 1) items)))
    × (length (rows_between rows (take (i + 1) items)) ≤ length now)
counted_more p rows now ranges items i count d same_rows same_ranges e inside so_far =
    let more = one_more_range rows items i d inside in
    let here : count + length (slice_range now (get_or items i d).0 (get_or items i d).1)
    ≡ length (rows_between rows (take i items)) + length (slice_range rows (get_or items i d).0 (get_or items i d).1) =
    ap (λ (n : ℕ). n + length (slice_range now (get_or items i d).0 (get_or items i d).1)) so_far
    ∙ ap (λ (rs : List ℕ). length (rows_between rows (take i items))
    + length (slice_range rs (get_or items i d).0 (get_or items i d).1)) same_rows in
    let few = no_more_than_rows p rows items (i + 1) (ap (rows_between rows) same_ranges ∙ e) in
    (here ∙ sym more, omega (arith, few, ap length same_rows))

pub not_one_of : (test : Test) → ((operands : List Operand) → test ≡ OneOf operands → ⊥) → is_one_of test ≡ false
not_one_of (Lt a) h = refl
not_one_of (Le a) h = refl
not_one_of (Gt a) h = refl
not_one_of (Ge a) h = refl
not_one_of (Eq a) h = refl
not_one_of (Between a b) h = refl
not_one_of (OneOf operands) h = absurd (h operands refl)
