-- The next value of an IN: the least of the operands' values above the last one.
use Rattle.std.proofs.Common.{ℕ, ◌≡◌, ◌≤◌, ◌+◌, ◌⊎◌, inl, inr, Bool, true, false, ◌&&◌, ◌||◌, cond, List, [], ◌∷◌, ap, sym, ◌∙◌, refl, arith}
use Rattle.std.specs.Prelude.{Option, Some, None, filter, is_none, length}
use Rattle.std.specs.Cmp.{IsStrictWeakOrder}
use Rattle.std.specs.Ordering.{is_eq}
use Rattle.std.proofs.Math.Bool.{or-true}
use Rattle.std.proofs.lemmas.Bool.{and_parts, false≢true}
use Rattle.std.proofs.lemmas.List.Sorted.{ranks_by}
use Rattle.row_values.specs.Orders.{compares}
use Rattle.row_values.specs.declared.statement.Operand.{Operand}
use Rattle.row_values.specs.declared.values.Value.{Value}
use Rattle.row_values.proofs.TotalOrders.{cell_order_total}
use Rattle.statement_meaning.specs.Conditions.{equals_one, operand_value}
use Rattle.statement_meaning.proofs.EqualCells.{cells_equal, equal_cells}
use Rattle.index_ranges.specs.Values.{above_count, is_below, next_above, next_from}

-- The order of cells.

pub cells_ranked : IsStrictWeakOrder is_below
cells_ranked = ranks_by cell_order_total (λ (cell : Option Value). cell)

pub not_itself : (a : Option Value) → is_below a a ≡ false
not_itself a = by_test (is_below a a) refl
  where
    by_test : (t : Bool) → is_below a a ≡ t → is_below a a ≡ false
    by_test true e = cells_ranked.one_way a a e
    by_test false e = e

-- what is below a cell is below all that isn't below this one
pub below_up : (a b c : Option Value) → is_below a b ≡ true → is_below c b ≡ false → is_below a c ≡ true
below_up a b c h k = by_test (is_below a c) refl
  where
    by_test : (t : Bool) → is_below a c ≡ t → t ≡ true
    by_test true e = refl
    by_test false e = absurd (false≢true (sym (cells_ranked.chain a c b e k) ∙ h))

none_below : (a : Option Value) → is_below a None ≡ false
none_below None = refl
none_below (Some v) = refl

pub same_cell : (cell value : Option Value) → compares is_eq cell value ≡ true → cell ≡ value
same_cell cell value h = let e = equal_cells cell value h in e.first ∙ sym e.second

pub equals_itself : (v : Value) → compares is_eq (Some v) (Some v) ≡ true
equals_itself v = cells_equal (Some v) (Some v) (record { value = v; first = refl; second = refl })

or_cases : (a b : Bool) → (a || b) ≡ true → (a ≡ true) ⊎ (b ≡ true)
or_cases true b h = inl refl
or_cases false b h = inr h

-- what the value is that was found, where one was found before the operands that are left
record Least (args : List Value) (last before : Option Value) (operands : List Operand) (v : Value) : Type 0 where
  above : is_below last (Some v) ≡ true
  among : (before ≡ Some v) ⊎ (equals_one args (Some v) operands ≡ true)
  least : (cell : Option Value) → equals_one args cell operands ≡ true → is_below last cell ≡ true
      → is_below cell (Some v) ≡ false
  no_more : (n : Value) → before ≡ Some n → is_below (Some n) (Some v) ≡ false

-- a value that is above the last one is there
there : (last value : Option Value) → is_below last value ≡ true → (w : Value) × (value ≡ Some w)
there last None h = absurd (false≢true (sym (none_below last) ∙ h))
there last (Some w) h = (w, refl)

module _ (args : List Value) (last : Option Value) where
  -- the operand's value is taken: it is above the last one and below the one before, if any
  taken : (a : Operand) (before : Option Value) (operands : List Operand) (v : Value)
      → is_below last (operand_value args a) ≡ true
      → (is_none before || is_below (operand_value args a) before) ≡ true
      → Least args last (operand_value args a) operands v → Least args last before (a ∷ operands) v
  taken a before operands v up less l = record {
    above = l.above;
    among = inr (by_place l.among);
    least = λ cell one high. by_operand cell high
        (or_cases (compares is_eq cell (operand_value args a)) (equals_one args cell operands) one);
    no_more = λ n e. below n e (is_below (operand_value args a) (Some n)) refl;
  }
    where
      w : (w : Value) × (operand_value args a ≡ Some w)
      w = there last (operand_value args a) up

      by_place : (operand_value args a ≡ Some v) ⊎ (equals_one args (Some v) operands ≡ true)
          → equals_one args (Some v) (a ∷ operands) ≡ true
      by_place (inl e) =
          rw (ap (compares is_eq (Some v)) e ∙ equals_itself v) refl
      by_place (inr e) = rw (e, or-true (compares is_eq (Some v) (operand_value args a))) refl

      by_operand : (cell : Option Value) → is_below last cell ≡ true
          → (compares is_eq cell (operand_value args a) ≡ true) ⊎ (equals_one args cell operands ≡ true)
          → is_below cell (Some v) ≡ false
      by_operand cell high (inl e) =
          ap (λ (c : Option Value). is_below c (Some v)) (same_cell cell (operand_value args a) e ∙ w.1)
          ∙ l.no_more w.0 w.1
      by_operand cell high (inr e) = l.least cell e high

      below : (n : Value) → before ≡ Some n → (t : Bool) → is_below (operand_value args a) (Some n) ≡ t
          → is_below (Some n) (Some v) ≡ false
      below n e true h =
          cells_ranked.chain (Some n) (operand_value args a) (Some v)
          (cells_ranked.one_way (operand_value args a) (Some n) h)
          (ap (λ (c : Option Value). is_below c (Some v)) w.1 ∙ l.no_more w.0 w.1)
      below n e false h =
          absurd (false≢true (sym (ap (λ (o : Option Value). is_none o || is_below (operand_value args a) o) e ∙ h) ∙ less))

  -- the operand's value is left, since another is less or since it isn't above the last one
  left : (a : Operand) (before : Option Value) (operands : List Operand) (v : Value)
      → (is_below last (operand_value args a) && (is_none before || is_below (operand_value args a) before)) ≡ false
      → Least args last before operands v → Least args last before (a ∷ operands) v
  left a before operands v not_taken l = record {
    above = l.above;
    among = by_place l.among;
    least = λ cell one high. by_operand cell high
        (or_cases (compares is_eq cell (operand_value args a)) (equals_one args cell operands) one);
    no_more = l.no_more;
  }
    where
      by_place : (before ≡ Some v) ⊎ (equals_one args (Some v) operands ≡ true)
          → (before ≡ Some v) ⊎ (equals_one args (Some v) (a ∷ operands) ≡ true)
      by_place (inl e) = inl e
      by_place (inr e) = inr (rw (e, or-true (compares is_eq (Some v) (operand_value args a))) refl)

      not_less : (value before : Option Value) → is_below last value ≡ true
          → (is_below last value && (is_none before || is_below value before)) ≡ false
          → (n : Value) × (before ≡ Some n) × (is_below value (Some n) ≡ false)
      not_less value None up h = absurd (false≢true (sym (sym (ap (λ (b : Bool). b && true) up) ∙ h)))
      not_less value (Some n) up h =
          (n, refl, sym (ap (λ (b : Bool). b && is_below value (Some n)) up) ∙ h)

      by_operand : (cell : Option Value) → is_below last cell ≡ true
          → (compares is_eq cell (operand_value args a) ≡ true) ⊎ (equals_one args cell operands ≡ true)
          → is_below cell (Some v) ≡ false
      by_operand cell high (inl e) =
          let same = same_cell cell (operand_value args a) e in
          let other = not_less (operand_value args a) before
          (sym (ap (is_below last) same) ∙ high) not_taken in
          cells_ranked.chain cell (Some other.0) (Some v)
          (ap (λ (c : Option Value). is_below c (Some other.0)) same ∙ other.2) (l.no_more other.0 other.1)
      by_operand cell high (inr e) = l.least cell e high

  found : (operands : List Operand) (before : Option Value)
      → ((n : Value) → before ≡ Some n → is_below last (Some n) ≡ true) → (v : Value)
      → next_from args last before operands ≡ Some v → Least args last before operands v
  found [] before up v e = record {
    above = up v e;
    among = inl e;
    least = λ cell one high. absurd (false≢true one);
    no_more = λ n at. ap (λ (o : Option Value). is_below o (Some v)) (sym at ∙ e) ∙ not_itself (Some v);
  }
  found (a ∷ operands) before up v e =
      by_test (λ (other : Option Value) (h : (n : Value) → other ≡ Some n → is_below last (Some n) ≡ true)
      (f : next_from args last other operands ≡ Some v). found operands other h v f)
      (is_below last (operand_value args a) && (is_none before || is_below (operand_value args a) before)) refl
    where
      by_test : ((other : Option Value) → ((n : Value) → other ≡ Some n → is_below last (Some n) ≡ true)
          → next_from args last other operands ≡ Some v → Least args last other operands v) → (t : Bool)
          → (is_below last (operand_value args a) && (is_none before || is_below (operand_value args a) before)) ≡ t
          → Least args last before (a ∷ operands) v
      by_test more true h =
          let both = and_parts (is_below last (operand_value args a))
          (is_none before || is_below (operand_value args a) before) h in
          taken a before operands v both.0 both.1
          (more (operand_value args a) (λ n at. sym (ap (is_below last) at) ∙ both.0)
          (sym (ap (λ (b : Bool). next_from args last (cond b (operand_value args a) before) operands) h) ∙ e))
      by_test more false h =
          left a before operands v h
          (more before up
          (sym (ap (λ (b : Bool). next_from args last (cond b (operand_value args a) before) operands) h) ∙ e))

  none_left : (operands : List Operand) (before : Option Value) → next_from args last before operands ≡ None
      → (before ≡ None)
      × ((cell : Option Value) → equals_one args cell operands ≡ true → is_below last cell ≡ false)
  none_left [] before e = (e, λ cell one. absurd (false≢true one))
  none_left (a ∷ operands) before e =
      by_test (λ (other : Option Value) (f : next_from args last other operands ≡ None). none_left operands other f)
      (is_below last (operand_value args a) && (is_none before || is_below (operand_value args a) before)) refl
    where
      alone : (b : Bool) → (b && true) ≡ false → b ≡ false
      alone true h = absurd (false≢true (sym h))
      alone false h = refl

      by_operand : (cell : Option Value) → is_below last (operand_value args a) ≡ false
          → ((other : Option Value) → equals_one args other operands ≡ true → is_below last other ≡ false)
          → (compares is_eq cell (operand_value args a) ≡ true) ⊎ (equals_one args cell operands ≡ true)
          → is_below last cell ≡ false
      by_operand cell low more (inl e) = ap (is_below last) (same_cell cell (operand_value args a) e) ∙ low
      by_operand cell low more (inr e) = more cell e

      by_test : ((other : Option Value) → next_from args last other operands ≡ None → (other ≡ None)
          × ((cell : Option Value) → equals_one args cell operands ≡ true → is_below last cell ≡ false)) → (t : Bool)
          → (is_below last (operand_value args a) && (is_none before || is_below (operand_value args a) before)) ≡ t
          → (before ≡ None)
          × ((cell : Option Value) → equals_one args cell (a ∷ operands) ≡ true → is_below last cell ≡ false)
      by_test rest true h =
          let both = and_parts (is_below last (operand_value args a))
          (is_none before || is_below (operand_value args a) before) h in
          let more = rest (operand_value args a)
          (sym (ap (λ (b : Bool). next_from args last (cond b (operand_value args a) before) operands) h) ∙ e) in
          absurd (false≢true (sym (none_below last) ∙ (sym (ap (is_below last) more.0) ∙ both.0)))
      by_test rest false h =
          let more = rest before
          (sym (ap (λ (b : Bool). next_from args last (cond b (operand_value args a) before) operands) h) ∙ e) in
          let low : is_below last (operand_value args a) ≡ false =
          alone (is_below last (operand_value args a))
          (sym (ap (λ (o : Option Value). is_below last (operand_value args a)
          && (is_none o || is_below (operand_value args a) o)) more.0) ∙ h) in (
            more.0,
            λ cell one. by_operand cell low more.1
                (or_cases (compares is_eq cell (operand_value args a)) (equals_one args cell operands) one),
          )

-- the next value of an IN
pub record IsNext (args : List Value) (last : Option Value) (operands : List Operand) (v : Value) : Type 0 where
  pub above : is_below last (Some v) ≡ true
  pub among : equals_one args (Some v) operands ≡ true
  pub least : (cell : Option Value) → equals_one args cell operands ≡ true → is_below last cell ≡ true
      → is_below cell (Some v) ≡ false

pub next_is : (args : List Value) (last : Option Value) (operands : List Operand) (v : Value)
    → next_above args last operands ≡ Some v → IsNext args last operands v
next_is args last operands v e =
    let l = found args last operands None (λ n at. cc) v e in
    record { above = l.above; among = by_place l.among; least = l.least }
  where
    by_place : (None ≡ Some v) ⊎ (equals_one args (Some v) operands ≡ true) → equals_one args (Some v) operands ≡ true
    by_place (inl at) = cc
    by_place (inr at) = at

pub nothing_above : (args : List Value) (last : Option Value) (operands : List Operand)
    → next_above args last operands ≡ None
    → (cell : Option Value) → equals_one args cell operands ≡ true → is_below last cell ≡ false
nothing_above args last operands e = (none_left args last operands None e).1

abbrev one_if : Bool → ℕ
one_if b = cond b 1 0

-- fewer operands are above the next value than above the last one
module _ (args : List Value) (last : Option Value) (v : Value) (up : is_below last (Some v) ≡ true) where
  above_too : (x : Option Value) → is_below (Some v) x ≡ true → is_below last x ≡ true
  above_too x h = below_up last (Some v) x up (cells_ranked.one_way (Some v) x h)

  no_more_here : (high low : Bool) → (high ≡ true → low ≡ true) → cond high 1 0 ≤ cond low 1 0
  no_more_here true low h = rw (h refl) (omega arith)
  no_more_here false low h = omega arith

  counted : (other : Option Value) (a : Operand) (operands : List Operand)
      → above_count args other (a ∷ operands)
      ≡ cond (is_below other (operand_value args a)) 1 0 + above_count args other operands
  counted other a operands = by_test (is_below other (operand_value args a))
    where
      by_test : (b : Bool)
          → length (cond b (a ∷ filter (λ a. is_below other (operand_value args a)) operands)
          (filter (λ a. is_below other (operand_value args a)) operands))
          ≡ cond b 1 0 + above_count args other operands
      by_test true = omega arith
      by_test false = omega arith

  no_more_above : (operands : List Operand) → above_count args (Some v) operands ≤ above_count args last operands
  no_more_above [] = omega arith
  no_more_above (a ∷ operands) =
      let here = no_more_here (is_below (Some v) (operand_value args a)) (is_below last (operand_value args a))
      (above_too (operand_value args a)) in
      omega (arith, here, no_more_above operands, counted (Some v) a operands, counted last a operands)

  one_fewer : (a : Operand) (operands : List Operand)
      → (equals_one args (Some v) operands ≡ true
      → above_count args (Some v) operands + 1 ≤ above_count args last operands)
      → (compares is_eq (Some v) (operand_value args a) ≡ true) ⊎ (equals_one args (Some v) operands ≡ true)
      → above_count args (Some v) (a ∷ operands) + 1 ≤ above_count args last (a ∷ operands)
  one_fewer a operands more (inl e) =
      let same = same_cell (Some v) (operand_value args a) e in
      let high : one_if (is_below (Some v) (operand_value args a)) ≡ 0 =
      ap (λ (b : Bool). one_if b) (sym (ap (is_below (Some v)) same) ∙ not_itself (Some v)) in
      let low : one_if (is_below last (operand_value args a)) ≡ 1 =
      ap (λ (b : Bool). one_if b) (sym (ap (is_below last) same) ∙ up) in
      omega (arith, high, low, no_more_above operands, counted (Some v) a operands, counted last a operands)
  one_fewer a operands more (inr e) =
      let here = no_more_here (is_below (Some v) (operand_value args a)) (is_below last (operand_value args a))
      (above_too (operand_value args a)) in
      omega (arith, here, more e, counted (Some v) a operands, counted last a operands)

  pub fewer_above : (operands : List Operand) → equals_one args (Some v) operands ≡ true
      → above_count args (Some v) operands + 1 ≤ above_count args last operands
  fewer_above [] h = absurd (false≢true h)
  fewer_above (a ∷ operands) h =
      one_fewer a operands (fewer_above operands)
      (or_cases (compares is_eq (Some v) (operand_value args a)) (equals_one args (Some v) operands) h)
