-- The selectivity vector, predicate by predicate.
use Rattle.std.proofs.Common.{ℕ, zero, suc, ◌≡◌, ◌<◌, ◌≤◌, ◌+◌, ◌++◌, max, true, false, List, [], ◌∷◌, length}
use Rattle.std.proofs.Common.{take, drop, set, get_or, ap, ◌∙◌, sym, refl, arith, add-one, drop-cons}
use Rattle.std.proofs.lemmas.List.{append_assoc}
use Rattle.row_values.specs.declared.values.Value.{Value}
use Rattle.row_values.specs.declared.statement.Pred.{Pred}
use Rattle.row_values.specs.Statements.{is_parameterised, selectivity_count}
use Rattle.statement_meaning.specs.Combinations.{rows_at}
use Rattle.statement_meaning.specs.Vectors.{matching, selectivities}

-- a number put behind those that are known
known_next : (numbers : List ℕ) (known number : ℕ) → known < length numbers
    → take (suc known) (set numbers known number) ≡ take known numbers ++ number ∷ []
known_next [] known number h = absurd (omega (arith, h))
known_next (n ∷ numbers) zero number h = refl
known_next (n ∷ numbers) (suc known) number h =
    ap (λ (ns : List ℕ). n ∷ ns) (known_next numbers known number (omega (arith, h)))

pub known_more : (numbers : List ℕ) (known number : ℕ) → known < length numbers
    → take (known + 1) (set numbers known number) ≡ take known numbers ++ number ∷ []
known_more numbers known number h = rw add-one (known_next numbers known number h)

next_left : (preds : List Pred) (k : ℕ) (pred : Pred) → pred ≡ get_or preds k pred → k < length preds
    → drop k preds ≡ pred ∷ drop (k + 1) preds
next_left preds k pred is h =
    rw add-one (drop-cons preds k pred h ∙ ap (λ (one : Pred). one ∷ drop (suc k) preds) (sym is))

-- the numbers so far, of these predicates, of which so many are left
pub record SoFar (tables : List (List (List Value))) (args : List Value) (preds : List Pred) (k known : ℕ)
    (numbers : List ℕ) : Type 0 where
  pub long : length numbers ≡ 8
  pub room : known + selectivity_count (drop k preds) ≤ 8
  pub value : take known numbers ++ selectivities tables args (drop k preds) ≡ selectivities tables args preds

-- a predicate that is fixed adds nothing
pub passed_over : (tables : List (List (List Value))) (args : List Value) (preds : List Pred) (k known : ℕ) (numbers : List ℕ)
    (pred : Pred)
    → pred ≡ get_or preds k pred → k < length preds → is_parameterised pred ≡ false
    → SoFar tables args preds k known numbers → SoFar tables args preds (k + 1) known numbers
passed_over tables args preds k known numbers pred is h fixed s =
    let left = next_left preds k pred is h in
    record {
      long = s.long;
      room = let room = rw (left, fixed) at s.room in omega (arith, room);
      value = rw (left, fixed) at s.value;
    }

-- a parameterised one adds its count
pub counted : (tables : List (List (List Value))) (args : List Value) (preds : List Pred) (k known : ℕ) (numbers new : List ℕ)
    (pred : Pred) (number : ℕ)
    → pred ≡ get_or preds k pred → k < length preds → is_parameterised pred ≡ true
    → number ≡ max 1 (matching args pred (rows_at tables pred.at.place)) → length new ≡ 8
    → take (known + 1) new ≡ take known numbers ++ number ∷ []
    → SoFar tables args preds k known numbers → SoFar tables args preds (k + 1) (known + 1) new
counted tables args preds k known numbers new pred number is h varies counts long more s =
    let left = next_left preds k pred is h in
    let room = rw (left, varies) at s.room in
    let value = rw (left, varies) at s.value in
    record {
      long = long;
      room = omega (arith, room);
      value =
          ap (λ (ns : List ℕ). ns ++ selectivities tables args (drop (k + 1) preds)) more
          ∙ (append_assoc (take known numbers) (number ∷ []) (selectivities tables args (drop (k + 1) preds))
          ∙ rw counts value);
    }

-- there is room for the number of a predicate that is left
pub room_left : (tables : List (List (List Value))) (args : List Value) (preds : List Pred) (k known : ℕ) (numbers : List ℕ)
    (pred : Pred)
    → pred ≡ get_or preds k pred → k < length preds → is_parameterised pred ≡ true
    → SoFar tables args preds k known numbers → known < length numbers
room_left tables args preds k known numbers pred is h varies s =
    let left = next_left preds k pred is h in
    let room = rw (left, varies) at s.room in
    let long = s.long in
    omega (arith, room, long)
