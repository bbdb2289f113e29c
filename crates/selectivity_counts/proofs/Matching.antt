-- Counting row by row, and number by number.
use Rattle.std.proofs.Common.{ℕ, ℤ, suc, ◌≡◌, ◌<◌, ◌≤◌, ◌+◌, ◌++◌, Bool, true, false, List, [], ◌∷◌, length, take, get_or, cond, ap}
use Rattle.std.proofs.Common.{◌∙◌, refl, add-one, length-append, sym, arith}
use Rattle.std.specs.Prelude.{filter, slice_get, slice_index_or}
use Rattle.std.specs.Option.{option_map_or}
use Rattle.std.proofs.lemmas.List.Sums.{count_by-le-length, length-filter}
use mir.Val.{bool_byte}
use Rattle.std.proofs.Math.Seq.{take-suc}
use Rattle.std.proofs.lemmas.List.Elements.{filter-append}
use Rattle.row_values.specs.declared.values.Value.{Value}
use Rattle.row_values.specs.declared.statement.Pred.{Pred}
use Rattle.statement_meaning.specs.Conditions.{holds}
use Rattle.statement_meaning.specs.Vectors.{matching}

one_more_passes : {T : Type 0} (p : T → Bool) (xs : List T) (i : ℕ) (d : T) → i < length xs
    → length (filter p (take (i + 1) xs)) ≡ length (filter p (take i xs)) + cond (p (get_or xs i d)) 1 0
one_more_passes {T = T} p xs i d h =
    let here : T = get_or xs i d in
    let more : take (i + 1) xs ≡ take i xs ++ here ∷ [] = rw add-one (take-suc xs i d h) in
    ap (λ (taken : List T). length (filter p taken)) more
    ∙ (ap length (filter-append p (take i xs) (here ∷ []))
    ∙ (length-append (filter p (take i xs)) (filter p (here ∷ []))
    ∙ elim (p here) as (λ b. length (filter p (take i xs)) + length (cond b (here ∷ []) [])
    ≡ length (filter p (take i xs)) + cond b 1 0) [ true ↦ refl | false ↦ refl ]))

-- a row more is counted where it meets the predicate
pub one_more_match : (args : List Value) (pred : Pred) (rows : List (List Value)) (row count : ℕ) (met : Bool)
    → row < length rows
    → count ≡ matching args pred (take row rows) → met ≡ holds args pred (get_or rows row [])
    → count + cond met 1 0 ≡ matching args pred (take (row + 1) rows)
one_more_match args pred rows row count met h so_far meets =
    rw (so_far, meets, one_more_passes (holds args pred) rows row [] h) refl

-- a number more is counted where it meets the test
pub one_more_number : (p : ℤ → Bool) (numbers : List ℤ) (i count : ℕ) (d : ℤ) (met : Bool) → i < length numbers
    → count ≡ length (filter p (take i numbers)) → met ≡ p (get_or numbers i d)
    → count + cond met 1 0 ≡ length (filter p (take (i + 1) numbers))
one_more_number p numbers i count d met h so_far meets = rw (so_far, meets, one_more_passes p numbers i d h) refl

counted : {T : Type 0} (p : T → Bool) (x : T) (xs : List T) → length (filter p (x ∷ xs)) ≡ cond (p x) 1 0 + length (filter p xs)
counted p x xs =
    elim (p x) as (λ b. length (cond b (x ∷ filter p xs) (filter p xs)) ≡ cond b 1 0 + length (filter p xs))
    [ true ↦ omega arith | false ↦ omega arith ]

-- as many rows pass one test as numbers another, where row by row the two agree
pub numbers_match : (p : ℤ → Bool) (q : List Value → Bool) (numbers : List ℤ) (rows : List (List Value))
    → length numbers ≡ length rows
    → ((row : ℕ) → option_map_or p (slice_get numbers row) false ≡ q (slice_index_or rows row []))
    → length (filter p numbers) ≡ length (filter q rows)
numbers_match p q [] [] e same = refl
numbers_match p q [] (row ∷ rows) e same = absurd (omega (arith, e))
numbers_match p q (number ∷ numbers) [] e same = absurd (omega (arith, e))
numbers_match p q (number ∷ numbers) (row ∷ rows) e same =
    let here : p number ≡ q row = same 0 in
    let rest = numbers_match p q numbers rows (omega (arith, e)) (λ i. same (suc i)) in
    counted p number numbers
    ∙ (ap (λ (b : Bool). cond b 1 0 + length (filter p numbers)) here
    ∙ (ap (λ (n : ℕ). cond (q row) 1 0 + n) rest ∙ sym (counted q row rows)))

pub no_more : {T : Type 0} (p : T → Bool) (xs : List T) → length (filter p xs) ≤ length xs
no_more p xs = omega (arith, length-filter p xs, count_by-le-length p xs)

pub byte_is : (met : Bool) → bool_byte met ≡ cond met 1 0
byte_is true = refl
byte_is false = refl

pub at_most_one : (met : Bool) → cond met 1 0 ≤ 1
at_most_one true = omega arith
at_most_one false = omega arith
