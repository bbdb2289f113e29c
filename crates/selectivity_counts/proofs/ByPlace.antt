-- What is made of each table, as what is made of each place.
use Rattle.std.proofs.Common.{ℕ, suc, ◌≡◌, ◌<◌, ◌≤◌, ◌+◌, ◌++◌, List, [], ◌∷◌, length, map, take, drop, ap, sym, ◌∙◌, refl, arith, subst, length-append}
use Rattle.std.specs.Prelude.{Some, slice_get}
use Rattle.std.specs.Rc.{rc_value}
use Rattle.std.specs.declared.rc.Rc.{Rc}
use Rattle.std.proofs.Math.Seq.{drop-append_seam, take-append_seam}
use Rattle.std.proofs.lemmas.List.{length-map, take_all}
use Rattle.std.proofs.lemmas.List.Sums.{sum_by-cons}
use Rattle.std.proofs.lemmas.Option.{get_or_from_slice_get}
use Rattle.row_values.specs.declared.statement.Place.{Place}
use Rattle.row_values.specs.declared.values.Value.{Value}
use Rattle.csv_tables.specs.StatementTables.{rows_in, tables_in}
use Rattle.csv_tables.specs.Tables.{TableValue}
use Rattle.plan_trees.specs.Statistics.{by_place, column_count}
use Rattle.statement_meaning.specs.Combinations.{rows_at}
use Rattle.statement_statistics.specs.Statistics.{numbered}
use Rattle.statement_statistics.proofs.Numbered.{numbered_more}

-- two functions that agree on each element and its number
pub numbered_here : {A B : Type 0} (f h : ℕ → A → B) (n : ℕ) (xs : List A)
    → ((i : ℕ) (x : A) → slice_get xs i ≡ Some x → f (n + i) x ≡ h (n + i) x) → numbered f n xs ≡ numbered h n xs
numbered_here f h n [] e = refl
numbered_here {B = B} f h n (x ∷ xs) e =
    let here : f n x ≡ h n x =
    ap (λ (k : ℕ). f k x) (omega arith) ∙ (e 0 x refl ∙ ap (λ (k : ℕ). h k x) (omega arith)) in
    let more = numbered_here f h (n + 1) xs (λ i y at.
    ap (λ (k : ℕ). f k y) (omega arith) ∙ (e (suc i) y at ∙ ap (λ (k : ℕ). h k y) (omega arith))) in
    ap (λ (y : B). y ∷ numbered f (n + 1) xs) here ∙ ap (λ (ys : List B). h n x ∷ ys) more

same_long : {A C B : Type 0} (h : ℕ → B) (n : ℕ) (xs : List A) (ys : List C) → length xs ≡ length ys
    → numbered (λ number _. h number) n xs ≡ numbered (λ number _. h number) n ys
same_long h n [] [] e = refl
same_long h n [] (y ∷ ys) e = absurd (omega (arith, e))
same_long h n (x ∷ xs) [] e = absurd (omega (arith, e))
same_long {B = B} h n (x ∷ xs) (y ∷ ys) e =
    ap (λ (zs : List B). h n ∷ zs) (same_long h (n + 1) xs ys (omega (arith, e)))

pub numbered_map : {A C B : Type 0} (g : ℕ → C → B) (v : A → C) (n : ℕ) (xs : List A)
    → numbered g n (map v xs) ≡ numbered (λ k x. g k (v x)) n xs
numbered_map g v n [] = refl
numbered_map {B = B} g v n (x ∷ xs) = ap (λ (ys : List B). g n (v x) ∷ ys) (numbered_map g v (n + 1) xs)

pub map_numbered : {A B : Type 0} (f : A → B) (n : ℕ) (xs : List A) → map f xs ≡ numbered (λ _ x. f x) n xs
map_numbered f n [] = refl
map_numbered {B = B} f n (x ∷ xs) = ap (λ (ys : List B). f x ∷ ys) (map_numbered f (n + 1) xs)

over_places : {X : Type 0} (g : ℕ → List (List Value) → X) (rows : List (List (List Value))) (places : List Place)
    → length rows ≡ length places
    → numbered g 0 rows ≡ numbered (λ number _. g number (rows_at rows number)) 0 places
over_places g rows places e =
    numbered_here g (λ number _. g number (rows_at rows number)) 0 rows
    (λ i x at. ap (λ (k : ℕ). g k x) (omega arith)
    ∙ (ap (g i) (sym (get_or_from_slice_get rows i x [] at))
    ∙ ap (λ (k : ℕ). g k (rows_at rows k)) (omega arith)))
    ∙ same_long (λ number. g number (rows_at rows number)) 0 rows places e

-- so of shared tables
pub shared_over_places : {X Z : Type 0} (g : ℕ → List (List Value) → X) (shared : List (Rc TableValue Z))
    (places : List Place) → length shared ≡ length places
    → numbered (λ number table. g number table.value.rows) 0 shared
    ≡ numbered (λ number _. g number (rows_at (rows_in (tables_in shared)) number)) 0 places
shared_over_places g shared places e =
    sym (numbered_map (λ number table. g number table.rows) rc_value 0 shared)
    ∙ (sym (numbered_map g (λ table. table.rows) 0 (tables_in shared))
    ∙ over_places g (rows_in (tables_in shared)) places
    (length-map (tables_in shared) (λ table. table.rows) ∙ (length-map shared rc_value ∙ e)))

-- once all of them are gone over
pub shared_done : {X Z : Type 0} (g : ℕ → List (List Value) → X) (shared : List (Rc TableValue Z))
    (places : List Place) (k : ℕ) → length shared ≤ k → length shared ≡ length places
    → numbered (λ number table. g number table.value.rows) 0 (take k shared)
    ≡ numbered (λ number _. g number (rows_at (rows_in (tables_in shared)) number)) 0 places
shared_done {Z = Z} g shared places k over e =
    ap (λ (taken : List (Rc TableValue Z)). numbered (λ number table. g number table.value.rows) 0 taken)
    (take_all k shared over)
    ∙ shared_over_places g shared places e

-- one more, made of its number alone
pub numbered_next : {A B : Type 0} (f : ℕ → B) (xs : List A) (i : ℕ) → i < length xs
    → numbered (λ number _. f number) 0 (take (i + 1) xs) ≡ numbered (λ number _. f number) 0 (take i xs) ++ f i ∷ []
numbered_next f [] i h = absurd (omega (arith, h))
numbered_next f (x ∷ xs) i h = numbered_more (λ number _. f number) (x ∷ xs) i x h

-- A flat list of lists, as wide as the places.

abbrev pub flat : List (List ℕ) → List ℕ
flat [] = []
flat (list ∷ lists) = list ++ flat lists

take_front : (xs ys : List ℕ) (n : ℕ) → length xs ≡ n → take n (xs ++ ys) ≡ xs
take_front xs ys n e = subst (λ (k : ℕ). take k (xs ++ ys) ≡ xs) e (take-append_seam xs ys)

drop_front : (xs ys : List ℕ) (n : ℕ) → length xs ≡ n → drop n (xs ++ ys) ≡ ys
drop_front xs ys n e = subst (λ (k : ℕ). drop k (xs ++ ys) ≡ ys) e (drop-append_seam xs ys)

pub flat_by_place : (places : List Place) (lists : List (List ℕ))
    → map length lists ≡ map (λ place. length place.schema) places → by_place places (flat lists) ≡ lists
flat_by_place [] [] e = refl
flat_by_place [] (list ∷ lists) e = cc
flat_by_place (place ∷ places) [] e = cc
flat_by_place (place ∷ places) (list ∷ lists) e =
    let here : length list ≡ length place.schema = cc in
    let rest : map length lists ≡ map (λ place. length place.schema) places = cc in
    rw (
      take_front list (flat lists) (length place.schema) here,
      drop_front list (flat lists) (length place.schema) here,
    )
    (ap (λ (ls : List (List ℕ)). list ∷ ls) (flat_by_place places lists rest))

pub flat_long : (places : List Place) (lists : List (List ℕ))
    → map length lists ≡ map (λ place. length place.schema) places → length (flat lists) ≡ column_count places
flat_long [] [] e = refl
flat_long [] (list ∷ lists) e = cc
flat_long (place ∷ places) [] e = cc
flat_long (place ∷ places) (list ∷ lists) e =
    let here : length list ≡ length place.schema = cc in
    let rest : map length lists ≡ map (λ place. length place.schema) places = cc in
    omega (
      arith,
      length-append list (flat lists),
      here,
      flat_long places lists rest,
      sum_by-cons (λ place. length place.schema) place places,
    )
