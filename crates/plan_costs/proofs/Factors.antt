-- Products and quotients, factor by factor.
use Rattle.std.proofs.Common.{ℕ, suc, ◌≡◌, ◌≤◌, ◌<◌, ◌+◌, ◌*◌, Bool, true, false, ◌&&◌, List, [], ◌∷◌, map, length}
use Rattle.std.proofs.Common.{drop, slice_index, slice_index_or, All, if◌then◌else◌, ap, sym, ◌∙◌, refl, subst, arith}
use Rattle.std.proofs.Common.{mul_assoc, mul-le-mul, mul-le-mul_left, add-one, length-drop, get_or-drop, true≢false}
use Rattle.std.specs.Int.{div_ceil}
use Rattle.std.proofs.Math.Seq.{drop-cons}
use Rattle.std.proofs.lemmas.List.Elements.{All-drop}
use Rattle.row_values.specs.Statements.{is_parameterised, selectivity_count}
use Rattle.row_values.specs.declared.statement.Edge.{Edge}
use Rattle.row_values.specs.declared.statement.Pred.{Pred}
use Rattle.plan_trees.specs.PlaceSets.{has}
use Rattle.plan_trees.specs.Statistics.{selectivity_places}
use Rattle.cost_model.specs.Cardinalities.{is_inside, marked_product, product_over}
use Rattle.cost_model.proofs.Products.{one_pick}
use Rattle.plan_costs.proofs.Quotients.{quotient_twice}

abbrev pub rows_divisor : ℕ → List ℕ → List Pred → ℕ
rows_divisor set rows preds = marked_product (map (has set) (selectivity_places preds))
    (map (slice_index rows) (selectivity_places preds))

-- Over the places.

pub product_next : (set i a : ℕ) (xs : List ℕ) → i < length xs
    → (a * (if has set i then slice_index xs i else 1)) * product_over set (i + 1) (drop (i + 1) xs) ≡ a * product_over
    set i (drop i xs)
product_next set i a xs h = rw (drop-cons xs i 0 h, add-one) (mul_assoc a _ _)

pub product_some : (set t : ℕ) (xs : List ℕ) → ((k : ℕ) → k < length xs → 1 ≤ slice_index xs k)
    → 1 ≤ product_over set t xs
product_some set t [] h = omega arith
product_some set t (x ∷ xs) h = mul-le-mul {n₁ = 1} {m₁ = 1} (one_pick (has set t) x (h 0 (omega arith)))
    (product_some set (t + 1) xs (λ k less. h (suc k) (omega arith)))

-- Over the predicates.

-- what the predicate divides by
abbrev pub rows_of : ℕ → List ℕ → Pred → ℕ
rows_of set rows pred = if is_parameterised pred && has set pred.at.place then slice_index rows pred.at.place else 1

divisor_by : (b : Bool) (set : ℕ) (rows : List ℕ) (pred : Pred) (preds : List Pred) → is_parameterised pred ≡ b
    → rows_divisor set rows (pred ∷ preds) ≡ rows_of set rows pred * rows_divisor set rows preds
divisor_by true set rows pred preds e = rw e refl
divisor_by false set rows pred preds e = rw e (omega arith)

rows_of_some : (set : ℕ) (rows : List ℕ) (pred : Pred) → ((k : ℕ) → k < length rows → 1 ≤ slice_index rows k)
    → pred.at.place < length rows → 1 ≤ rows_of set rows pred
rows_of_some set rows pred some there = one_pick (is_parameterised pred && has set pred.at.place)
    (slice_index rows pred.at.place) (some pred.at.place there)

pub divisor_some : (set : ℕ) (rows : List ℕ) (preds : List Pred) → ((k : ℕ) → k < length rows → 1 ≤ slice_index rows k)
    → All (λ pred. pred.at.place < length rows) preds → 1 ≤ rows_divisor set rows preds
divisor_some set rows [] some there = omega arith
divisor_some set rows (pred ∷ preds) some there =
    rw (divisor_by (is_parameterised pred) set rows pred preds refl)
    (mul-le-mul {n₁ = 1} {m₁ = 1} (rows_of_some set rows pred some (there 0 pred (omega arith)))
    (divisor_some set rows preds some (λ k d less. there (suc k) d (omega arith))))

rest_some : (xs : List ℕ) (i k : ℕ) → ((k : ℕ) → k < length xs → 1 ≤ slice_index xs k) → k < length (drop i xs)
    → 1 ≤ slice_index (drop i xs) k
rest_some xs i k some less = let n = length-drop i xs in
    subst (λ m. 1 ≤ m) (sym (get_or-drop i xs k 0)) (some (i + k) (omega arith))

-- a product of some factors is no more than that of all
pub product_fits : (set i a f total : ℕ) (xs : List ℕ) → i < length xs
    → ((k : ℕ) → k < length xs → 1 ≤ slice_index xs k) → f ≡ (if has set i then slice_index xs i else 1)
    → a * product_over set i (drop i xs) ≡ total → a * f ≤ total
product_fits set i a f total xs h some e inv =
    let b = a * (if has set i then slice_index xs i else 1) in
    let rest : 1 ≤ product_over set (i + 1) (drop (i + 1) xs) =
    product_some set (i + 1) (drop (i + 1) xs) (λ k less. rest_some xs (i + 1) k some less) in
    let more : b * 1 ≤ b * product_over set (i + 1) (drop (i + 1) xs) = mul-le-mul_left b rest in
    let same : b * product_over set (i + 1) (drop (i + 1) xs) ≡ total = product_next set i a xs h ∙ inv in
    rw e (omega arith)

divisor_split : (i : ℕ) (pred : Pred) (preds : List Pred) → i < length preds → pred ≡ slice_index_or preds i pred
    → drop i preds ≡ pred ∷ drop (i + 1) preds
divisor_split i pred preds h here =
    rw add-one (drop-cons preds i pred h ∙ ap (λ p. p ∷ drop (suc i) preds) (sym here))

pub divisor_at : (set i a : ℕ) (rows : List ℕ) (pred : Pred) (preds : List Pred) → i < length preds
    → pred ≡ slice_index_or preds i pred
    → (a * rows_of set rows pred) * rows_divisor set rows (drop (i + 1) preds)
    ≡ a * rows_divisor set rows (drop i preds)
divisor_at set i a rows pred preds h here =
    mul_assoc a (rows_of set rows pred) (rows_divisor set rows (drop (i + 1) preds))
    ∙ ap (λ n. a * n) (sym (divisor_by (is_parameterised pred) set rows pred (drop (i + 1) preds) refl))
    ∙ ap (λ ps. a * rows_divisor set rows ps) (sym (divisor_split i pred preds h here))

-- a product of some factors is no more than that of all
pub divisor_fits : (set i a f total : ℕ) (rows : List ℕ) (pred : Pred) (preds : List Pred) → i < length preds
    → pred ≡ slice_index_or preds i pred → ((k : ℕ) → k < length rows → 1 ≤ slice_index rows k)
    → All (λ pred. pred.at.place < length rows) preds → f ≡ rows_of set rows pred
    → a * rows_divisor set rows (drop i preds) ≡ total → a * f ≤ total
divisor_fits set i a f total rows pred preds h here some there e inv =
    let rest : 1 ≤ rows_divisor set rows (drop (i + 1) preds) =
    divisor_some set rows (drop (i + 1) preds) some
    (All-drop (λ pred. pred.at.place < length rows) (i + 1) preds there) in
    let more : (a * f) * 1 ≤ (a * f) * rows_divisor set rows (drop (i + 1) preds) = mul-le-mul_left (a * f) rest in
    let same : (a * f) * rows_divisor set rows (drop (i + 1) preds) ≡ total =
    ap (λ n. (a * n) * rows_divisor set rows (drop (i + 1) preds)) e ∙ divisor_at set i a rows pred preds h here
    ∙ inv in
    omega arith

-- Over the edges.

pub marked_some : (marks : List Bool) (xs : List ℕ) → ((k : ℕ) → k < length xs → 1 ≤ slice_index xs k)
    → 1 ≤ marked_product marks xs
marked_some [] xs some = omega arith
marked_some (m ∷ marks) [] some = omega arith
marked_some (m ∷ marks) (x ∷ xs) some = mul-le-mul {n₁ = 1} {m₁ = 1} (one_pick m x (some 0 (omega arith)))
    (marked_some marks xs (λ k less. some (suc k) (omega arith)))

pub distinct_at : (set i left f : ℕ) (d : Edge) (edges : List Edge) (xs : List ℕ) → i < length edges
    → length edges ≡ length xs → ((k : ℕ) → k < length xs → 1 ≤ slice_index xs k)
    → f ≡ (if is_inside set (slice_index_or edges i d) then slice_index xs i else 1)
    → div_ceil (div_ceil left f) (marked_product (map (is_inside set) (drop (i + 1) edges)) (drop (i + 1) xs))
    ≡ div_ceil left (marked_product (map (is_inside set) (drop i edges)) (drop i xs))
distinct_at set i left f d edges xs h each some e =
    let first : drop i edges ≡ slice_index_or edges i d ∷ drop (i + 1) edges = rw add-one (drop-cons edges i d h) in
    let second : drop i xs ≡ slice_index xs i ∷ drop (i + 1) xs = rw add-one (drop-cons xs i 0 (omega arith)) in
    let rest : 1 ≤ marked_product (map (is_inside set) (drop (i + 1) edges)) (drop (i + 1) xs) =
    marked_some (map (is_inside set) (drop (i + 1) edges)) (drop (i + 1) xs)
    (λ k less. rest_some xs (i + 1) k some less) in
    rw (first, second, e)
    (quotient_twice left _ _
    (one_pick (is_inside set (slice_index_or edges i d)) (slice_index xs i) (some i (omega arith))) rest)

-- Over the selectivities.

pub count_at : (i : ℕ) (pred : Pred) (preds : List Pred) → i < length preds → pred ≡ slice_index_or preds i pred
    → selectivity_count (drop i preds) ≡ (if is_parameterised pred then 1 else 0) + selectivity_count
    (drop (i + 1) preds)
count_at i pred preds h here =
    let split : drop i preds ≡ pred ∷ drop (i + 1) preds =
    rw add-one (drop-cons preds i pred h ∙ ap (λ p. p ∷ drop (suc i) preds) (sym here)) in
    rw split refl

selected_by : (b : Bool) (set next : ℕ) (pred : Pred) (preds : List Pred) (xs : List ℕ) → is_parameterised pred ≡ b
    → (b ≡ true → next < length xs)
    → marked_product (map (has set) (selectivity_places (pred ∷ preds))) (drop next xs)
    ≡ (if b then (if has set pred.at.place then slice_index xs next else 1) * marked_product
    (map (has set) (selectivity_places preds)) (drop (next + 1) xs)
    else marked_product (map (has set) (selectivity_places preds)) (drop next xs))
selected_by true set next pred preds xs e there =
    let second : drop next xs ≡ slice_index xs next ∷ drop (next + 1) xs =
    rw add-one (drop-cons xs next 0 (there refl)) in
    rw (e, second) refl
selected_by false set next pred preds xs e there = rw e refl

pub selected_at : (b : Bool) (set i next : ℕ) (pred : Pred) (preds : List Pred) (xs : List ℕ) → i < length preds
    → pred ≡ slice_index_or preds i pred → is_parameterised pred ≡ b → (b ≡ true → next < length xs)
    → marked_product (map (has set) (selectivity_places (drop i preds))) (drop next xs)
    ≡ (if b then (if has set pred.at.place then slice_index xs next else 1) * marked_product
    (map (has set) (selectivity_places (drop (i + 1) preds))) (drop (next + 1) xs)
    else marked_product (map (has set) (selectivity_places (drop (i + 1) preds))) (drop next xs))
selected_at b set i next pred preds xs h here e there =
    let split : drop i preds ≡ pred ∷ drop (i + 1) preds =
    rw add-one (drop-cons preds i pred h ∙ ap (λ p. p ∷ drop (suc i) preds) (sym here)) in
    ap (λ ps. marked_product (map (has set) (selectivity_places ps)) (drop next xs)) split
    ∙ selected_by b set next pred (drop (i + 1) preds) xs e there

-- what is multiplied and what is left, at the predicates and numbers that are left
abbrev pub left_product : ℕ → ℕ → ℕ → List Pred → List ℕ → ℕ
left_product set i next preds xs = marked_product (map (has set) (selectivity_places (drop i preds))) (drop next xs)

next_there : (i next : ℕ) (pred : Pred) (preds : List Pred) (xs : List ℕ) → i < length preds
    → pred ≡ slice_index_or preds i pred → is_parameterised pred ≡ true
    → next + selectivity_count (drop i preds) ≡ length xs
    → (next + 1) + selectivity_count (drop (i + 1) preds) ≡ length xs
next_there i next pred preds xs h here e count =
    let m : selectivity_count (drop i preds) ≡ 1 + selectivity_count (drop (i + 1) preds) =
    count_at i pred preds h here ∙ ap (λ b. (if b then 1 else 0) + selectivity_count (drop (i + 1) preds)) e in
    omega arith

selected_one_more : (set i next a f total : ℕ) (pred : Pred) (preds : List Pred) (xs : List ℕ) → i < length preds
    → pred ≡ slice_index_or preds i pred → is_parameterised pred ≡ true
    → next + selectivity_count (drop i preds) ≡ length xs
    → f ≡ (if has set pred.at.place then slice_index xs next else 1) → a * left_product set i next preds xs ≡ total
    → (a * f) * left_product set (i + 1) (next + 1) preds xs ≡ total
selected_one_more set i next a f total pred preds xs h here e count g inv =
    let room = next_there i next pred preds xs h here e count in
    let split = selected_at true set i next pred preds xs h here e (λ _. omega arith) in
    rw g (mul_assoc a _ _ ∙ ap (λ n. a * n) (sym split) ∙ inv)

pub selected_then : (set i next a f total : ℕ) (pred : Pred) (preds : List Pred) (xs : List ℕ) → i < length preds
    → pred ≡ slice_index_or preds i pred → is_parameterised pred ≡ true
    → next + selectivity_count (drop i preds) ≡ length xs
    → f ≡ (if has set pred.at.place then slice_index xs next else 1) → a * left_product set i next preds xs ≡ total
    → ((next + 1) + selectivity_count (drop (i + 1) preds) ≡ length xs)
    × ((a * f) * left_product set (i + 1) (next + 1) preds xs ≡ total)
selected_then set i next a f total pred preds xs h here e count g inv = (
  next_there i next pred preds xs h here e count,
  selected_one_more set i next a f total pred preds xs h here e
      count g inv,
)

pub selected_else : (set i next a total : ℕ) (pred : Pred) (preds : List Pred) (xs : List ℕ) → i < length preds
    → pred ≡ slice_index_or preds i pred → is_parameterised pred ≡ false
    → next + selectivity_count (drop i preds) ≡ length xs
    → a * left_product set i next preds xs ≡ total
    → (next + selectivity_count (drop (i + 1) preds) ≡ length xs) × (a * left_product set (i + 1) next preds xs ≡ total)
selected_else set i next a total pred preds xs h here e count inv =
    let m : selectivity_count (drop i preds) ≡ 0 + selectivity_count (drop (i + 1) preds) =
    count_at i pred preds h here ∙ ap (λ b. (if b then 1 else 0) + selectivity_count (drop (i + 1) preds)) e in
    let split = selected_at false set i next pred preds xs h here e (λ k. absurd (true≢false (sym k))) in
    (omega arith, ap (λ n. a * n) (sym split) ∙ inv)

pub selected_fits : (set i next a f total : ℕ) (pred : Pred) (preds : List Pred) (xs : List ℕ) → i < length preds
    → pred ≡ slice_index_or preds i pred → is_parameterised pred ≡ true
    → ((k : ℕ) → k < length xs → 1 ≤ slice_index xs k)
    → next + selectivity_count (drop i preds) ≡ length xs
    → f ≡ (if has set pred.at.place then slice_index xs next else 1) → a * left_product set i next preds xs ≡ total
    → a * f ≤ total
selected_fits set i next a f total pred preds xs h here e some count g inv =
    let same = selected_one_more set i next a f total pred preds xs h here e count g inv in
    let rest : 1 ≤ left_product set (i + 1) (next + 1) preds xs =
    marked_some (map (has set) (selectivity_places (drop (i + 1) preds))) (drop (next + 1) xs)
    (λ k less. rest_some xs (next + 1) k some less) in
    let more : (a * f) * 1 ≤ (a * f) * left_product set (i + 1) (next + 1) preds xs = mul-le-mul_left (a * f) rest in
    omega arith
