-- Products over sets, against the product over all places of a statement that isn't wide.
use Rattle.std.proofs.Common.{ℕ, zero, suc, ◌≡◌, ◌≤◌, ◌<◌, ◌+◌, ◌*◌, ◌^◌, ◌==◌, max, Bool, true, false, List, [], ◌∷◌}
use Rattle.std.proofs.Common.{map, length, get_or, slice_index, if◌then◌else◌, ap, sym, ◌∙◌, refl, subst, arith}
use Rattle.std.proofs.Common.{mul-le-mul, mul-le-mul_left, mul-le-mul_right, mul_assoc, mul_comm, mul_left_comm}
use Rattle.std.proofs.Common.{pow-suc}
use Rattle.std.proofs.Math.Nat.{pow-le-pow_right, pow-zero, one-le-pow}
use Rattle.std.proofs.lemmas.Bool.Decides.{nat_tests}
use Rattle.plan_trees.specs.PlaceSets.{has}
use Rattle.cost_model.specs.Cardinalities.{marked_product, product_over}

-- how many selectivities a place has
abbrev pub count_on : ℕ → List ℕ → ℕ
count_on t [] = 0
count_on t (u ∷ on) = if u == t then suc (count_on t on) else count_on t on

-- N ^ max(1, p) for each place from t on
abbrev pub widths : List ℕ → ℕ → List ℕ → List ℕ
widths on t [] = []
widths on t (n ∷ ns) = n ^ max 1 (count_on t on) ∷ widths on (t + 1) ns

abbrev pub product_all : List ℕ → ℕ
product_all [] = 1
product_all (x ∷ xs) = x * product_all xs

-- each number of a vector is from 1 to the rows of its place
abbrev pub IsVector : List ℕ → List ℕ → List ℕ → Type 0
IsVector rows [] [] = Unit {0}
IsVector rows (t ∷ on) (x ∷ s) = (t < length rows) × (1 ≤ x) × (x ≤ slice_index rows t) × IsVector rows on s
IsVector rows on s = ⊥

-- rows that meet fixed predicates are rows
abbrev pub IsPart : List ℕ → List ℕ → Type 0
IsPart [] [] = Unit {0}
IsPart (f ∷ fs) (n ∷ ns) = (1 ≤ f) × (f ≤ n) × IsPart fs ns
IsPart fs ns = ⊥

-- every number is at least 1
unfoldable pub Ones : List ℕ → Type 0
Ones [] = Unit {0}
Ones (x ∷ xs) = (1 ≤ x) × Ones xs

pub ones_product : (xs : List ℕ) → Ones xs → 1 ≤ product_all xs
unfolding Ones
ones_product [] h = omega arith
ones_product (x ∷ xs) h = mul-le-mul {n₁ = 1} {m₁ = 1} {n₂ = x} {m₂ = product_all xs} h.0 (ones_product xs h.1)

pick_le : (b : Bool) (x : ℕ) → 1 ≤ x → (if b then x else 1) ≤ x
pick_le true x h = omega arith
pick_le false x h = h

pub part_of_all : (set t : ℕ) (xs : List ℕ) → Ones xs → product_over set t xs ≤ product_all xs
unfolding Ones
part_of_all set t [] h = omega arith
part_of_all set t (x ∷ xs) h = mul-le-mul (pick_le (has set t) x h.0) (part_of_all set (t + 1) xs h.1)

beside_head : (set t x : ℕ) (xs : List ℕ) → has set t ≡ false → product_over set (t + 1) xs ≤ product_all xs
    → (if has set t then x else 1) * product_over set (t + 1) xs * x ≤ x * product_all xs
beside_head set t x xs out h = rw out (let k : x * product_over set (t + 1) xs ≤ x * product_all xs =
    mul-le-mul_left x h in let e = mul_comm (1 * product_over set (t + 1) xs) x
    in let f : 1 * product_over set (t + 1) xs ≡ product_over set (t + 1) xs = omega arith in rw (e, f) k)

-- a place outside the set, beside the set
pub beside : (set t k : ℕ) (xs : List ℕ) → Ones xs → has set (t + k) ≡ false
    → product_over set t xs * get_or xs k 1 ≤ product_all xs
unfolding Ones
beside set t k [] h out = omega arith
beside set t zero (x ∷ xs) h out =
    beside_head set t x xs (subst (λ n. has set n ≡ false) (omega arith) out) (part_of_all set (t + 1) xs h.1)
beside set t (suc k) (x ∷ xs) h out =
    let rest = beside set (t + 1) k xs h.1 (subst (λ n. has set n ≡ false) (omega arith) out) in
    rw (mul_assoc) (mul-le-mul (pick_le (has set t) x h.0) rest)

pub AllLe : List ℕ → List ℕ → Type 0
AllLe [] [] = Unit {0}
AllLe (x ∷ xs) (y ∷ ys) = (x ≤ y) × AllLe xs ys
AllLe xs ys = ⊥

if_le : (b : Bool) (x y : ℕ) → x ≤ y → (if b then x else 1) ≤ (if b then y else 1)
if_le true x y h = h
if_le false x y h = omega arith

pub in_le : (set t : ℕ) (xs ys : List ℕ) → AllLe xs ys → product_over set t xs ≤ product_over set t ys
unfolding AllLe
in_le set t [] [] h = omega arith
in_le set t [] (y ∷ ys) h = absurd h
in_le set t (x ∷ xs) [] h = absurd h
in_le set t (x ∷ xs) (y ∷ ys) h = mul-le-mul (if_le (has set t) x y h.0) (in_le set (t + 1) xs ys h.1)

-- N^p for each place from t on
pub powers : List ℕ → ℕ → List ℕ → List ℕ
powers on t [] = []
powers on t (n ∷ ns) = n ^ count_on t on ∷ powers on (t + 1) ns

-- a selectivity of an earlier place changes nothing
powers_before : (on : List ℕ) (u t set : ℕ) (ns : List ℕ) → u < t → product_over set t (powers (u ∷ on) t ns)
    ≡ product_over set t (powers on t ns)
unfolding powers
powers_before on u t set [] lt = refl
powers_before on u t set (n ∷ ns) lt =
    let e : (u == t) ≡ false = grind (arith, nat_tests) in
    let rest = powers_before on u (t + 1) set ns (omega arith) in
    rw (e, rest) refl

head_more : (b : Bool) (n c d r r' : ℕ) → d ≡ n * c → r' ≡ r → (if b then d else 1) * r'
    ≡ (if b then n else 1) * ((if b then c else 1) * r)
head_more true n c d r r' e f = rw (e, f) (mul_assoc n c r)
head_more false n c d r r' e f = omega arith

pow_one : (n : ℕ) → n ^ 1 ≡ n
pow_one n = pow-suc n 0 ∙ ap (λ m. m * n) (pow-zero n) ∙ omega arith

pow_next : (n c : ℕ) → n ^ suc c ≡ n * n ^ c
pow_next n c = pow-suc n c ∙ mul_comm (n ^ c) n

-- one more selectivity is one more factor
powers_more : (on : List ℕ) (u t k set : ℕ) (ns : List ℕ) → u ≡ t + k → k < length ns
    → product_over set t (powers (u ∷ on) t ns)
    ≡ (if has set u then slice_index ns k else 1) * product_over set t (powers on t ns)
unfolding powers
powers_more on u t k set [] eq lt = absurd (omega arith)
powers_more on u t zero set (n ∷ ns) eq lt =
    let same : u ≡ t = omega arith in
    let e : (u == t) ≡ true = grind (arith, nat_tests) in
    let rest = powers_before on u (t + 1) set ns (omega arith) in
    rw e (subst (λ v. (if has set t then n ^ suc (count_on t on) else 1) * product_over set (t + 1)
    (powers (u ∷ on) (t + 1) ns)
    ≡ (if has set v then n else 1) * ((if has set t then n ^ count_on t on else 1) * product_over set (t + 1)
    (powers on (t + 1) ns))) (sym same)
    (head_more (has set t) n (n ^ count_on t on) (n ^ suc (count_on t on)) _ _ (pow_next n (count_on t on)) rest))
powers_more on u t (suc k) set (n ∷ ns) eq lt =
    let e : (u == t) ≡ false = grind (arith, nat_tests) in
    let rest = powers_more on u (t + 1) k set ns (omega arith) (omega arith) in
    rw (e, rest) (mul_left_comm _ _ _)

flat : (b : Bool) (n : ℕ) → (if b then n ^ 0 else 1) * 1 ≡ 1
flat true n = ap (λ m. m * 1) (pow-zero n)
flat false n = refl

powers_none : (set t : ℕ) (ns : List ℕ) → product_over set t (powers [] t ns) ≡ 1
unfolding powers
powers_none set t [] = refl
powers_none set t (n ∷ ns) = rw (powers_none set (t + 1) ns) (flat (has set t) n)

pub selected_powers : (set : ℕ) (rows on s : List ℕ) → IsVector rows on s
    → marked_product (map (has set) on) (map (slice_index rows) on) ≡ product_over set 0 (powers on 0 rows)
selected_powers set rows [] s h = sym (powers_none set 0 rows)
selected_powers set rows (u ∷ on) [] h = absurd h
selected_powers set rows (u ∷ on) (x ∷ s) h =
    ap (λ n. (if has set u then slice_index rows u else 1) * n) (selected_powers set rows on s h.3)
    ∙ sym (powers_more on u 0 u set rows (omega arith) h.0)

pub selected_le : (set : ℕ) (rows on s : List ℕ) → IsVector rows on s
    → marked_product (map (has set) on) s ≤ marked_product (map (has set) on) (map (slice_index rows) on)
selected_le set rows [] s h = omega arith
selected_le set rows (u ∷ on) [] h = absurd h
selected_le set rows (u ∷ on) (x ∷ s) h =
    mul-le-mul (if_le (has set u) x (slice_index rows u) h.2) (selected_le set rows on s h.3)

pub full_part : (fs ns : List ℕ) → IsPart fs ns → Ones ns
unfolding Ones
full_part [] [] h = tt
full_part [] (n ∷ ns) h = absurd h
full_part (f ∷ fs) [] h = absurd h
full_part (f ∷ fs) (n ∷ ns) h = (omega arith, full_part fs ns h.2)

-- all rows are a part of the rows
pub whole_part : (ns : List ℕ) → Ones ns → IsPart ns ns
unfolding Ones
whole_part [] h = tt
whole_part (n ∷ ns) h = (h.0, omega arith, whole_part ns h.1)

pow_le : (n a b : ℕ) → 1 ≤ n → a ≤ b → n ^ a ≤ n ^ b
pow_le n a b pos h = pow-le-pow_right pos h

pub powers_widths : (on : List ℕ) (t : ℕ) (ns : List ℕ) → Ones ns → AllLe (powers on t ns) (widths on t ns)
unfolding Ones AllLe powers
powers_widths on t [] h = tt
powers_widths on t (n ∷ ns) h = (pow_le n _ _ h.0 (omega arith), powers_widths on (t + 1) ns h.1)

pub part_widths : (on : List ℕ) (t : ℕ) (fs ns : List ℕ) → IsPart fs ns → AllLe fs (widths on t ns)
unfolding AllLe
part_widths on t [] [] h = tt
part_widths on t [] (n ∷ ns) h = absurd h
part_widths on t (f ∷ fs) [] h = absurd h
part_widths on t (f ∷ fs) (n ∷ ns) h = (
  let k : n ^ 1 ≤ n ^ max 1 (count_on t on) = pow_le n 1 _ (omega arith) (omega arith) in let e =
      pow_one n in omega arith,
  part_widths on (t + 1) fs ns h.2,
)

pub widths_ones : (on : List ℕ) (t : ℕ) (ns : List ℕ) → Ones ns → Ones (widths on t ns)
unfolding Ones
widths_ones on t [] h = tt
widths_ones on t (n ∷ ns) h = (one-le-pow _ n h.0, widths_ones on (t + 1) ns h.1)

pub rows_widths : (on : List ℕ) (t k : ℕ) (ns : List ℕ) → Ones ns → slice_index ns k ≤ get_or (widths on t ns) k 1
unfolding Ones
rows_widths on t k [] h = omega arith
rows_widths on t zero (n ∷ ns) h = let k : n ^ 1 ≤ n ^ max 1 (count_on t on) = pow_le n 1 _ h.0 (omega arith) in let e =
    pow_one n in omega arith
rows_widths on t (suc k) (n ∷ ns) h = rows_widths on (t + 1) k ns h.1

pub one_of_all : (xs : List ℕ) (k : ℕ) → Ones xs → get_or xs k 1 ≤ product_all xs
unfolding Ones
one_of_all [] k h = omega arith
one_of_all (x ∷ xs) zero h = let k : x * 1 ≤ x * product_all xs = mul-le-mul_left x (ones_product xs h.1) in omega arith
one_of_all (x ∷ xs) (suc k) h = let m : 1 * product_all xs ≤ x * product_all xs = mul-le-mul_right (product_all xs) h.0
    in let n = one_of_all xs k h.1 in omega arith

pub one_pick : (b : Bool) (x : ℕ) → 1 ≤ x → 1 ≤ (if b then x else 1)
one_pick true x h = h
one_pick false x h = omega arith

pub selected_one : (set : ℕ) (rows on s : List ℕ) → IsVector rows on s → 1 ≤ marked_product (map (has set) on) s
selected_one set rows [] s h = omega arith
selected_one set rows (u ∷ on) [] h = absurd h
selected_one set rows (u ∷ on) (x ∷ s) h =
    mul-le-mul {n₁ = 1} {m₁ = 1} (one_pick (has set u) x h.1) (selected_one set rows on s h.3)

pub marked_one : (ms : List Bool) (xs : List ℕ) → Ones xs → 1 ≤ marked_product ms xs
unfolding Ones
marked_one [] xs h = omega arith
marked_one (m ∷ ms) [] h = omega arith
marked_one (m ∷ ms) (x ∷ xs) h = mul-le-mul {n₁ = 1} {m₁ = 1} (one_pick m x h.0) (marked_one ms xs h.1)
