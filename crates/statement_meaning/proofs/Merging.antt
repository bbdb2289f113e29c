-- What two combinations made one have at each place, and what of a combination stands at the places of a set.
use Rattle.std.proofs.Common.{ℕ, ◌≡◌, ◌<◌, ◌≤◌, ◌+◌, ◌&&◌, nat_lt, suc, zero, Bool, true, false, List, [], ◌∷◌, length}
use Rattle.std.proofs.Common.{replicate, get_or, set, cond, ap, sym, ◌∙◌, refl, arith, add-zero, zero-add, ◌⊎◌, inl}
use Rattle.std.proofs.Common.{inr}
use Rattle.std.proofs.lemmas.Bool.{false≢true, cases_lt, cases_order, eq-eqb, lt-ltb, le-ltb}
use Rattle.std.proofs.lemmas.List.{get_or-set_same, get_or-set_other, length-set, length-replicate, get_or-replicate}
use Rattle.std.proofs.lemmas.List.{get_or_past, ext_get_or}
use Rattle.statement_meaning.specs.Combinations.{World}
use Rattle.statement_meaning.specs.PartialCombinations.{single, merged_from, merged, placed}

length-merged_from : (outer : ℕ → Bool) (t : ℕ) (c d : List ℕ) → length c ≡ length d
    → length (merged_from outer t c d) ≡ length c
length-merged_from outer t [] d l = refl
length-merged_from outer t (row ∷ rows) [] l = absurd (omega (arith, l))
length-merged_from outer t (row ∷ rows) (other ∷ others) l =
    ap suc (length-merged_from outer (suc t) rows others (omega (arith, l)))

pub length-merged : (outer : ℕ → Bool) (c d : List ℕ) → length c ≡ length d → length (merged outer c d) ≡ length c
length-merged outer c d l = length-merged_from outer 0 c d l

merged_from_at : (outer : ℕ → Bool) (t : ℕ) (c d : List ℕ) → length c ≡ length d → (i : ℕ)
    → get_or (merged_from outer t c d) i 0 ≡ cond (outer (t + i)) (get_or c i 0) (get_or d i 0)
merged_from_at outer t [] [] l i = same_both (outer (t + i))
  where
    same_both : (b : Bool) → ◌≡◌ {A = ℕ} 0 (cond b 0 0)
    same_both true = refl
    same_both false = refl
merged_from_at outer t [] (other ∷ others) l i = absurd (omega (arith, l))
merged_from_at outer t (row ∷ rows) [] l i = absurd (omega (arith, l))
merged_from_at outer t (row ∷ rows) (other ∷ others) l zero = rw add-zero refl
merged_from_at outer t (row ∷ rows) (other ∷ others) l (suc i) =
    let e : t + suc i ≡ suc t + i = omega arith in
    rw e (merged_from_at outer (suc t) rows others (omega (arith, l)) i)

-- at a place of the first's set stands its row, at any other the second's
pub merged_at : (outer : ℕ → Bool) (c d : List ℕ) → length c ≡ length d → (place : ℕ)
    → get_or (merged outer c d) place 0 ≡ cond (outer place) (get_or c place 0) (get_or d place 0)
merged_at outer c d l place =
    merged_from_at outer 0 c d l place
    ∙ ap (λ (n : ℕ). cond (outer n) (get_or c place 0) (get_or d place 0)) (zero-add place)

pub merged_first : (outer : ℕ → Bool) (c d : List ℕ) → length c ≡ length d → (place : ℕ) → outer place ≡ true
    → get_or (merged outer c d) place 0 ≡ get_or c place 0
merged_first outer c d l place h =
    merged_at outer c d l place ∙ ap (λ (b : Bool). cond b (get_or c place 0) (get_or d place 0)) h

pub merged_second : (outer : ℕ → Bool) (c d : List ℕ) → length c ≡ length d → (place : ℕ) → outer place ≡ false
    → get_or (merged outer c d) place 0 ≡ get_or d place 0
merged_second outer c d l place h =
    merged_at outer c d l place ∙ ap (λ (b : Bool). cond b (get_or c place 0) (get_or d place 0)) h

-- and this says which list it is
pub merged_is : (outer : ℕ → Bool) (c d e : List ℕ) → length c ≡ length d → length e ≡ length c
    → ((place : ℕ) → place < length e → get_or e place 0 ≡ cond (outer place) (get_or c place 0) (get_or d place 0))
    → merged outer c d ≡ e
merged_is outer c d e l m h =
    ext_get_or 0 (merged outer c d) e (length-merged outer c d l ∙ sym m)
    (λ i k. merged_at outer c d l i ∙ sym (h i (omega (arith, k, length-merged outer c d l, m))))

-- Place by place, from the second on: the places before this one that are the first's have its rows.
abbrev pub IsMergedTo : (ℕ → Bool) → List ℕ → List ℕ → ℕ → List ℕ → Type 0
IsMergedTo outer c d place made =
    (i : ℕ) → get_or made i 0 ≡ cond (nat_lt i place && outer i) (get_or c i 0) (get_or d i 0)

pub merged_none : (outer : ℕ → Bool) (c d : List ℕ) → IsMergedTo outer c d 0 d
merged_none outer c d i =
    ap (λ (b : Bool). cond (b && outer i) (get_or c i 0) (get_or d i 0)) (sym (le-ltb i 0 (omega arith)))

pub merged_more_in : (outer : ℕ → Bool) (c d made : List ℕ) (place : ℕ) → outer place ≡ true → place < length made
    → IsMergedTo outer c d place made → IsMergedTo outer c d (place + 1) (set made place (get_or c place 0))
merged_more_in outer c d made place h l m i = by_place (cases_order i place)
  where
    by_place : (i ≡ place) ⊎ ((i < place) ⊎ (place < i))
        → get_or (set made place (get_or c place 0)) i 0
        ≡ cond (nat_lt i (place + 1) && outer i) (get_or c i 0) (get_or d i 0)
    by_place (inl e) =
        rw (e, lt-ltb place (place + 1) (omega arith), h) (get_or-set_same made place (get_or c place 0) 0 l)
    by_place (inr (inl less)) =
        get_or-set_other made place i (get_or c place 0) 0 (λ e. omega (arith, e, less))
        ∙ (m i ∙ ap (λ (b : Bool). cond (b && outer i) (get_or c i 0) (get_or d i 0)) (lt-ltb i place less
        ∙ sym (lt-ltb i (place + 1) (omega (arith, less)))))
    by_place (inr (inr past)) =
        get_or-set_other made place i (get_or c place 0) 0 (λ e. omega (arith, e, past))
        ∙ (m i ∙ ap (λ (b : Bool). cond (b && outer i) (get_or c i 0) (get_or d i 0))
        (le-ltb i place (omega (arith, past)) ∙ sym (le-ltb i (place + 1) (omega (arith, past)))))

pub merged_more_out : (outer : ℕ → Bool) (c d made : List ℕ) (place : ℕ) → outer place ≡ false
    → IsMergedTo outer c d place made → IsMergedTo outer c d (place + 1) made
merged_more_out outer c d made place h m i = by_place (cases_order i place)
  where
    never : (b : Bool) → (b && outer place) ≡ false
    never true = h
    never false = refl

    by_place : (i ≡ place) ⊎ ((i < place) ⊎ (place < i))
        → get_or made i 0 ≡ cond (nat_lt i (place + 1) && outer i) (get_or c i 0) (get_or d i 0)
    by_place (inl e) =
        m i
        ∙ rw e (ap (λ (b : Bool). cond b (get_or c place 0) (get_or d place 0)) (never (nat_lt place place)
        ∙ sym (never (nat_lt place (place + 1)))))
    by_place (inr (inl less)) =
        m i
        ∙ ap (λ (b : Bool). cond (b && outer i) (get_or c i 0) (get_or d i 0)) (lt-ltb i place less
        ∙ sym (lt-ltb i (place + 1) (omega (arith, less))))
    by_place (inr (inr past)) =
        m i
        ∙ ap (λ (b : Bool). cond (b && outer i) (get_or c i 0) (get_or d i 0)) (le-ltb i place (omega (arith, past))
        ∙ sym (le-ltb i (place + 1) (omega (arith, past))))

pub merged_all : (outer : ℕ → Bool) (c d made : List ℕ) (place : ℕ) → length c ≡ length d → length made ≡ length c
    → length c ≤ place → IsMergedTo outer c d place made → made ≡ merged outer c d
merged_all outer c d made place l k past m =
    sym
    (merged_is outer c d made l k (λ i less. m i
    ∙ ap (λ (b : Bool). cond (b && outer i) (get_or c i 0) (get_or d i 0))
    (lt-ltb i place (omega (arith, less, k, past)))))

-- a combination with 0 at the places that are not in
restricted_from : (ℕ → Bool) → ℕ → List ℕ → List ℕ
restricted_from places t [] = []
restricted_from places t (row ∷ rows) = cond (places t) row 0 ∷ restricted_from places (suc t) rows

pub restricted : (ℕ → Bool) → List ℕ → List ℕ
restricted places c = restricted_from places 0 c

length-restricted_from : (places : ℕ → Bool) (t : ℕ) (c : List ℕ) → length (restricted_from places t c) ≡ length c
unfolding restricted_from
length-restricted_from places t [] = refl
length-restricted_from places t (row ∷ rows) = ap suc (length-restricted_from places (suc t) rows)

pub length-restricted : (places : ℕ → Bool) (c : List ℕ) → length (restricted places c) ≡ length c
unfolding restricted
length-restricted places c = length-restricted_from places 0 c

restricted_from_at : (places : ℕ → Bool) (t : ℕ) (c : List ℕ) (i : ℕ)
    → get_or (restricted_from places t c) i 0 ≡ cond (places (t + i)) (get_or c i 0) 0
unfolding restricted_from
restricted_from_at places t [] i = same_both (places (t + i))
  where
    same_both : (b : Bool) → ◌≡◌ {A = ℕ} 0 (cond b 0 0)
    same_both true = refl
    same_both false = refl
restricted_from_at places t (row ∷ rows) zero = rw add-zero refl
restricted_from_at places t (row ∷ rows) (suc i) =
    let e : t + suc i ≡ suc t + i = omega arith in
    rw e (restricted_from_at places (suc t) rows i)

pub restricted_at : (places : ℕ → Bool) (c : List ℕ) (place : ℕ)
    → get_or (restricted places c) place 0 ≡ cond (places place) (get_or c place 0) 0
unfolding restricted
restricted_at places c place =
    restricted_from_at places 0 c place ∙ ap (λ (n : ℕ). cond (places n) (get_or c place 0) 0) (zero-add place)

pub restricted_in : (places : ℕ → Bool) (c : List ℕ) (place : ℕ) → places place ≡ true
    → get_or (restricted places c) place 0 ≡ get_or c place 0
restricted_in places c place h = restricted_at places c place ∙ ap (λ (b : Bool). cond b (get_or c place 0) 0) h

pub restricted_out : (places : ℕ → Bool) (c : List ℕ) (place : ℕ) → places place ≡ false
    → get_or (restricted places c) place 0 ≡ 0
restricted_out places c place h = restricted_at places c place ∙ ap (λ (b : Bool). cond b (get_or c place 0) 0) h

-- the combination over one place has its row there and 0 elsewhere
zero_at : (n i : ℕ) → ◌≡◌ {A = ℕ} (get_or (replicate n 0) i 0) 0
zero_at n i = by_range (cases_lt i n)
  where
    by_range : (i < n) ⊎ (n ≤ i) → ◌≡◌ {A = ℕ} (get_or (replicate n 0) i 0) 0
    by_range (inl l) = get_or-replicate n i 0 0 l
    by_range (inr g) = let z : ℕ = 0 in get_or_past (replicate n z) i z (rw (length-replicate n z) g)

pub length-placed : (world : World) (place row : ℕ) → length (placed world place row) ≡ world.places
length-placed world place row =
    let z : ℕ = 0 in length-set (replicate world.places z) place row ∙ length-replicate world.places z

pub placed_there : (world : World) (place row : ℕ) → place < world.places
    → get_or (placed world place row) place 0 ≡ row
placed_there world place row i =
    let z : ℕ = 0 in get_or-set_same (replicate world.places z) place row 0 (rw (length-replicate world.places z) i)

pub placed_elsewhere : (world : World) (place row other : ℕ) → single place other ≡ false
    → get_or (placed world place row) other 0 ≡ 0
placed_elsewhere world place row other h =
    let z : ℕ = 0 in get_or-set_other (replicate world.places z) place other row 0 (λ e. false≢true (sym h
    ∙ eq-eqb place other (sym e))) ∙ zero_at world.places other
