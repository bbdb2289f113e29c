-- The kept combinations rise.
use Rattle.std.proofs.Common.{ℕ, ◌≡◌, ◌<◌, ◌++◌, suc, zero, false, List, [], ◌∷◌, map, ap, sym, ◌∙◌, refl, subst, arith}
use Rattle.std.proofs.Common.{append-nil}
use Rattle.std.specs.Prelude.{All, flat_map}
use Rattle.std.proofs.lemmas.Bool.{ne_eqb, eq-eqb, le-ltb}
use Rattle.std.proofs.lemmas.List.Elements.{All-nil, All-cons, All-head, All-tail, All-append, All-map}
use Rattle.std.proofs.lemmas.List.Concat.{flat_map-append}
use Rattle.row_values.specs.RowNumbers.{row_numbers}
use Rattle.row_values.specs.Sorting.{in_order, Rises}
use Rattle.row_values.proofs.Rising.{below, in_order-rises, filter_rises, append_rises}
use Rattle.statement_meaning.specs.Combinations.{World, combinations, sizes_from, keeps, kept}
use Rattle.statement_meaning.specs.Meaning.{is_lower}

-- each row number is below how many rows its place has
abbrev pub InBox : List ℕ → List ℕ → Type 0
InBox [] [] = Unit {0}
InBox [] (r ∷ rs) = ⊥
InBox (n ∷ ns) [] = ⊥
InBox (n ∷ ns) (r ∷ rs) = (r < n) × InBox ns rs

put_box : (n : ℕ) (ns : List ℕ) (cs : List (List ℕ)) → All (InBox ns) cs → (qs : List ℕ) → All (λ r. r < n) qs
    → All (InBox (n ∷ ns)) (flat_map (λ r. map (λ c. r ∷ c) cs) qs)
put_box n ns cs a [] b = All-nil (InBox (n ∷ ns))
put_box n ns cs a (q ∷ qs) b =
    All-append (InBox (n ∷ ns)) (map (λ c. q ∷ c) cs) _
    (All-map (InBox (n ∷ ns)) (λ c. q ∷ c) cs (λ k d l. (All-head (λ r. r < n) q qs b, a k d l)))
    (put_box n ns cs a qs (All-tail (λ r. r < n) q qs b))

pub all_box : (ns : List ℕ) → All (InBox ns) (combinations ns)
all_box [] = All-cons (InBox []) [] [] tt (All-nil (InBox []))
all_box (n ∷ ns) = put_box n ns (combinations ns) (all_box ns) (row_numbers n) (below n)

same_front : (r : ℕ) (a b : List ℕ) → is_lower (r ∷ a) (r ∷ b) ≡ is_lower a b
same_front r a b = rw (le-ltb r r (omega arith), eq-eqb r r refl) refl

less_front : (q r : ℕ) (a b : List ℕ) → q < r → is_lower (r ∷ a) (q ∷ b) ≡ false
less_front q r a b h = rw (le-ltb r q (omega (arith, h)), ne_eqb r q (λ e. omega (arith, h, e))) refl

fronts_rise : (r : ℕ) (cs : List (List ℕ)) → Rises is_lower cs → Rises is_lower (map (λ c. r ∷ c) cs)
fronts_rise r [] h = tt
fronts_rise r (c ∷ cs) h = (
  All-map (λ y. is_lower y (r ∷ c) ≡ false) (λ d. r ∷ d) cs (λ k d l. same_front r _ c ∙ h.0 k d l),
  fronts_rise r cs h.1,
)

above_box : (n : ℕ) (ns : List ℕ) (cs : List (List ℕ)) (z : List ℕ) → InBox (n ∷ ns) z
    → All (λ y. is_lower y z ≡ false) (map (λ c. n ∷ c) cs)
above_box n ns cs [] b = absurd b
above_box n ns cs (q ∷ qs) b =
    All-map (λ y. is_lower y (q ∷ qs) ≡ false) (λ c. n ∷ c) cs (λ k d l. less_front q n _ qs b.0)

fronts_all_rise : (n : ℕ) (ns : List ℕ) (cs : List (List ℕ)) → Rises is_lower cs → All (InBox ns) cs
    → Rises is_lower (flat_map (λ r. map (λ c. r ∷ c) cs) (row_numbers n))
fronts_all_rise zero ns cs r a = tt
fronts_all_rise (suc n) ns cs r a =
    subst (Rises is_lower)
    (sym (flat_map-append (λ r. map (λ c. r ∷ c) cs) (row_numbers n) (n ∷ [])
    ∙ ap (λ (zs : List (List ℕ)). flat_map (λ r. map (λ c. r ∷ c) cs) (row_numbers n)
    ++ zs) (append-nil (map (λ c. n ∷ c) cs))))
    (append_rises is_lower (flat_map (λ r. map (λ c. r ∷ c) cs) (row_numbers n)) (map (λ c. n ∷ c) cs)
    (fronts_all_rise n ns cs r a) (fronts_rise n cs r)
    (λ k d l. above_box n ns cs _ (put_box n ns cs a (row_numbers n) (below n) k d l)))

combinations_rise : (ns : List ℕ) → Rises is_lower (combinations ns)
combinations_rise [] = (All-nil (λ y. is_lower y [] ≡ false), tt)
combinations_rise (n ∷ ns) = fronts_all_rise n ns (combinations ns) (combinations_rise ns) (all_box ns)

-- the kept combinations are in lexicographic order
pub kept_rises : (world : World) → Rises is_lower (kept world)
kept_rises world =
    filter_rises is_lower (keeps world) (combinations (sizes_from world 0 world.places))
    (combinations_rise (sizes_from world 0 world.places))

-- so a sort of them by row numbers changes nothing
pub in_order-kept : (world : World) → in_order is_lower (kept world) ≡ kept world
in_order-kept world = in_order-rises is_lower (kept world) (kept_rises world)
