-- The kept combinations are those over all places, each once; and lists that have each once are the same but for their
-- order.
use Rattle.std.proofs.Common.{ℕ, ◌≡◌, ◌<◌, ◌+◌, suc, zero, Bool, true, false, ◌&&◌, ◌==◌, List, [], ◌∷◌, length, get_or}
use Rattle.std.proofs.Common.{map, cond, ap, sym, ◌∙◌, refl, arith, subst, add-zero, zero-add}
use Rattle.std.specs.Prelude.{filter, flat_map, All, IsPermutation, IsSome, nat_eq}
use Rattle.std.proofs.lemmas.Bool.{false≢true, and_parts, ltb-true, ltb-false, lt-ltb, ne_eqb}
use Rattle.std.proofs.lemmas.List.{get_or_past}
use Rattle.std.proofs.lemmas.List.Elements.{All-head, All-tail, All-filter, All-weaker, filter_passes}
use Rattle.row_values.specs.Statements.{Statement, IsSoundQuery, IsEdge, IsColumn, kind_at}
use Rattle.row_values.specs.declared.values.Value.{Value}
use Rattle.row_values.specs.declared.statement.ColRef.{ColRef}
use Rattle.row_values.specs.declared.statement.Edge.{Edge}
use Rattle.row_values.specs.declared.statement.Place.{Place}
use Rattle.row_values.specs.RowNumbers.{row_numbers}
use Rattle.statement_meaning.specs.Combinations.{World, combinations, sizes_from, rows_pass, edges_hold, keeps, kept}
use Rattle.statement_meaning.specs.Combinations.{world_of}
use Rattle.statement_meaning.specs.Meaning.{is_lower, rows_shown, shape_of, meaning_of}
use Rattle.statement_meaning.specs.PartialCombinations.{all_places, HasSoundEdges, is_inside, Fits, is_same, Once}
use Rattle.row_values.specs.Sorting.{in_order, times}
use Rattle.row_values.proofs.Counting.{exact_lists, HaveSame, times-append, times-filter, times_row_numbers, times_all}
use Rattle.row_values.proofs.Counting.{all_of_same, same_from_permutation}
use Rattle.statement_meaning.proofs.FullOrders.{lower_full}
use Rattle.row_values.proofs.InOrder.{in_order_same, times_in_order}
use Rattle.statement_meaning.proofs.KeptOrder.{InBox, all_box, in_order-kept}

-- A sound statement has sound edges.

is_there : (places : List Place) (number column : ℕ)
    → IsSome (kind_at places (record { place = number; column = column })) → number < length places
is_there [] number column h = absurd (false≢true h)
is_there (place ∷ places) zero column h = omega arith
is_there (place ∷ places) (suc number) column h = let less = is_there places number column h in omega (arith, less)

there : (places : List Place) (at : ColRef) → IsColumn places at → at.place < length places
there places at h = is_there places at.place at.column h

pub sound_edges : (q : Statement) (tables : List (List (List Value))) (args : List Value) → IsSoundQuery q
    → HasSoundEdges (world_of q tables args)
sound_edges q tables args s = record {
  there =
      All-weaker (IsEdge q.places) (λ edge. (edge.left.place < length q.places) × (edge.right.place < length q.places))
      (λ edge e. (there q.places edge.left e.there, there q.places edge.right (subst IsSome e.one_kind e.there)))
      q.edges s.edges;
  two_places =
      All-weaker (IsEdge q.places) (λ edge. (edge.left.place == edge.right.place) ≡ false)
      (λ edge e. ne_eqb edge.left.place edge.right.place e.two_places) q.edges s.edges;
}

-- Over all places every edge is inside.
all_inside : (world : World) (es : List Edge)
    → All (λ edge. (edge.left.place < world.places) × (edge.right.place < world.places)) es
    → filter (is_inside (all_places world)) es ≡ es
all_inside world [] a = refl
all_inside world (edge ∷ es) a =
    let here = All-head (λ edge. (edge.left.place < world.places) × (edge.right.place < world.places)) edge es a in
    rw (
      lt-ltb edge.left.place world.places here.0,
      lt-ltb edge.right.place world.places here.1,
      all_inside world es (All-tail (λ edge. (edge.left.place < world.places)
          × (edge.right.place < world.places)) edge es a),
    )
    refl

-- Combinations within the sizes, whose rows pass.

-- the row of a place is one of its rows and meets the predicates on it
abbrev IsGood : World → ℕ → ℕ → Type 0
IsGood world place row = (row < world.size place) × (world.passes place row ≡ true)

good_box : (world : World) (n t : ℕ) (c : List ℕ) → length c ≡ n
    → ((i : ℕ) → i < n → IsGood world (t + i) (get_or c i 0))
    → InBox (sizes_from world t n) c × (rows_pass world t c ≡ true)
good_box world zero t [] l h = (tt, refl)
good_box world zero t (row ∷ rows) l h = absurd (omega (arith, l))
good_box world (suc n) t [] l h = absurd (omega (arith, l))
good_box world (suc n) t (row ∷ rows) l h =
    let one : IsGood world t row = rw add-zero at (h zero (omega arith)) in
    let more = good_box world n (suc t) rows (omega (arith, l)) (λ i k. let e : t + suc i ≡ suc t + i =
    omega arith in rw e at (h (suc i) (omega (arith, k)))) in
    ((one.0, more.0), rw (one.1, more.1) refl)

box_good : (world : World) (n t : ℕ) (c : List ℕ) → InBox (sizes_from world t n) c → rows_pass world t c ≡ true
    → (length c ≡ n) × ((i : ℕ) → i < n → IsGood world (t + i) (get_or c i 0))
box_good world zero t [] b p = (refl, λ i k. absurd (omega (arith, k)))
box_good world zero t (row ∷ rows) b p = absurd b
box_good world (suc n) t [] b p = absurd b
box_good world (suc n) t (row ∷ rows) b p =
    let passed = and_parts (world.passes t row) (rows_pass world (suc t) rows) p in
    let more = box_good world n (suc t) rows b.1 passed.1 in
    (ap suc more.0, λ i k. at_place passed.0 more.1 i k)
  where
    at_place : world.passes t row ≡ true → ((i : ℕ) → i < n → IsGood world (suc t + i) (get_or rows i 0)) → (i : ℕ)
        → i < suc n → IsGood world (t + i) (get_or (row ∷ rows) i 0)
    at_place q m zero k = rw add-zero (b.0, q)
    at_place q m (suc i) k = let e : t + suc i ≡ suc t + i = omega arith in rw e (m i (omega (arith, k)))

-- Each combination within the sizes stands once in the list of all.

front_times : (r : ℕ) (c : List ℕ) (q : ℕ) (cs : List (List ℕ))
    → times is_same (r ∷ c) (map (λ d. q ∷ d) cs) ≡ cond (r == q) (times is_same c cs) 0
front_times r c q [] = elim (r == q) as (λ b. ◌≡◌ {A = ℕ} 0 (cond b 0 0)) [ true ↦ refl | false ↦ refl ]
front_times r c q (d ∷ ds) =
    rw (front_times r c q ds)
    (elim (r == q) as (λ b. ◌≡◌ {A =
    ℕ} (cond (b && is_same c d) (suc (cond b (times is_same c ds) 0)) (cond b (times is_same c ds) 0))
    (cond b (cond (is_same c d) (suc (times is_same c ds)) (times is_same c ds)) 0)) [ true ↦ refl | false ↦ refl ])

fronts_times : (r : ℕ) (c : List ℕ) (cs : List (List ℕ)) → times is_same c cs ≡ 1 → (qs : List ℕ)
    → times is_same (r ∷ c) (flat_map (λ q. map (λ d. q ∷ d) cs) qs) ≡ times nat_eq r qs
fronts_times r c cs h [] = refl
fronts_times r c cs h (q ∷ qs) =
    times-append is_same (r ∷ c) (map (λ d. q ∷ d) cs) (flat_map (λ q. map (λ d. q ∷ d) cs) qs)
    ∙ rw (front_times r c q cs, fronts_times r c cs h qs, h)
    (elim (r == q) as (λ b. ◌≡◌ {A =
    ℕ} (cond b 1 0 + times nat_eq r qs) (cond b (suc (times nat_eq r qs)) (times nat_eq r qs)))
    [ true ↦ omega arith | false ↦ omega arith ])

box_times : (ns c : List ℕ) → InBox ns c → times is_same c (combinations ns) ≡ 1
box_times [] [] b = refl
box_times [] (r ∷ rs) b = absurd b
box_times (n ∷ ns) [] b = absurd b
box_times (n ∷ ns) (r ∷ rs) b =
    fronts_times r rs (combinations ns) (box_times ns rs b.1) (row_numbers n) ∙ times_row_numbers n r b.0

-- The kept combinations have each combination over all places once, and no other.
pub kept_once : (world : World) → HasSoundEdges world → Once world (all_places world) (kept world)
kept_once world sound = record {
  only = λ k d l.
      let passed = filter_passes (keeps world) (combinations (sizes_from world 0 world.places)) k d l in
      let box = All-filter (keeps world) (InBox (sizes_from world 0 world.places))
      (combinations (sizes_from world 0 world.places)) (all_box (sizes_from world 0 world.places)) k d l in
      fits (get_or (kept world) k d) box passed;
  once = λ c f.
      let good = good_box world world.places 0 c f.long (λ i h. rw zero-add (f.within i (lt-ltb i world.places h))) in
      let edges : edges_hold world world.edges c ≡ true =
      ap (λ (es : List Edge). edges_hold world es c) (sym (all_inside world world.edges sound.there)) ∙ f.met in
      times-filter is_same exact_lists (keeps world) c (rw (good.1, edges) refl)
      (combinations (sizes_from world 0 world.places))
      ∙ box_times (sizes_from world 0 world.places) c good.0;
}
  where
    fits : (c : List ℕ) → InBox (sizes_from world 0 world.places) c → keeps world c ≡ true
        → Fits world (all_places world) c
    fits c box passed =
        let both = and_parts (rows_pass world 0 c) (edges_hold world world.edges c) passed in
        let good = box_good world world.places 0 c box both.0 in
        record {
          long = good.0;
          within = λ place h. rw zero-add at (good.1 place (ltb-true place world.places h));
          zeros = λ place h. get_or_past c place 0 (omega (arith, good.0, ltb-false place world.places h));
          met = ap (λ (es : List Edge). edges_hold world es c) (all_inside world world.edges sound.there) ∙ both.1;
        }

-- Lists that have each combination once.

-- two of them have the same elements
pub once_same : (world : World) (places : ℕ → Bool) (xs ys : List (List ℕ)) → Once world places xs
    → Once world places ys → HaveSame is_same xs ys
once_same world places xs ys a b c = by_count (times is_same c xs) refl (times is_same c ys) refl
  where
    by_count : (m : ℕ) → times is_same c xs ≡ m → (n : ℕ) → times is_same c ys ≡ n
        → times is_same c xs ≡ times is_same c ys
    by_count zero e zero f = e ∙ sym f
    by_count (suc m) e n f =
        let fit : Fits world places c = times_all is_same exact_lists (Fits world places) c m xs a.only e
        in a.once c fit ∙ sym (b.once c fit)
    by_count zero e (suc n) f =
        let fit : Fits world places c = times_all is_same exact_lists (Fits world places) c n ys b.only f
        in a.once c fit ∙ sym (b.once c fit)

-- and a list with the same elements is another
pub once_of_same : (world : World) (places : ℕ → Bool) (xs ys : List (List ℕ)) → HaveSame is_same xs ys
    → Once world places xs → Once world places ys
once_of_same world places xs ys h o = record {
  only = all_of_same is_same exact_lists (Fits world places) xs ys h o.only;
  once = λ c f. sym (h c) ∙ o.once c f;
}

-- so a sort keeps them, by whatever order
pub once_in_order : (world : World) (places : ℕ → Bool) (lt : List ℕ → List ℕ → Bool) (cs : List (List ℕ))
    → Once world places cs → Once world places (in_order lt cs)
once_in_order world places lt cs o =
    once_of_same world places cs (in_order lt cs) (λ c. sym (times_in_order is_same lt cs c)) o

pub once_permuted : (world : World) (places : ℕ → Bool) (cs ds : List (List ℕ)) → IsPermutation cs ds
    → Once world places cs → Once world places ds
once_permuted world places cs ds p o = once_of_same world places cs ds (same_from_permutation is_same cs ds p) o

-- one set of places may stand for another that has the same places
pub once_places : (world : World) (places others : ℕ → Bool) → ((place : ℕ) → places place ≡ others place)
    → (cs : List (List ℕ)) → Once world places cs → Once world others cs
once_places world places others h cs o = subst (λ (s : ℕ → Bool). Once world s cs) (λ i place. h place i) o

-- Over all places, a list that has each combination once is the kept combinations in some order,
pub once_is_kept : (world : World) → HasSoundEdges world → (cs : List (List ℕ)) → Once world (all_places world) cs
    → in_order is_lower cs ≡ kept world
once_is_kept world sound cs o =
    in_order_same is_same exact_lists is_lower lower_full cs (kept world)
    (once_same world (all_places world) cs (kept world) o (kept_once world sound))
    ∙ in_order-kept world

-- and the other way round;
pub kept_is_once : (world : World) → HasSoundEdges world → (cs : List (List ℕ)) → in_order is_lower cs ≡ kept world
    → Once world (all_places world) cs
kept_is_once world sound cs e =
    once_of_same world (all_places world) (kept world) cs
    (λ c. ap (times is_same c) (sym e) ∙ times_in_order is_same is_lower cs c) (kept_once world sound)

-- its shape is what the statement means,
pub once_means : (q : Statement) (tables : List (List (List Value))) (args : List Value) → IsSoundQuery q
    → (cs : List (List ℕ)) → Once (world_of q tables args) (all_places (world_of q tables args)) cs
    → shape_of q tables cs ≡ meaning_of q tables args
once_means q tables args s cs o =
    ap (rows_shown tables q.items q.groups q.order)
    (once_is_kept (world_of q tables args) (sound_edges q tables args s) cs o
    ∙ sym (in_order-kept (world_of q tables args)))

-- and among its members that pass a test, such as those of a group, each that fits and passes stands once.
pub once_filtered : (world : World) (places : ℕ → Bool) (cs : List (List ℕ)) → Once world places cs
    → (p : List ℕ → Bool) (c : List ℕ) → Fits world places c → p c ≡ true → times is_same c (filter p cs) ≡ 1
once_filtered world places cs o p c f h = times-filter is_same exact_lists p c h cs ∙ o.once c f
