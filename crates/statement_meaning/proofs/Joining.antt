-- The join of two lists that have each combination of their side once has each combination of both sides once.
use Rattle.std.proofs.Common.{ℕ, ◌≡◌, ◌<◌, ◌+◌, suc, Bool, true, false, ◌&&◌, ◌||◌, List, [], ◌∷◌, length, get_or, map}
use Rattle.std.proofs.Common.{cond, ap, sym, ◌∙◌, refl, arith}
use Rattle.std.specs.Prelude.{filter, All}
use Rattle.std.proofs.lemmas.Bool.{false≢true, or_left, or_right, or_parts}
use Rattle.std.proofs.lemmas.List.{ext_get_or}
use Rattle.std.proofs.lemmas.List.Elements.{All-nil, All-cons, All-head, All-tail, All-append, All-filter}
use Rattle.row_values.specs.declared.statement.Edge.{Edge}
use Rattle.statement_meaning.specs.Combinations.{World, edge_holds, edges_hold}
use Rattle.statement_meaning.specs.PartialCombinations.{either, AreApart, is_inside, is_between, edges_inside}
use Rattle.statement_meaning.specs.PartialCombinations.{edges_between, Fits, is_same, Once, merged, joined, Offers}
use Rattle.row_values.specs.Sorting.{times}
use Rattle.row_values.proofs.Counting.{exact_lists, times-append, times-filter}
use Rattle.statement_meaning.proofs.Merging.{length-merged, merged_first, merged_second, restricted, length-restricted}
use Rattle.statement_meaning.proofs.Merging.{restricted_in, restricted_out}

-- Edges.

-- edges of a list where one more is in or out
one_more : (world : World) (b : Bool) (edge : Edge) (es : List Edge) (c : List ℕ)
    → edges_hold world (cond b (edge ∷ es) es) c ≡ (cond b (edge_holds world edge c) true && edges_hold world es c)
one_more world true edge es c = refl
one_more world false edge es c = refl

and_true : (k : Bool) → (k && true) ≡ k
and_true true = refl
and_true false = refl

-- an edge whose ends are in both sets together: in the one, in the other, or between
split_edge : (a b x y h h1 h2 : Bool) → (a ≡ true → x ≡ false) → (b ≡ true → y ≡ false) → (a ≡ true → b ≡ true → h1 ≡ h)
    → (x ≡ true → y ≡ true → h2 ≡ h) →
    cond ((a || x) && (b || y)) h true
    ≡ ((cond (a && b) h1 true && cond (x && y) h2 true) && cond ((a && y) || (b && x)) h true)
split_edge true b true y h h1 h2 p q f g = absurd (false≢true (sym (p refl)))
split_edge a true x true h h1 h2 p q f g = absurd (false≢true (sym (q refl)))
split_edge true true false false h h1 h2 p q f g = rw (f refl refl) (sym (and_true (h && true) ∙ and_true h))
split_edge true false false true h h1 h2 p q f g = refl
split_edge true false false false h h1 h2 p q f g = refl
split_edge false true true false h h1 h2 p q f g = refl
split_edge false true false false h h1 h2 p q f g = refl
split_edge false false true true h h1 h2 p q f g = rw (g refl refl) (sym (and_true h))
split_edge false false true false h h1 h2 p q f g = refl
split_edge false false false true h h1 h2 p q f g = refl
split_edge false false false false h h1 h2 p q f g = refl

six : (a1 a2 a3 b1 b2 b3 : Bool)
    → (((a1 && a2) && a3) && ((b1 && b2) && b3)) ≡ (((a1 && b1) && (a2 && b2)) && (a3 && b3))
six true true true b1 b2 b3 = refl
six true true false true true b3 = refl
six true true false true false b3 = refl
six true true false false b2 b3 = refl
six true false a3 true b2 b3 = refl
six true false a3 false b2 b3 = refl
six false a2 a3 b1 b2 b3 = refl

-- the rows of one combination at the places of a set are those of another
abbrev pub AgreeOn : (ℕ → Bool) → List ℕ → List ℕ → Type 0
AgreeOn places c d = (place : ℕ) → places place ≡ true → get_or c place 0 ≡ get_or d place 0

-- an edge inside the set doesn't tell them apart
edge_agrees : (world : World) (places : ℕ → Bool) (c d : List ℕ) → AgreeOn places c d → (edge : Edge)
    → places edge.left.place ≡ true → places edge.right.place ≡ true → edge_holds world edge c ≡ edge_holds world edge d
edge_agrees world places c d h edge l r =
    ap (λ (row : ℕ). world.agree edge row (get_or c edge.right.place 0)) (h edge.left.place l)
    ∙ ap (λ (row : ℕ). world.agree edge (get_or d edge.left.place 0) row) (h edge.right.place r)

-- the edges inside two sets together are those inside the one, those inside the other and those between
split_edges : (world : World) (outer inner : ℕ → Bool) → AreApart outer inner → (c c1 c2 : List ℕ) → AgreeOn outer c1 c
    → AgreeOn inner c2 c → (es : List Edge) →
    edges_hold world (filter (is_inside (either outer inner)) es) c
    ≡ ((edges_hold world (filter (is_inside outer) es) c1 && edges_hold world (filter (is_inside inner) es) c2)
    && edges_hold world (filter (is_between outer inner) es) c)
split_edges world outer inner apart c c1 c2 h1 h2 [] = refl
split_edges world outer inner apart c c1 c2 h1 h2 (edge ∷ es) =
    let a = outer edge.left.place in
    let b = outer edge.right.place in
    let x = inner edge.left.place in
    let y = inner edge.right.place in
    rw (
      one_more world ((a || x) && (b || y)) edge (filter (is_inside (either outer inner)) es) c,
      one_more world (a && b) edge (filter (is_inside outer) es) c1,
      one_more world (x && y) edge (filter (is_inside inner) es) c2,
      one_more world ((a && y) || (b && x)) edge (filter (is_between outer inner) es) c,
      split_edge a b x y (edge_holds world edge c) (edge_holds world edge c1) (edge_holds world edge c2)
          (apart edge.left.place) (apart edge.right.place) (edge_agrees world outer c1 c h1 edge)
          (edge_agrees world inner c2 c h2 edge),
      split_edges world outer inner apart c c1 c2 h1 h2 es,
    )
    (six (cond (a && b) (edge_holds world edge c1) true) (cond (x && y) (edge_holds world edge c2) true)
    (cond ((a && y) || (b && x)) (edge_holds world edge c) true)
    (edges_hold world (filter (is_inside outer) es) c1) (edges_hold world (filter (is_inside inner) es) c2)
    (edges_hold world (filter (is_between outer inner) es) c))

-- Fitting.

pub swap_apart : (outer inner : ℕ → Bool) → AreApart outer inner → AreApart inner outer
swap_apart outer inner apart place r = by_test (outer place) refl
  where
    by_test : (b : Bool) → outer place ≡ b → outer place ≡ false
    by_test true l = absurd (false≢true (sym (apart place l) ∙ r))
    by_test false l = l

-- what a combination over both sets has at the places of each fits that set, and it meets the edges between
record Parts (world : World) (outer : ℕ → Bool) (inner : ℕ → Bool) (c : List ℕ) : Type 0 where
  first : Fits world outer (restricted outer c)
  second : Fits world inner (restricted inner c)
  between : edges_hold world (edges_between world outer inner) c ≡ true

parts : (world : World) (outer inner : ℕ → Bool) → AreApart outer inner → (c : List ℕ)
    → Fits world (either outer inner) c → Parts world outer inner c
parts world outer inner apart c f = record {
  first = record {
    long = length-restricted outer c ∙ f.long;
    within = λ place h. rw (restricted_in outer c place h) (f.within place (or_left (outer place) (inner place) h));
    zeros = λ place h. restricted_out outer c place h;
    met = met.0;
  };
  second = record {
    long = length-restricted inner c ∙ f.long;
    within = λ place h. rw (restricted_in inner c place h) (f.within place (or_right (outer place) (inner place) h));
    zeros = λ place h. restricted_out inner c place h;
    met = met.1;
  };
  between = met.2;
}
  where
    three : (x y z : Bool) → ((x && y) && z) ≡ true → (x ≡ true) × (y ≡ true) × (z ≡ true)
    three true true z h = (refl, refl, h)
    three true false z h = absurd (false≢true h)
    three false y z h = absurd (false≢true h)

    met : (edges_hold world (edges_inside world outer) (restricted outer c) ≡ true)
        × (edges_hold world (edges_inside world inner) (restricted inner c) ≡ true)
        × (edges_hold world (edges_between world outer inner) c ≡ true)
    met =
        three _ _ _
        (sym (split_edges world outer inner apart c (restricted outer c) (restricted inner c) (restricted_in outer c)
        (restricted_in inner c) world.edges) ∙ f.met)

-- and combinations that fit each set fit both together where they meet the edges between
pub merged_fits : (world : World) (outer inner : ℕ → Bool) → AreApart outer inner → (c d : List ℕ) → Fits world outer c
    → Fits world inner d → edges_hold world (edges_between world outer inner) (merged outer c d) ≡ true
    → Fits world (either outer inner) (merged outer c d)
merged_fits world outer inner apart c d f g h = record {
  long = length-merged outer c d l ∙ f.long;
  within = λ place e. by_side place e (outer place) refl;
  zeros =
      λ place e. let no = or_parts (outer place) (inner place) e in merged_second outer c d l place no.0
      ∙ g.zeros place no.1;
  met =
      split_edges world outer inner apart (merged outer c d) c d (λ place e. sym (merged_first outer c d l place e))
      (λ place e. sym (merged_second outer c d l place (swap_apart outer inner apart place e))) world.edges
      ∙ rw (f.met, g.met, h) refl;
}
  where
    l : length c ≡ length d
    l = f.long ∙ sym g.long

    by_side : (place : ℕ) → either outer inner place ≡ true → (b : Bool) → outer place ≡ b
        → (get_or (merged outer c d) place 0 < world.size place)
        × (world.passes place (get_or (merged outer c d) place 0) ≡ true)
    by_side place e true k = rw (merged_first outer c d l place k) (f.within place k)
    by_side place e false k =
        rw (merged_second outer c d l place k) (g.within place (ap (λ (b : Bool). b || inner place) (sym k) ∙ e))

-- Parts of merged combinations, and a combination of its parts.

pub first_of_merged : (world : World) (outer inner : ℕ → Bool) → AreApart outer inner → (c d : List ℕ)
    → Fits world outer c → Fits world inner d → restricted outer (merged outer c d) ≡ c
first_of_merged world outer inner apart c d f g =
    ext_get_or 0 _ c (length-restricted outer (merged outer c d) ∙ length-merged outer c d l)
    (λ place k. by_side place (outer place) refl)
  where
    l : length c ≡ length d
    l = f.long ∙ sym g.long

    by_side : (place : ℕ) (b : Bool) → outer place ≡ b
        → get_or (restricted outer (merged outer c d)) place 0 ≡ get_or c place 0
    by_side place true k = restricted_in outer (merged outer c d) place k ∙ merged_first outer c d l place k
    by_side place false k = restricted_out outer (merged outer c d) place k ∙ sym (f.zeros place k)

pub second_of_merged : (world : World) (outer inner : ℕ → Bool) → AreApart outer inner → (c d : List ℕ)
    → Fits world outer c → Fits world inner d → restricted inner (merged outer c d) ≡ d
second_of_merged world outer inner apart c d f g =
    ext_get_or 0 _ d (length-restricted inner (merged outer c d) ∙ (length-merged outer c d l ∙ l))
    (λ place k. by_side place (inner place) refl)
  where
    l : length c ≡ length d
    l = f.long ∙ sym g.long

    by_side : (place : ℕ) (b : Bool) → inner place ≡ b
        → get_or (restricted inner (merged outer c d)) place 0 ≡ get_or d place 0
    by_side place true k =
        restricted_in inner (merged outer c d) place k
        ∙ merged_second outer c d l place (swap_apart outer inner apart place k)
    by_side place false k = restricted_out inner (merged outer c d) place k ∙ sym (g.zeros place k)

pub merged_parts : (world : World) (outer inner : ℕ → Bool) → (c : List ℕ) → Fits world (either outer inner) c
    → merged outer (restricted outer c) (restricted inner c) ≡ c
merged_parts world outer inner c f =
    ext_get_or 0 _ c (length-merged outer (restricted outer c) (restricted inner c) l ∙ length-restricted outer c)
    (λ place k. by_side place (outer place) refl (inner place) refl)
  where
    l : length (restricted outer c) ≡ length (restricted inner c)
    l = length-restricted outer c ∙ sym (length-restricted inner c)

    by_side : (place : ℕ) (a : Bool) → outer place ≡ a → (b : Bool) → inner place ≡ b
        → get_or (merged outer (restricted outer c) (restricted inner c)) place 0 ≡ get_or c place 0
    by_side place true e b k =
        merged_first outer (restricted outer c) (restricted inner c) l place e ∙ restricted_in outer c place e
    by_side place false e true k =
        merged_second outer (restricted outer c) (restricted inner c) l place e ∙ restricted_in inner c place k
    by_side place false e false k =
        merged_second outer (restricted outer c) (restricted inner c) l place e
        ∙ (restricted_out inner c place k ∙ sym (f.zeros place (ap (λ (b : Bool). b || inner place) e ∙ k)))

-- Counting.

-- a combination is made of two where its parts are these two
same_merged : (world : World) (outer inner : ℕ → Bool) → AreApart outer inner → (e : List ℕ)
    → Fits world (either outer inner) e → (c d : List ℕ) → Fits world outer c → Fits world inner d →
    is_same e (merged outer c d) ≡ (is_same (restricted outer e) c && is_same (restricted inner e) d)
same_merged world outer inner apart e fe c d f g = by_whole (is_same e (merged outer c d)) refl
  where
    by_parts : (x : Bool) → is_same (restricted outer e) c ≡ x → (y : Bool) → is_same (restricted inner e) d ≡ y
        → is_same e (merged outer c d) ≡ false → false ≡ (x && y)
    by_parts true p true q n =
        let one : restricted outer e ≡ c = exact_lists.one (restricted outer e) c p in
        let two : restricted inner e ≡ d = exact_lists.one (restricted inner e) d q in
        let whole : merged outer c d ≡ e = ap (λ (z : List ℕ). merged outer z d) (sym one)
        ∙ (ap (merged outer (restricted outer e)) (sym two) ∙ merged_parts world outer inner e fe) in
        absurd (false≢true (sym n ∙ (ap (is_same e) whole ∙ exact_lists.itself e)))
    by_parts true p false q n = refl
    by_parts false p y q n = refl

    by_whole : (b : Bool) → is_same e (merged outer c d) ≡ b
        → is_same e (merged outer c d) ≡ (is_same (restricted outer e) c && is_same (restricted inner e) d)
    by_whole true k =
        let whole : e ≡ merged outer c d = exact_lists.one e (merged outer c d) k in
        let one : restricted outer e ≡ c = ap (restricted outer) whole ∙ first_of_merged world outer inner apart c d f g
        in
        let two : restricted inner e ≡ d = ap (restricted inner) whole
        ∙ second_of_merged world outer inner apart c d f g in
        k ∙ sym (rw (one, two, exact_lists.itself c, exact_lists.itself d) refl)
    by_whole false k = k ∙ by_parts (is_same (restricted outer e) c) refl (is_same (restricted inner e) d) refl k

-- how often it stands among those that one combination of the outer side makes
times_merged : (world : World) (outer inner : ℕ → Bool) → AreApart outer inner → (e : List ℕ)
    → Fits world (either outer inner) e → (c : List ℕ) → Fits world outer c → (ds : List (List ℕ))
    → All (Fits world inner) ds →
    times is_same e (map (merged outer c) ds)
    ≡ cond (is_same (restricted outer e) c) (times is_same (restricted inner e) ds) 0
times_merged world outer inner apart e fe c f [] a =
    elim (is_same (restricted outer e) c) as (λ b. ◌≡◌ {A = ℕ} 0 (cond b 0 0)) [ true ↦ refl | false ↦ refl ]
times_merged world outer inner apart e fe c f (d ∷ ds) a =
    rw (
      same_merged world outer inner apart e fe c d f (All-head (Fits world inner) d ds a),
      times_merged world outer inner apart e fe c f ds (All-tail (Fits world inner) d ds a),
    )
    (by_tests (is_same (restricted outer e) c) (is_same (restricted inner e) d) (times is_same (restricted inner e) ds))
  where
    by_tests : (x y : Bool) (n : ℕ)
        → ◌≡◌ {A = ℕ} (cond (x && y) (suc (cond x n 0)) (cond x n 0)) (cond x (cond y (suc n) n) 0)
    by_tests true y n = refl
    by_tests false y n = refl

-- one of both sides stands once in what its own first part makes, and not in what another makes
times_piece : (world : World) (outer inner : ℕ → Bool) → AreApart outer inner → (e : List ℕ)
    → Fits world (either outer inner) e → (c : List ℕ) → Fits world outer c → (ds : List (List ℕ))
    → Offers world outer inner c ds →
    times is_same e (filter (edges_hold world (edges_between world outer inner)) (map (merged outer c) ds))
    ≡ cond (is_same (restricted outer e) c) 1 0
times_piece world outer inner apart e fe c f ds o =
    times-filter is_same exact_lists (edges_hold world (edges_between world outer inner)) e p.between
    (map (merged outer c) ds)
    ∙ (times_merged world outer inner apart e fe c f ds o.only ∙ by_test (is_same (restricted outer e) c) refl)
  where
    p : Parts world outer inner e
    p = parts world outer inner apart e fe

    by_test : (b : Bool) → is_same (restricted outer e) c ≡ b
        → ◌≡◌ {A = ℕ} (cond b (times is_same (restricted inner e) ds) 0) (cond b 1 0)
    by_test true k =
        let whole : merged outer c (restricted inner e) ≡ e =
        ap (λ (z : List ℕ). merged outer z (restricted inner e)) (sym (exact_lists.one (restricted outer e) c k))
        ∙ merged_parts world outer inner e fe in
        o.once (restricted inner e) p.second (ap (edges_hold world (edges_between world outer inner)) whole ∙ p.between)
    by_test false k = refl

times_joined : (world : World) (outer inner : ℕ → Bool) → AreApart outer inner → (offered : List ℕ → List (List ℕ))
    → ((c : List ℕ) → Fits world outer c → Offers world outer inner c (offered c)) → (e : List ℕ)
    → Fits world (either outer inner) e → (cs : List (List ℕ)) → All (Fits world outer) cs →
    times is_same e (joined world outer inner offered cs) ≡ times is_same (restricted outer e) cs
times_joined world outer inner apart offered offers e fe [] a = refl
times_joined world outer inner apart offered offers e fe (c ∷ cs) a =
    let f = All-head (Fits world outer) c cs a in
    times-append is_same e
    (filter (edges_hold world (edges_between world outer inner)) (map (merged outer c) (offered c)))
    (joined world outer inner offered cs)
    ∙ rw (
      times_piece world outer inner apart e fe c f (offered c) (offers c f),
      times_joined world outer inner apart
          offered offers e fe cs (All-tail (Fits world outer) c cs a),
    )
    (elim (is_same (restricted outer e) c) as (λ b. ◌≡◌ {A = ℕ} (cond b 1 0 + times is_same (restricted outer e) cs)
    (cond b (suc (times is_same (restricted outer e) cs)) (times is_same (restricted outer e) cs)))
    [ true ↦ omega arith | false ↦ omega arith ])

-- each of what is made fits both sides
piece_fits : (world : World) (outer inner : ℕ → Bool) → AreApart outer inner → (c : List ℕ) → Fits world outer c
    → (ds : List (List ℕ)) → All (Fits world inner) ds
    → All (Fits world (either outer inner)) (filter (edges_hold world (edges_between world outer inner))
    (map (merged outer c) ds))
piece_fits world outer inner apart c f [] a = All-nil (Fits world (either outer inner))
piece_fits world outer inner apart c f (d ∷ ds) a =
    by_test (edges_hold world (edges_between world outer inner) (merged outer c d)) refl
    (piece_fits world outer inner apart c f ds (All-tail (Fits world inner) d ds a))
  where
    by_test : (b : Bool) → edges_hold world (edges_between world outer inner) (merged outer c d) ≡ b
        → All (Fits world (either outer inner)) (filter (edges_hold world (edges_between world outer inner))
        (map (merged outer c) ds)) →
        All (Fits world (either outer inner))
        (cond b (merged outer c d ∷ filter (edges_hold world (edges_between world outer inner))
        (map (merged outer c) ds)) (filter (edges_hold world (edges_between world outer inner))
        (map (merged outer c) ds)))
    by_test true k more =
        All-cons (Fits world (either outer inner)) (merged outer c d) _
        (merged_fits world outer inner apart c d f (All-head (Fits world inner) d ds a) k) more
    by_test false k more = more

joined_fits : (world : World) (outer inner : ℕ → Bool) → AreApart outer inner → (offered : List ℕ → List (List ℕ))
    → ((c : List ℕ) → Fits world outer c → Offers world outer inner c (offered c)) → (cs : List (List ℕ))
    → All (Fits world outer) cs → All (Fits world (either outer inner)) (joined world outer inner offered cs)
joined_fits world outer inner apart offered offers [] a = All-nil (Fits world (either outer inner))
joined_fits world outer inner apart offered offers (c ∷ cs) a =
    let f = All-head (Fits world outer) c cs a in
    All-append (Fits world (either outer inner)) _ _
    (piece_fits world outer inner apart c f (offered c) (offers c f).only)
    (joined_fits world outer inner apart offered offers cs (All-tail (Fits world outer) c cs a))

-- The join: where each combination of the outer side stands once, and each is offered what it may be joined with, each
-- combination of both sides stands once in what is made.
pub joined_once : (world : World) (outer inner : ℕ → Bool) → AreApart outer inner
    → (offered : List ℕ → List (List ℕ)) (cs : List (List ℕ))
    → ((c : List ℕ) → Fits world outer c → Offers world outer inner c (offered c)) → Once world outer cs
    → Once world (either outer inner) (joined world outer inner offered cs)
joined_once world outer inner apart offered cs offers o = record {
  only = joined_fits world outer inner apart offered offers cs o.only;
  once =
      λ e fe. times_joined world outer inner apart offered offers e fe cs o.only
      ∙ o.once (restricted outer e) (parts world outer inner apart e fe).first;
}

-- What is offered.

-- all of the inner side: the nested loop
pub all_offered : (world : World) (outer inner : ℕ → Bool) (c : List ℕ) (ds : List (List ℕ)) → Once world inner ds
    → Offers world outer inner c ds
all_offered world outer inner c ds o = record { only = o.only; once = λ d g h. o.once d g }

-- those of the inner side that pass a test which all pass that meet the edges between: the hash join, and each join
-- that looks a key up
pub passing_offered : (world : World) (outer inner : ℕ → Bool) (c : List ℕ) (ds : List (List ℕ)) (p : List ℕ → Bool)
    → Once world inner ds
    → ((d : List ℕ) → Fits world inner d → edges_hold world (edges_between world outer inner) (merged outer c d) ≡ true
    → p d ≡ true)
    → Offers world outer inner c (filter p ds)
passing_offered world outer inner c ds p o h = record {
  only = All-filter p (Fits world inner) ds o.only;
  once = λ d g m. times-filter is_same exact_lists p d (h d g m) ds ∙ o.once d g;
}

-- nothing, where no combination of the inner side meets the edges between with this one
pub none_offered : (world : World) (outer inner : ℕ → Bool) (c : List ℕ)
    → ((d : List ℕ) → Fits world inner d → edges_hold world (edges_between world outer inner) (merged outer c d) ≡ true
    → ⊥)
    → Offers world outer inner c []
none_offered world outer inner c h = record { only = All-nil (Fits world inner); once = λ d g m. absurd (h d g m) }
