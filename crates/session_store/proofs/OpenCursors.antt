-- What open cursors hold, as the entries of the tables tell it.
use Rattle.std.proofs.Common.{ℕ, ◌≡◌, ◌∙◌, ◌+◌, ◌<◌, List, [], ◌∷◌, ◌++◌, Option, Some, None, Bool, true, false, cond}
use Rattle.std.proofs.Common.{ap, arith, drop, filter_map, length, nat_lt, refl, slice_index_or, sym}
use Rattle.std.proofs.Common.{not, remove, subst, suc, zero, ◌||◌}
use Rattle.std.specs.List.{cons_option, position, position_or_len}
use Rattle.std.specs.Map.{lookup}
use Rattle.std.specs.Option.{option_map}
use Rattle.std.specs.Str.{bytes_eq}
use Rattle.std.proofs.lemmas.Bool.Decides.{nat_tests}
use Rattle.row_values.specs.Statements.{Statement}
use Rattle.row_values.specs.declared.refusals.Refusal.{Refusal}
use Rattle.plan_trees.specs.declared.statistics.Weights.{Weights}
use Rattle.catalog_model.specs.Catalogs.{Version, find_version}
use Rattle.catalog_model.specs.Held.{HeldCursor, holding_refusal, is_open, without_cursor}
use Rattle.session_store.specs.Kept.{HeldTable, StoreState, state_in, tables_in}

-- the version of what is found
version_by : (test : Bool) (h : HeldTable) (rest : Option HeldTable) (found : Option Version)
    → option_map (λ x. x.version) rest ≡ found
    → option_map (λ x. x.version) (cond test (Some h) rest) ≡ cond test (Some h.version) found
version_by true h rest found e = refl
version_by false h rest found e = e

pub found_version : (es : List (List ℕ × HeldTable)) (name : List ℕ)
    → option_map (λ h. h.version) (lookup (λ k. bytes_eq name k) es) ≡ find_version (tables_in es) name
found_version [] name = refl
found_version (e ∷ es) name =
    version_by (bytes_eq name e.0) e.1 (lookup (λ k. bytes_eq name k) es) (find_version (tables_in es) name)
    (found_version es name)

-- one more place
front_of : {P : Type 0} (places : List P) (i : ℕ) (place : P) → place ≡ slice_index_or places i place
    → i < length places → drop i places ≡ place ∷ drop (i + 1) places
front_of [] i place at less = absurd (omega (arith, less))
front_of {P = P} (first ∷ places) zero place at less = ap (λ (p : P). p ∷ places) (sym at)
front_of {P = P} (first ∷ places) (suc i) place at less =
    let n : suc i + 1 ≡ suc (i + 1) = omega arith in
    front_of places i place at (omega (arith, less))
    ∙ sym (ap (λ (m : ℕ). place ∷ drop m (first ∷ places)) n)

behind_first : {X : Type 0} (xs ys : List X) (x : X) → (xs ++ x ∷ []) ++ ys ≡ xs ++ x ∷ ys
behind_first [] ys x = refl
behind_first {X = X} (first ∷ xs) ys x = ap (λ (rest : List X). first ∷ rest) (behind_first xs ys x)

pub one_found : {P : Type 0} (found : P → Option Version) (places : List P) (i : ℕ) (place : P)
    (items more all : List Version) (version : Version) → place ≡ slice_index_or places i place → i < length places
    → found place ≡ Some version → more ≡ items ++ version ∷ []
    → items ++ filter_map found (drop i places) ≡ all → more ++ filter_map found (drop (i + 1) places) ≡ all
one_found {P = P} found places i place items more all version at less is e so_far =
    ap (λ (vs : List Version). vs ++ filter_map found (drop (i + 1) places)) e
    ∙ (behind_first items (filter_map found (drop (i + 1) places)) version
    ∙ (ap (λ (o : Option Version). items ++ cons_option o (filter_map found (drop (i + 1) places))) (sym is)
    ∙ (ap (λ (ps : List P). items ++ filter_map found ps) (sym (front_of places i place at less)) ∙ so_far)))

pub none_found : {P : Type 0} (found : P → Option Version) (places : List P) (i : ℕ) (place : P)
    (items all : List Version) → place ≡ slice_index_or places i place → i < length places
    → found place ≡ None → items ++ filter_map found (drop i places) ≡ all
    → items ++ filter_map found (drop (i + 1) places) ≡ all
none_found {P = P} found places i place items all at less is so_far =
    ap (λ (o : Option Version). items ++ cons_option o (filter_map found (drop (i + 1) places))) (sym is)
    ∙ (ap (λ (ps : List P). items ++ filter_map found ps) (sym (front_of places i place at less)) ∙ so_far)

-- Where a cursor stands.

place_in : List ℕ → List HeldCursor → ℕ
place_in name cursors = position_or_len (λ (c : HeldCursor). bytes_eq c.name name) cursors

abbrev IsThere : List ℕ → List HeldCursor → ℕ → Type 0
IsThere name cursors place =
    (is_open name cursors ≡ true) × (remove cursors place ≡ without_cursor name cursors)

further : (c : HeldCursor) (cursors : List HeldCursor) (place : ℕ)
    → remove (c ∷ cursors) (1 + place) ≡ c ∷ remove cursors place
further c cursors place =
    let n : 1 + place ≡ suc place = omega arith in
    ap (λ (m : ℕ). remove (c ∷ cursors) m) n

is_there : (name : List ℕ) (cursors : List HeldCursor) → place_in name cursors < length cursors
    → IsThere name cursors (place_in name cursors)
unfolding place_in
is_there name [] less = absurd (omega (arith, less))
is_there name (c ∷ cursors) less =
    by_test (bytes_eq c.name name) (place_in name cursors) less (is_there name cursors)
  where
    by_test : (test : Bool) (place : ℕ) → cond (not test) (1 + place) 0 < length (c ∷ cursors)
        → (place < length cursors → IsThere name cursors place)
        → ((test || is_open name cursors) ≡ true)
        × (remove (c ∷ cursors) (cond (not test) (1 + place) 0)
        ≡ cond test cursors (c ∷ without_cursor name cursors))
    by_test true place less later = (refl, refl)
    by_test false place less later =
        let there = later (omega (arith, less)) in (
          there.0,
          further c cursors place
              ∙ ap (λ (cs : List HeldCursor). c ∷ cs) there.1,
        )

pub gone : (name : List ℕ) (cursors : List HeldCursor) (number : ℕ)
    → Some number ≡ position (λ (c : HeldCursor). bytes_eq c.name name) cursors
    → (is_open name cursors ≡ true) × (remove cursors number ≡ without_cursor name cursors)
unfolding place_in
gone name cursors number found = by_test (nat_lt (place_in name cursors) (length cursors)) refl found
  where
    by_test : (test : Bool) → nat_lt (place_in name cursors) (length cursors) ≡ test
        → Some number ≡ cond test (Some (place_in name cursors)) None → IsThere name cursors number
    by_test false e found = absurd cc
    by_test true e found =
        let is : place_in name cursors ≡ number = cc in
        let less : place_in name cursors < length cursors = grind (arith, nat_tests) in
        subst (IsThere name cursors) is (is_there name cursors less)

apart : (name : List ℕ) (cursors : List HeldCursor) → (place_in name cursors < length cursors → ⊥)
    → is_open name cursors ≡ false
unfolding place_in
apart name [] never = refl
apart name (c ∷ cursors) never =
    by_test (bytes_eq c.name name) (place_in name cursors) never (apart name cursors)
  where
    by_test : (test : Bool) (place : ℕ) → (cond (not test) (1 + place) 0 < length (c ∷ cursors) → ⊥)
        → ((place < length cursors → ⊥) → is_open name cursors ≡ false) → (test || is_open name cursors) ≡ false
    by_test true place never later = absurd (never (omega arith))
    by_test false place never later = later (λ less. never (omega (arith, less)))

pub closed_already : (name : List ℕ) (cursors : List HeldCursor)
    → None ≡ position (λ (c : HeldCursor). bytes_eq c.name name) cursors → is_open name cursors ≡ false
unfolding place_in
closed_already name cursors none =
    apart name cursors (λ less. by_test (nat_lt (place_in name cursors) (length cursors)) refl none less)
  where
    by_test : (test : Bool) → nat_lt (place_in name cursors) (length cursors) ≡ test
        → None ≡ cond test (Some (place_in name cursors)) None → place_in name cursors < length cursors → ⊥
    by_test true e none less = absurd cc
    by_test false e none less = grind (arith, nat_tests)

-- what a cursor that may be opened finds
pub allowed : (cursors : List HeldCursor) (name : List ℕ) → holding_refusal cursors name ≡ None
    → (is_open name cursors ≡ false) × (length cursors < 16)
allowed cursors name e = by_test (is_open name cursors) (nat_lt (length cursors) 16) _ _ refl refl e
  where
    by_test : (there few : Bool) (taken many : Refusal) → is_open name cursors ≡ there
        → nat_lt (length cursors) 16 ≡ few → cond there (Some taken) (cond few None (Some many)) ≡ None
        → (is_open name cursors ≡ false) × (length cursors < 16)
    by_test true few taken many o f e = absurd cc
    by_test false false taken many o f e = absurd cc
    by_test false true taken many o f e = (o, grind (arith, nat_tests))

-- The state with other cursors.

pub state_opened : (now : StoreState) (ts : List (List ℕ × HeldTable)) (ss : List (List ℕ × Statement)) (versions : ℕ)
    (weights : Weights) (cursors more : List HeldCursor) (made new : HeldCursor)
    → state_in ts ss versions weights cursors ≡ now → more ≡ cursors ++ made ∷ [] → made ≡ new
    → state_in ts ss versions weights more ≡ record now { cursors = now.cursors ++ new ∷ [] }
state_opened now ts ss versions weights cursors more made new view e same =
    ap (state_in ts ss versions weights) e
    ∙ (ap (λ (k : StoreState). let s : StoreState = record k { cursors = k.cursors ++ made ∷ [] } in s) view
    ∙ ap (λ (c : HeldCursor). let s : StoreState = record now { cursors = now.cursors ++ c ∷ [] } in s) same)

pub state_closed : (now : StoreState) (ts : List (List ℕ × HeldTable)) (ss : List (List ℕ × Statement)) (versions : ℕ)
    (weights : Weights) (cursors left : List HeldCursor) (name : List ℕ)
    → state_in ts ss versions weights cursors ≡ now → left ≡ without_cursor name cursors
    → state_in ts ss versions weights left ≡ record now { cursors = without_cursor name now.cursors }
state_closed now ts ss versions weights cursors left name view e =
    ap (state_in ts ss versions weights) e
    ∙ ap (λ (k : StoreState). let s : StoreState = record k { cursors = without_cursor name k.cursors } in s) view
