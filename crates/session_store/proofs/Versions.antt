-- A version of a table put into the entries: which versions are present then.
use Rattle.std.proofs.Common.{ℕ, ◌≡◌, ◌∙◌, ◌+◌, ◌<◌, List, [], ◌∷◌, ◌++◌, length, map, set, nat_lt, not, cond}
use Rattle.std.proofs.Common.{Some, None, Bool, true, false, ap, ap₂, refl, sym, subst, arith, suc}
use Rattle.std.specs.List.{position, position_or_len}
use Rattle.std.specs.Map.{lookup}
use Rattle.std.specs.Str.{bytes_eq}
use Rattle.std.proofs.lemmas.Bool.Decides.{nat_tests}
use Rattle.std.proofs.lemmas.List.{length-map}
use Rattle.row_values.specs.declared.columns.Column.{Column}
use Rattle.catalog_model.specs.Catalogs.{TableState, Version, put_version}
use Rattle.catalog_model.specs.Held.{present_versions}
use Rattle.catalog_model.specs.Loading.{are_same_columns}
use Rattle.session_store.specs.Kept.{HeldTable, flags_of, tables_in}
use Rattle.session_store.proofs.Entries.{length-tables_in}

-- an entry as a table, with its own version and with another
abbrev table_at : List ℕ × HeldTable → TableState
table_at e = record { name = e.0; now = e.1.version; indexed = flags_of e.1.indexes }

abbrev renewed : List ℕ × HeldTable → Version → TableState
renewed e version = record { name = e.0; now = version; indexed = flags_of e.1.indexes }

-- a version of a name that has no entry goes behind the others
last_by : (test : Bool) (e : List ℕ × HeldTable) (es : List (List ℕ × HeldTable)) (name : List ℕ) (version : Version)
    → cond test (Some e.1) (lookup (λ k. bytes_eq name k) es) ≡ None
    → (lookup (λ k. bytes_eq name k) es ≡ None
    → present_versions (put_version (tables_in es) name version) ≡ present_versions (tables_in es) ++ version ∷ [])
    → present_versions (cond test (renewed e version ∷ tables_in es)
    (table_at e ∷ put_version (tables_in es) name version))
    ≡ e.1.version ∷ (present_versions (tables_in es) ++ version ∷ [])
last_by true e es name version none later = absurd cc
last_by false e es name version none later = ap (λ (vs : List Version). e.1.version ∷ vs) (later none)

put_last : (es : List (List ℕ × HeldTable)) (name : List ℕ) (version : Version)
    → lookup (λ k. bytes_eq name k) es ≡ None
    → present_versions (put_version (tables_in es) name version) ≡ present_versions (tables_in es) ++ version ∷ []
put_last [] name version none = refl
put_last (e ∷ es) name version none =
    last_by (bytes_eq name e.0) e es name version none (put_last es name version)

-- the present versions with a copy of it pushed
pub pushed_last : (es : List (List ℕ × HeldTable)) (ts : List TableState) (name : List ℕ) (version copied : Version)
    (before after : List Version) → tables_in es ≡ ts → lookup (λ k. bytes_eq name k) es ≡ None
    → before ≡ present_versions ts → after ≡ before ++ copied ∷ [] → copied ≡ version
    → after ≡ present_versions (put_version ts name version)
pushed_last es ts name version copied before after view none were e same =
    e ∙ (ap₂ (λ (vs : List Version) (v : Version). vs ++ v ∷ [])
    (were ∙ sym (ap (λ (all : List TableState). present_versions all) view)) same
    ∙ (sym (put_last es name version none)
    ∙ ap (λ (all : List TableState). present_versions (put_version all name version)) view))

-- a version of a name that has an entry takes the place of the one there
place_of : List ℕ → List (List ℕ × HeldTable) → ℕ
place_of name es = position_or_len (λ k. bytes_eq name k) (map (λ (e : List ℕ × HeldTable). e.0) es)

one_on : {X : Type 0} (x y : X) (xs : List X) (n : ℕ) → set (x ∷ xs) (1 + n) y ≡ x ∷ set xs n y
one_on {X = X} x y xs n =
    let e : 1 + n ≡ suc n = omega arith in
    ap (λ (m : ℕ). set (x ∷ xs) m y) e

there_by : (test : Bool) (e : List ℕ × HeldTable) (es : List (List ℕ × HeldTable)) (name : List ℕ)
    (version : Version) (place : ℕ) → cond (not test) (1 + place) 0 < suc (length es)
    → (place < length es → present_versions (put_version (tables_in es) name version)
    ≡ set (present_versions (tables_in es)) place version)
    → present_versions (cond test (renewed e version ∷ tables_in es)
    (table_at e ∷ put_version (tables_in es) name version))
    ≡ set (e.1.version ∷ present_versions (tables_in es)) (cond (not test) (1 + place) 0) version
there_by true e es name version place less later = refl
there_by false e es name version place less later =
    ap (λ (vs : List Version). e.1.version ∷ vs) (later (omega (arith, less)))
    ∙ sym (one_on e.1.version version (present_versions (tables_in es)) place)

put_there : (es : List (List ℕ × HeldTable)) (name : List ℕ) (version : Version) → place_of name es < length es
    → present_versions (put_version (tables_in es) name version)
    ≡ set (present_versions (tables_in es)) (place_of name es) version
unfolding place_of
put_there [] name version less = absurd (omega (arith, less))
put_there (e ∷ es) name version less =
    there_by (bytes_eq name e.0) e es name version (place_of name es) less (put_there es name version)

put_at : (es : List (List ℕ × HeldTable)) (name : List ℕ) (version : Version) (number : ℕ)
    → Some number ≡ position (λ k. bytes_eq name k) (map (λ (e : List ℕ × HeldTable). e.0) es)
    → present_versions (put_version (tables_in es) name version)
    ≡ set (present_versions (tables_in es)) number version
unfolding place_of
put_at es name version number found =
    by_test (nat_lt (place_of name es) (length (map (λ (e : List ℕ × HeldTable). e.0) es))) refl found
  where
    keys : (es : List (List ℕ × HeldTable)) → length (map (λ (e : List ℕ × HeldTable). e.0) es) ≡ length es
    keys [] = refl
    keys (e ∷ es) = ap suc (keys es)

    by_test : (test : Bool) → nat_lt (place_of name es) (length (map (λ (e : List ℕ × HeldTable). e.0) es)) ≡ test
        → Some number ≡ cond test (Some (place_of name es)) None
        → present_versions (put_version (tables_in es) name version)
        ≡ set (present_versions (tables_in es)) number version
    by_test false e found = absurd cc
    by_test true e found =
        let is : place_of name es ≡ number = cc in
        let within : place_of name es < length (map (λ (e : List ℕ × HeldTable). e.0) es) = grind (arith, nat_tests) in
        let less : place_of name es < length es = subst (λ n. place_of name es < n) (keys es) within in
        put_there es name version less
        ∙ ap (λ (n : ℕ). set (present_versions (tables_in es)) n version) is

-- the present versions with a copy of it set
pub set_there : (es : List (List ℕ × HeldTable)) (ts : List TableState) (name : List ℕ) (version copied : Version)
    (before : List Version) (number : ℕ) → tables_in es ≡ ts
    → Some number ≡ position (λ k. bytes_eq name k) (map (λ (e : List ℕ × HeldTable). e.0) es)
    → before ≡ present_versions ts → copied ≡ version
    → set before number copied ≡ present_versions (put_version ts name version)
set_there es ts name version copied before number view found were same =
    ap₂ (λ (vs : List Version) (v : Version). set vs number v)
    (were ∙ sym (ap (λ (all : List TableState). present_versions all) view)) same
    ∙ (sym (put_at es name version number found)
    ∙ ap (λ (all : List TableState). present_versions (put_version all name version)) view)

-- as many are present as there are entries
pub as_many : (es : List (List ℕ × HeldTable)) (ts : List TableState) (before : List Version) → tables_in es ≡ ts
    → before ≡ present_versions ts → length before ≡ length es
as_many es ts before view were =
    ap (λ (vs : List Version). length vs) (were ∙ sym (ap (λ (all : List TableState). present_versions all) view))
    ∙ (length-map (tables_in es) (λ (t : TableState). t.now) ∙ length-tables_in es)

-- no column of the one
pub uneven : (xs ys : List Column) → length ys ≡ 0 → 0 < length xs → are_same_columns xs ys ≡ false
uneven [] ys e h = absurd (omega arith)
uneven (x ∷ xs) [] e h = refl
uneven (x ∷ xs) (y ∷ ys) e h = absurd (omega arith)
