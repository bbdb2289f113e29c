-- Names and columns of tables as a version is put: what stands once stays so, and what is loaded stays loaded.
use Rattle.std.proofs.Common.{ℕ, ◌≡◌, ◌∙◌, ◌&&◌, ◌||◌, not, List, [], ◌∷◌, ◌++◌, Option, Some, None, ap, sym, refl, cond, Bool, true, false, All}
use Rattle.std.specs.Option.{option_map}
use Rattle.std.specs.Str.{bytes_eq}
use Rattle.std.proofs.lemmas.Bool.{and_from, and_parts, not-false, not-true, or_from, or_parts}
use Rattle.std.proofs.lemmas.Slice.Eq.{bytes_eq-Decides}
use Rattle.std.proofs.lemmas.List.Elements.{All-weaker}
use Rattle.row_values.specs.Statements.{Statement}
use Rattle.row_values.specs.declared.columns.Column.{Column}
use Rattle.row_values.specs.declared.values.Kind.{Kind}
use Rattle.row_values.specs.declared.values.Kind.TheVariants.{Int, Text}
use Rattle.csv_tables.specs.Tables.{TableValue}
use Rattle.name_binder.specs.Catalog.{is_known, names_differ}
use Rattle.catalog_model.specs.Catalogs.{TableState, StatementState, Version, find_table, find_statement, schemas_of, put_version, is_prepared, statements_differ}
use Rattle.catalog_model.specs.Loading.{is_same_kind, are_same_columns, has_other_columns}
use Rattle.catalog_model.specs.Sound.{IsLoaded}

pub same_bytes : (a b : List ℕ) → bytes_eq a b ≡ true → a ≡ b
same_bytes a b h = (bytes_eq-Decides a b).0 h

-- a table with a new version
abbrev pub renewed : TableState → Version → TableState
renewed t version = record t { now = version }

-- Names of tables.

known_by : (test : Bool) (t : TableState) (ts : List TableState) (name other : List ℕ) (version : Version)
    → bytes_eq name other ≡ false → (bytes_eq t.name other || is_known other (schemas_of ts)) ≡ false →
    (is_known other (schemas_of ts) ≡ false → is_known other (schemas_of (put_version ts name version)) ≡ false) →
    is_known other (schemas_of (cond test (renewed t version ∷ ts) (t ∷ put_version ts name version))) ≡ false
known_by true t ts name other version o h later = h
known_by false t ts name other version o h later =
    let p = or_parts (bytes_eq t.name other) (is_known other (schemas_of ts)) h in
    or_from (bytes_eq t.name other) _ p.0 (later p.1)

known_put : (ts : List TableState) (name other : List ℕ) (version : Version) → bytes_eq name other ≡ false
    → is_known other (schemas_of ts) ≡ false → is_known other (schemas_of (put_version ts name version)) ≡ false
known_put [] name other version o h = or_from (bytes_eq name other) _ o h
known_put (t ∷ ts) name other version o h =
    known_by (bytes_eq name t.name) t ts name other version o h (known_put ts name other version o)

differ_by : (test : Bool) (t : TableState) (ts : List TableState) (name : List ℕ) (version : Version)
    → bytes_eq name t.name ≡ test → (not (is_known t.name (schemas_of ts)) && names_differ (schemas_of ts)) ≡ true →
    (names_differ (schemas_of ts) ≡ true → names_differ (schemas_of (put_version ts name version)) ≡ true) →
    names_differ (schemas_of (cond test (renewed t version ∷ ts) (t ∷ put_version ts name version))) ≡ true
differ_by true t ts name version e h later = h
differ_by false t ts name version e h later =
    let p = and_parts (not (is_known t.name (schemas_of ts))) (names_differ (schemas_of ts)) h in
    let k : is_known t.name (schemas_of (put_version ts name version)) ≡ false =
    known_put ts name t.name version e (not-true _ p.0) in
    and_from _ _ (ap not k) (later p.1)

-- no name stands twice
pub differ_put : (ts : List TableState) (name : List ℕ) (version : Version) → names_differ (schemas_of ts) ≡ true
    → names_differ (schemas_of (put_version ts name version)) ≡ true
differ_put [] name version h = refl
differ_put (t ∷ ts) name version h =
    differ_by (bytes_eq name t.name) t ts name version refl h (differ_put ts name version)

-- Names of statements.

abbrev pub new_statement : List ℕ → Statement → StatementState
new_statement name q = record { name = name; statement = q }

behind_by : (test : Bool) (p : StatementState) (ps : List StatementState) (name other : List ℕ) (q : Statement)
    → bytes_eq name other ≡ false → (test || is_prepared other ps) ≡ false →
    (is_prepared other ps ≡ false → is_prepared other (ps ++ new_statement name q ∷ []) ≡ false)
    → (test || is_prepared other (ps ++ new_statement name q ∷ [])) ≡ false
behind_by test p ps name other q o h later = let r = or_parts test (is_prepared other ps) h in
    or_from test _ r.0 (later r.1)

prepared_behind : (ps : List StatementState) (name other : List ℕ) (q : Statement) → bytes_eq name other ≡ false
    → is_prepared other ps ≡ false → is_prepared other (ps ++ new_statement name q ∷ []) ≡ false
prepared_behind [] name other q o h = or_from (bytes_eq name other) _ o h
prepared_behind (p ∷ ps) name other q o h =
    behind_by (bytes_eq p.name other) p ps name other q o h (prepared_behind ps name other q o)

none_by : (test : Bool) (q : Statement) (rest : Option Statement) → cond test (Some q) rest ≡ None → (test ≡ false)
    × (rest ≡ None)
none_by true q rest h = absurd cc
none_by false q rest h = (refl, h)

-- a statement of a new name stands behind the others, and no name stands twice
pub differ_behind : (ps : List StatementState) (name : List ℕ) (q : Statement) → find_statement ps name ≡ None
    → statements_differ ps ≡ true → statements_differ (ps ++ new_statement name q ∷ []) ≡ true
differ_behind [] name q none h = refl
differ_behind (p ∷ ps) name q none h =
    let n = none_by (bytes_eq name p.name) p.statement (find_statement ps name) none in
    let r = and_parts (not (is_prepared p.name ps)) (statements_differ ps) h in
    and_from _ _ (ap not (prepared_behind ps name p.name q n.0 (not-true _ r.0))) (differ_behind ps name q n.1 r.1)

-- Columns.

same_kind : (a b : Kind) → is_same_kind a b ≡ true → a ≡ b
same_kind Int Int h = refl
same_kind Int Text h = absurd cc
same_kind Text Int h = absurd cc
same_kind Text Text h = refl

same_column : (x y : Column) → x.name ≡ y.name → x.kind ≡ y.kind → x ≡ y
same_column x y p q =
    let a : x ≡ record { name = y.name; kind = x.kind } =
    ap (λ n. let c : Column = record { name = n; kind = x.kind } in c) p in
    a ∙ ap (λ k. let c : Column = record { name = y.name; kind = k } in c) q

same_columns : (xs ys : List Column) → are_same_columns xs ys ≡ true → xs ≡ ys
same_columns [] [] h = refl
same_columns [] (y ∷ ys) h = absurd cc
same_columns (x ∷ xs) [] h = absurd cc
same_columns (x ∷ xs) (y ∷ ys) h =
    let p = and_parts (bytes_eq x.name y.name && is_same_kind x.kind y.kind) (are_same_columns xs ys) h in
    let q = and_parts (bytes_eq x.name y.name) (is_same_kind x.kind y.kind) p.0 in
    ap (λ c. c ∷ xs) (same_column x y (same_bytes x.name y.name q.0) (same_kind x.kind y.kind q.1))
    ∙ ap (λ cs. y ∷ cs) (same_columns xs ys p.1)

either_schema : (b : Bool) (u v : TableValue) (rest : Option TableValue) → u.schema ≡ v.schema
    → option_map (λ (x : TableValue). x.schema) (cond b (Some u) rest) ≡ option_map (λ (x : TableValue). x.schema)
    (cond b (Some v) rest)
either_schema true u v rest e = ap Some e
either_schema false u v rest e = refl

later_schema : (b : Bool) (u : TableValue) (rest rest' : Option TableValue) (s : List Column)
    → option_map (λ (x : TableValue). x.schema) (cond b (Some u) rest) ≡ Some s →
    (option_map (λ (x : TableValue). x.schema) rest ≡ Some s → option_map (λ (x : TableValue). x.schema) rest' ≡ Some s)
    → option_map (λ (x : TableValue). x.schema) (cond b (Some u) rest') ≡ Some s
later_schema true u rest rest' s h later = h
later_schema false u rest rest' s h later = later h

kept_by : (test : Bool) (t : TableState) (ts : List TableState) (name other : List ℕ) (version : Version)
    (s : List Column) →
    has_other_columns (cond test (Some t.now.content) (find_table ts name)) version.content ≡ false →
    option_map (λ (x : TableValue). x.schema) (find_table (t ∷ ts) other) ≡ Some s →
    (has_other_columns (find_table ts name) version.content ≡ false
    → option_map (λ (x : TableValue). x.schema) (find_table ts other) ≡ Some s
    → option_map (λ (x : TableValue). x.schema) (find_table (put_version ts name version) other) ≡ Some s) →
    option_map (λ (x : TableValue). x.schema)
    (find_table (cond test (renewed t version ∷ ts) (t ∷ put_version ts name version)) other) ≡ Some s
kept_by true t ts name other version s o h later =
    let columns : t.now.content.schema ≡ version.content.schema = same_columns _ _ (not-false _ o) in
    sym (either_schema (bytes_eq other t.name) t.now.content version.content (find_table ts other) columns) ∙ h
kept_by false t ts name other version s o h later =
    later_schema (bytes_eq other t.name) t.now.content (find_table ts other)
    (find_table (put_version ts name version) other) s h (later o)

schema_put : (ts : List TableState) (name other : List ℕ) (version : Version) (s : List Column)
    → has_other_columns (find_table ts name) version.content ≡ false →
    option_map (λ (x : TableValue). x.schema) (find_table ts other) ≡ Some s
    → option_map (λ (x : TableValue). x.schema) (find_table (put_version ts name version) other) ≡ Some s
schema_put [] name other version s o h = absurd cc
schema_put (t ∷ ts) name other version s o h =
    kept_by (bytes_eq name t.name) t ts name other version s o h (schema_put ts name other version s)

-- each statement's tables stay loaded
pub statements_put : (ts : List TableState) (name : List ℕ) (version : Version) (ss : List StatementState)
    → has_other_columns (find_table ts name) version.content ≡ false →
    All (λ prepared. All (IsLoaded ts) prepared.statement.places) ss
    → All (λ prepared. All (IsLoaded (put_version ts name version)) prepared.statement.places) ss
statements_put ts name version ss o a =
    All-weaker (λ (s : StatementState). All (IsLoaded ts) s.statement.places)
    (λ (s : StatementState). All (IsLoaded (put_version ts name version)) s.statement.places)
    (λ s h. All-weaker (IsLoaded ts) (IsLoaded (put_version ts name version))
    (λ place k. schema_put ts name place.table version place.schema o k) s.statement.places h) ss a
