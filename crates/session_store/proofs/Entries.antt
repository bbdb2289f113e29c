-- The entries of the two maps, as lists of tables and of statements.
use Rattle.std.proofs.Common.{is_some, ◌+◌, take, slice_index_or, ℕ, ◌≡◌, ◌∙◌, List, [], ◌∷◌, ◌++◌, length, map, Option}
use Rattle.std.proofs.Common.{Some, None, ap, suc, zero, sym, refl, cond, Bool, true, false, All, ◌<◌, subst}
use Rattle.std.proofs.Common.{ap₂, nat_lt, if◌then◌else◌, not}
use Rattle.std.specs.List.{slice_get, position, position_or_len}
use Rattle.std.specs.Option.{option_map}
use Rattle.std.proofs.lemmas.List.{length-map, take_more, map-append}
use Rattle.std.specs.Map.{lookup}
use Rattle.std.specs.Str.{bytes_eq}
use Rattle.std.proofs.lemmas.List.Elements.{All-head, All-tail}
use Rattle.indexmap.specs.IndexMap.{insert_entry}
use Rattle.row_values.specs.Statements.{Statement}
use Rattle.row_values.specs.declared.statement.Place.{Place}
use Rattle.csv_tables.specs.Tables.{TableValue}
use Rattle.catalog_model.specs.Catalogs.{StatementState, find_table, find_statement, flags_named, number_of}
use Rattle.catalog_model.proofs.Names.{new_statement}
use Rattle.session_store.specs.Kept.{HeldTable, flags_of, tables_in, statements_in}

pub length-tables_in : (es : List (List ℕ × HeldTable)) → length (tables_in es) ≡ length es
length-tables_in [] = refl
length-tables_in (e ∷ es) = ap suc (length-tables_in es)

pub length-statements_in : (es : List (List ℕ × Statement)) → length (statements_in es) ≡ length es
length-statements_in [] = refl
length-statements_in (e ∷ es) = ap suc (length-statements_in es)

map_cond : (test : Bool) (h : HeldTable) (rest : Option HeldTable) (rest' : Option TableValue)
    → option_map (λ x. x.version.content) rest ≡ rest'
    → option_map (λ x. x.version.content) (cond test (Some h) rest) ≡ cond test (Some h.version.content) rest'
map_cond true h rest rest' e = refl
map_cond false h rest rest' e = e

pub found_table : (es : List (List ℕ × HeldTable)) (name : List ℕ)
    → option_map (λ h. h.version.content) (lookup (λ k. bytes_eq name k) es) ≡ find_table (tables_in es) name
found_table [] name = refl
found_table (e ∷ es) name =
    map_cond (bytes_eq name e.0) e.1 (lookup (λ k. bytes_eq name k) es) (find_table (tables_in es) name)
    (found_table es name)

flags_by : (test : Bool) (h held : HeldTable) (rest : Option HeldTable) (flags : List Bool)
    → cond test (Some h) rest ≡ Some held → (rest ≡ Some held → flags ≡ flags_of held.indexes)
    → cond test (flags_of h.indexes) flags ≡ flags_of held.indexes
flags_by true h held rest flags e later =
    let same : h ≡ held = cc in ap (λ (x : HeldTable). flags_of x.indexes) same
flags_by false h held rest flags e later = later e

-- the flags of what is found
pub found_flags : (es : List (List ℕ × HeldTable)) (name : List ℕ) (held : HeldTable)
    → lookup (λ k. bytes_eq name k) es ≡ Some held → flags_named (tables_in es) name ≡ flags_of held.indexes
found_flags [] name held e = absurd cc
found_flags (e ∷ es) name held found =
    flags_by (bytes_eq name e.0) e.1 held (lookup (λ k. bytes_eq name k) es) (flags_named (tables_in es) name) found
    (found_flags es name held)

pub found_statement : (es : List (List ℕ × Statement)) (name : List ℕ)
    → lookup (λ k. bytes_eq name k) es ≡ find_statement (statements_in es) name
found_statement [] name = refl
found_statement (e ∷ es) name = ap (cond (bytes_eq name e.0) (Some e.1)) (found_statement es name)

-- the statement of a number
pub statement_at : (es : List (List ℕ × Statement)) (i : ℕ)
    → option_map (λ (s : StatementState). s.statement) (slice_get (statements_in es) i) ≡ option_map
    (λ (e : List ℕ × Statement). e.1) (slice_get es i)
statement_at [] i = refl
statement_at (e ∷ es) zero = refl
statement_at (e ∷ es) (suc i) = statement_at es i

pub value_at : (es : List (List ℕ × Statement)) (i : ℕ)
    → slice_get (map (λ (e : List ℕ × Statement). e.1) es) i ≡ option_map (λ (e : List ℕ × Statement). e.1)
    (slice_get es i)
value_at [] i = refl
value_at (e ∷ es) zero = refl
value_at (e ∷ es) (suc i) = value_at es i

-- the number of a name is the position of its key
pub number_at : (es : List (List ℕ × Statement)) (name : List ℕ)
    → position (λ k. bytes_eq name k) (map (λ (e : List ℕ × Statement). e.0) es) ≡ number_of (statements_in es) name
number_at es name =
    ap₂ (λ at all. if nat_lt at all then Some at else None) (place_at es)
    (length-map es (λ (e : List ℕ × Statement). e.0) ∙ sym (length-statements_in es))
  where
    place_at : (es : List (List ℕ × Statement))
        → position_or_len (λ k. bytes_eq name k) (map (λ (e : List ℕ × Statement). e.0) es)
        ≡ position_or_len (λ (s : StatementState). bytes_eq name s.name) (statements_in es)
    place_at [] = refl
    place_at (e ∷ es) = ap (λ n. if not (bytes_eq name e.0) then 1 + n else 0) (place_at es)

-- what holds of each statement holds of the one of a number
pub all_at : (P : Statement → Type 0) (ss : List StatementState) (i : ℕ) (q : Statement)
    → All (λ prepared. P prepared.statement) ss
    → option_map (λ (s : StatementState). s.statement) (slice_get ss i) ≡ Some q → P q
all_at P [] i q a h = absurd cc
all_at P (s ∷ ss) zero q a h = let same : s.statement ≡ q = cc in
    subst P same (All-head (λ (x : StatementState). P x.statement) s ss a)
all_at P (s ∷ ss) (suc i) q a h = all_at P ss i q (All-tail (λ (x : StatementState). P x.statement) s ss a) h

statement_behind : (test : Bool) (e : List ℕ × Statement) (es : List (List ℕ × Statement)) (name : List ℕ)
    (q : Statement) → cond test (Some e.1) (find_statement (statements_in es) name) ≡ None →
    (find_statement (statements_in es) name ≡ None
    → statements_in (insert_entry bytes_eq es name q) ≡ statements_in es ++ new_statement name q ∷ []) →
    statements_in (cond test ((e.0, q) ∷ es) (e ∷ insert_entry bytes_eq es name q)) ≡ new_statement e.0 e.1 ∷
    (statements_in es ++ new_statement name q ∷ [])
statement_behind true e es name q none step = cc
statement_behind false e es name q none step = ap (λ (ss : List StatementState). new_statement e.0 e.1 ∷ ss) (step none)

-- a statement of a new name goes behind the others
pub statement_last : (es : List (List ℕ × Statement)) (name : List ℕ) (q : Statement)
    → find_statement (statements_in es) name ≡ None
    → statements_in (insert_entry bytes_eq es name q) ≡ statements_in es ++ new_statement name q ∷ []
statement_last [] name q none = refl
statement_last (e ∷ es) name q none =
    statement_behind (bytes_eq name e.0) e es name q none
    (λ (n : find_statement (statements_in es) name ≡ None). statement_last es name q n)

pub none_of : {T : Type 0} (o : Option T) → false ≡ is_some o → o ≡ None
none_of None h = refl
none_of (Some x) h = absurd cc

-- one more, for one more place
pub one_more : {A C : Type 0} (f : A → C) (g : Place → C) (items items' : List A) (x : A) (places : List Place) (i : ℕ)
    (place : Place) → items' ≡ items ++ x ∷ [] → f x ≡ g place → place ≡ slice_index_or places i place
    → i < length places → map f items ≡ map g (take i places) → map f items' ≡ map g (take (i + 1) places)
one_more {A = A} {C = C} f g items items' x places i place e same there lt so_far =
    let more : take (i + 1) places ≡ take i places ++ place ∷ [] = take_more places i place lt
    ∙ ap (λ (p : Place). take i places ++ p ∷ []) (sym there) in
    ap (map f) e ∙ (map-append f items (x ∷ []) ∙ (ap (λ (front : List C). front ++ f x ∷ []) so_far
    ∙ (ap (λ (y : C). map g (take i places) ++ y ∷ []) same
    ∙ (sym (map-append g (take i places) (place ∷ [])) ∙ sym (ap (map g) more)))))
