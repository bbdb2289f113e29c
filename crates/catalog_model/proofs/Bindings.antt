-- The places of a bound statement are loaded.
use Rattle.std.proofs.Common.{ℕ, ◌≡◌, ◌∙◌, List, [], ◌∷◌, Option, Some, None, sym, refl, cond, Bool, true, false, All, Ok, subst}
use Rattle.std.specs.Option.{option_map, unwrap_or, is_none}
use Rattle.std.specs.Bool.{one_answer}
use Rattle.std.specs.Str.{bytes_eq}
use Rattle.std.proofs.lemmas.Slice.Eq.{bytes_eq-Decides}
use Rattle.std.proofs.lemmas.List.Elements.{All-nil, All-cons}
use Rattle.row_values.specs.Statements.{Statement}
use Rattle.row_values.specs.declared.columns.Column.{Column}
use Rattle.sql_parser.specs.Statement.{Parts}
use Rattle.sql_parser.specs.declared.statement.RawPlace.{RawPlace}
use Rattle.csv_tables.specs.Tables.{TableValue}
use Rattle.name_binder.specs.Binding.{binding_of, first_refusal, first_of, table_refusal, unless_refused, bound_statement}
use Rattle.name_binder.specs.Catalog.{schema_named}
use Rattle.name_binder.specs.References.{place_of, places_of}
use Rattle.name_binder.specs.Refusals.{first_unknown_table}
use Rattle.name_binder.specs.declared.faults.BindFault.{BindFault}
use Rattle.catalog_model.specs.Catalogs.{TableState, find_table, schemas_of}
use Rattle.catalog_model.specs.Sound.{IsLoaded}

same_test : (a b : List ℕ) → bytes_eq a b ≡ bytes_eq b a
same_test a b =
    let other = bytes_eq-Decides b a in
    one_answer {P = a ≡ b} (bytes_eq a b) (bytes_eq b a) (bytes_eq-Decides a b)
    (λ h. sym (other.0 h), λ p. other.1 (sym p))

named_by : (test other : Bool) (t : TableState) (rest : Option TableValue) (rest' : Option (List Column)) → test ≡ other
    → option_map (λ (x : TableValue). x.schema) rest ≡ rest' →
    option_map (λ (x : TableValue). x.schema) (cond test (Some t.now.content) rest) ≡ cond other
    (Some t.now.content.schema) rest'
named_by true true t rest rest' e h = refl
named_by true false t rest rest' e h = absurd cc
named_by false true t rest rest' e h = absurd cc
named_by false false t rest rest' e h = h

-- the catalog knows each table's columns
pub schema_found : (ts : List TableState) (name : List ℕ)
    → option_map (λ (x : TableValue). x.schema) (find_table ts name) ≡ schema_named name (schemas_of ts)
schema_found [] name = refl
schema_found (t ∷ ts) name =
    named_by (bytes_eq name t.name) (bytes_eq t.name name) t (find_table ts name) (schema_named name (schemas_of ts))
    (same_test name t.name) (schema_found ts name)

known_place : (o : Option (List Column)) (rest : Option (List ℕ)) (name : List ℕ)
    → cond (is_none o) (Some name) rest ≡ None → (o ≡ Some (unwrap_or o [])) × (rest ≡ None)
known_place None rest name h = absurd cc
known_place (Some s) rest name h = (refl, h)

places_loaded : (ts : List TableState) (entries : List RawPlace) → first_unknown_table (schemas_of ts) entries ≡ None
    → All (IsLoaded ts) (places_of (schemas_of ts) entries)
places_loaded ts [] h = All-nil (IsLoaded ts)
places_loaded ts (entry ∷ entries) h =
    let k = known_place (schema_named entry.table (schemas_of ts))
    (first_unknown_table (schemas_of ts) entries) entry.table h in
    All-cons (IsLoaded ts) (place_of (schemas_of ts) entry) (places_of (schemas_of ts) entries)
    (schema_found ts entry.table ∙ k.0) (places_loaded ts entries k.1)

no_refusal : (o : Option BindFault) (v q : Statement) → unless_refused o v ≡ Ok q → (o ≡ None) × (v ≡ q)
no_refusal None v q h = (refl, cc)
no_refusal (Some fault) v q h = absurd cc

first_none : (o : Option BindFault) (rest : List (Option BindFault)) → first_of (o ∷ rest) ≡ None → o ≡ None
first_none None rest h = refl
first_none (Some fault) rest h = absurd cc

no_name : (o : Option (List ℕ)) (f : List ℕ → BindFault) → option_map f o ≡ None → o ≡ None
no_name None f h = refl
no_name (Some name) f h = absurd cc

pub bound_loaded : (ts : List TableState) (s : Parts) (q : Statement) → binding_of (schemas_of ts) s ≡ Ok q
    → All (IsLoaded ts) q.places
bound_loaded ts s q h =
    let r = no_refusal (first_refusal (schemas_of ts) s) (bound_statement (places_of (schemas_of ts) s.places) s) q h in
    let t = first_none (table_refusal (schemas_of ts) s.places) _ r.0 in
    let u = no_name (first_unknown_table (schemas_of ts) s.places) _ t in
    subst (λ (q : Statement). All (IsLoaded ts) q.places) r.1 (places_loaded ts s.places u)
