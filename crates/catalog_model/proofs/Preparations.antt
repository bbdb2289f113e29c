-- A catalog stays sound as a statement is prepared.
use Rattle.std.proofs.Common.{ℕ, ◌≡◌, ◌≤◌, ◌<◌, List, [], ◌∷◌, ◌++◌, length, nat_lt, is_some, Bool, true, false, Option, Some, None, Result, Ok, Err, All, refl, arith, cond, length-append}
use Rattle.std.proofs.lemmas.Bool.Decides.{nat_tests}
use Rattle.std.proofs.lemmas.List.Elements.{All-push}
use Rattle.row_values.specs.Statements.{IsSoundQuery, Statement}
use Rattle.row_values.specs.declared.refusals.Refusal.{Refusal}
use Rattle.sql_parser.specs.Statement.{IsSound, Parts}
use Rattle.name_binder.proofs.BoundIsSound.{bound_is_sound}
use Rattle.name_binder.specs.Binding.{binding_of}
use Rattle.name_binder.specs.declared.faults.BindFault.{BindFault}
use Rattle.catalog_model.specs.Catalogs.{Catalog, StatementState, Version, find_statement, schemas_of, with_statement}
use Rattle.catalog_model.specs.Preparing.{preparing_of, bound}
use Rattle.catalog_model.specs.Sound.{IsCatalog, IsLoaded}
use Rattle.catalog_model.proofs.Bindings.{bound_loaded}
use Rattle.catalog_model.proofs.Names.{differ_behind, new_statement}

pub none_of : {T : Type 0} (o : Option T) → is_some o ≡ false → o ≡ None
none_of None h = refl
none_of (Some x) h = absurd cc

longer : (xs : List StatementState) (x : StatementState) → length xs < 256 → length (xs ++ x ∷ []) ≤ 256
longer xs x h = let e = length-append xs (x ∷ []) in omega arith

-- What is known of a statement that may be kept under a name.
pub record MayKeep (catalog : Catalog) (name : List ℕ) (q : Statement) : Type 0 where
  pub free : find_statement catalog.statements name ≡ None
  pub query : IsSoundQuery q
  pub loaded : All (IsLoaded catalog.tables) q.places
  pub room : length catalog.statements < 256

pub kept : (held : List Version) (catalog : Catalog) (name : List ℕ) (q : Statement) → MayKeep catalog name q
    → IsCatalog held catalog → IsCatalog held (with_statement catalog name q)
kept held catalog name q k sound = record {
  weights = sound.weights;
  table_names = sound.table_names;
  statement_names = differ_behind catalog.statements name q k.free sound.statement_names;
  version_numbers = sound.version_numbers;
  numbered = sound.numbered;
  are_tables = sound.are_tables;
  are_sound = All-push (λ (prepared : StatementState). IsSoundQuery prepared.statement) catalog.statements
      (new_statement name q) sound.are_sound k.query;
  loaded = All-push (λ (prepared : StatementState). All (IsLoaded catalog.tables) prepared.statement.places)
      catalog.statements (new_statement name q) sound.loaded k.loaded;
  few_tables = sound.few_tables;
  few_statements = longer catalog.statements (new_statement name q) k.room;
  few_cells = sound.few_cells;
  few_bytes = sound.few_bytes;
}

ok_free : (test : Bool) (why : Refusal) (q : Statement) (rest : Result Statement Refusal)
    → cond test (Err why) rest ≡ Ok q → (test ≡ false) × (rest ≡ Ok q)
ok_free true why q rest h = absurd cc
ok_free false why q rest h = (refl, h)

ok_room : (test : Bool) (why : Refusal) (p q : Statement) → cond test (Ok p) (Err why) ≡ Ok q → (test ≡ true) × (p ≡ q)
ok_room true why p q h = (refl, cc)
ok_room false why p q h = absurd cc

below : (a b : ℕ) → nat_lt a b ≡ true → a < b
below a b h = grind (arith, nat_tests)

ok_bound : (ss : List StatementState) (binding : Result Statement BindFault) (q : Statement) → bound ss binding ≡ Ok q
    → (binding ≡ Ok q) × (length ss < 256)
ok_bound ss (Err fault) q h = absurd cc
ok_bound ss (Ok p) q h = let r = ok_room (nat_lt (length ss) 256) _ p q h in (cc, below (length ss) 256 r.0)

pub prepared : (held : List Version) (catalog : Catalog) (name : List ℕ) (select : Parts) (q : Statement)
    → IsSound select → IsCatalog held catalog → preparing_of catalog name select ≡ Ok q
    → IsCatalog held (with_statement catalog name q)
unfolding preparing_of
prepared held catalog name select q parts sound h =
    let f = ok_free (is_some (find_statement catalog.statements name)) _ q _ h in
    let b = ok_bound catalog.statements (binding_of (schemas_of catalog.tables) select) q f.1 in
    kept held catalog name q (record {
      free = none_of _ f.0;
      query = bound_is_sound (schemas_of catalog.tables) select q parts b.0;
      loaded = bound_loaded catalog.tables select q b.0;
      room = b.1;
    }) sound
