-- A catalog stays sound as a version is put.
use Rattle.std.proofs.Common.{ℕ, ◌≡◌, ◌≤◌, ◌<◌, ◌+◌, List, ◌++◌, length, nat_lt, Bool, true, false, Option, Some, None, Result, Ok, Err, sym, refl, arith, subst, All, cond}
use Rattle.std.proofs.lemmas.Bool.Decides.{nat_tests}
use Rattle.row_values.specs.declared.refusals.Refusal.{Refusal}
use Rattle.csv_tables.proofs.SpelledTables.{spelled_table}
use Rattle.csv_tables.specs.Tables.{IsTable, TableValue}
use Rattle.csv_tables.specs.Spelled.{table_of}
use Rattle.csv_tables.specs.declared.faults.TableFault.{TableFault}
use Rattle.catalog_model.specs.Catalogs.{Catalog, TableState, Version, find_table, put_version, next_version, with_version}
use Rattle.catalog_model.specs.Held.{present_versions, cells_held, bytes_held}
use Rattle.catalog_model.specs.Loading.{has_other_columns, passed_limit, limit_passed_by, within_limits, spelled_version, loading_of}
use Rattle.catalog_model.specs.Sound.{IsCatalog}
use Rattle.catalog_model.proofs.Names.{differ_put, statements_put}
use Rattle.catalog_model.proofs.Versions.{all_put, numbers_put, numbered_put}

pub record Within (tables : ℕ) (versions : List Version) : Type 0 where
  pub few : tables ≤ 64
  pub cells : cells_held versions ≤ 8388608
  pub bytes : bytes_held versions ≤ 268435456

-- versions that pass no limit are within them
pub within : (tables : ℕ) (versions : List Version) → passed_limit tables versions ≡ None → Within tables versions
within tables versions h =
    record { few = grind (arith, nat_tests); cells = grind (arith, nat_tests); bytes = grind (arith, nat_tests) }

-- a version of the next number that is a table, passes no limit and has the columns of the one before
pub kept : (held : List Version) (catalog : Catalog) (name : List ℕ) (version : Version) → IsCatalog held catalog
    → version.number ≡ catalog.versions → IsTable version.content →
    has_other_columns (find_table catalog.tables name) version.content ≡ false
    → limit_passed_by held (put_version catalog.tables name version) ≡ None
    → IsCatalog held (with_version catalog name version)
kept held catalog name version sound number table columns limits =
    let few = within (length (put_version catalog.tables name version))
    (held ++ present_versions (put_version catalog.tables name version)) limits in
    let before : All (λ (table : TableState). table.now.number < version.number) catalog.tables =
    subst (λ (n : ℕ). All (λ (table : TableState). table.now.number < n) catalog.tables)
    (sym number) sound.numbered in
    record {
      weights = sound.weights;
      table_names = differ_put catalog.tables name version sound.table_names;
      statement_names = sound.statement_names;
      version_numbers = numbers_put catalog.tables name version before sound.version_numbers;
      numbered = subst (λ (n : ℕ). All (λ (table : TableState). table.now.number < n + 1)
          (put_version catalog.tables name version)) number (numbered_put catalog.tables name version before);
      are_tables = all_put (λ v. IsTable v.content) catalog.tables name version table sound.are_tables;
      are_sound = sound.are_sound;
      loaded = statements_put catalog.tables name version catalog.statements columns sound.loaded;
      few_tables = few.few;
      few_statements = sound.few_statements;
      few_cells = few.cells;
      few_bytes = few.bytes;
    }

-- What a load that isn't refused says.
pub record Kept (held : List Version) (catalog : Catalog) (name : List ℕ) (version : Version) : Type 0 where
  pub number : version.number ≡ catalog.versions
  pub table : IsTable version.content
  pub columns : has_other_columns (find_table catalog.tables name) version.content ≡ false
  pub limits : limit_passed_by held (put_version catalog.tables name version) ≡ None

ok_within : (version new : Version) (limit : Option (List ℕ)) → within_limits new limit ≡ Ok version → (new ≡ version)
    × (limit ≡ None)
ok_within version new None h = (cc, refl)
ok_within version new (Some limit) h = absurd cc

ok_columns : (test : Bool) (why : Refusal) (version new : Version) (limit : Option (List ℕ))
    → cond test (Err why) (within_limits new limit) ≡ Ok version → (test ≡ false) × ((new ≡ version) × (limit ≡ None))
ok_columns true why version new limit h = absurd cc
ok_columns false why version new limit h = (refl, ok_within version new limit h)

ok_spelled : (held : List Version) (catalog : Catalog) (name : List ℕ) (bytes : ℕ)
    (content : Result TableValue TableFault) (version : Version)
    → ((table : TableValue) → content ≡ Ok table → IsTable table) → spelled_version held catalog name bytes content ≡ Ok version → Kept held catalog name version
ok_spelled held catalog name bytes (Err fault) version tables h = absurd cc
ok_spelled held catalog name bytes (Ok content) version tables h =
    let new : Version = next_version catalog content bytes in
    let p = ok_columns (has_other_columns (find_table catalog.tables name) content) _ version new
    (limit_passed_by held (put_version catalog.tables name new)) h in
    subst (Kept held catalog name) p.1.0 (record { number = refl; table = tables content refl; columns = p.0; limits = p.1.1 })

ok_long : (test : Bool) (why : Refusal) (version : Version) (rest : Result Version Refusal)
    → cond test (Err why) rest ≡ Ok version → rest ≡ Ok version
ok_long true why version rest h = absurd cc
ok_long false why version rest h = h

pub loaded : (held : List Version) (catalog : Catalog) (name bytes : List ℕ) (version : Version)
    → IsCatalog held catalog → loading_of held catalog name bytes ≡ Ok version
    → IsCatalog held (with_version catalog name version)
unfolding loading_of
loaded held catalog name bytes version sound h =
    let k = ok_spelled held catalog name (length bytes) (table_of bytes) version (spelled_table bytes)
    (ok_long (nat_lt 67108864 (length bytes)) _ version _ h) in
    kept held catalog name version sound k.number k.table k.columns k.limits

-- a version that is loaded has the next number
pub load_number : (held : List Version) (catalog : Catalog) (name bytes : List ℕ) (version : Version)
    → loading_of held catalog name bytes ≡ Ok version → version.number ≡ catalog.versions
unfolding loading_of
load_number held catalog name bytes version h =
    (ok_spelled held catalog name (length bytes) (table_of bytes) version (spelled_table bytes)
    (ok_long (nat_lt 67108864 (length bytes)) _ version _ h)).number
