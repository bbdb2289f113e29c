-- The ends of a preparation.
use Rattle.std.proofs.Common.{ℕ, ◌≡◌, ◌≤◌, ◌<◌, ◌∙◌, ◌++◌, ◌∷◌, [], None, List, length, nat_lt, codes, is_some, Bool}
use Rattle.std.proofs.Common.{true, false, Ok, Err, ap, sym, refl, arith}
use Rattle.std.specs.Map.{lookup}
use Rattle.std.specs.Str.{bytes_eq}
use Rattle.indexmap.specs.IndexMap.{insert_entry}
use Rattle.std.proofs.lemmas.Bool.Decides.{nat_tests}
use Rattle.row_values.specs.Names.{canonical_name}
use Rattle.row_values.specs.Statements.{Statement}
use Rattle.plan_trees.specs.declared.statistics.Weights.{Weights}
use Rattle.sql_parser.specs.Statement.{Parts}
use Rattle.name_binder.specs.Binding.{binding_of}
use Rattle.catalog_model.specs.Catalogs.{Catalog, StatementState, find_statement, schemas_of, with_statement}
use Rattle.row_values.specs.Refusals.{name_taken, store_limit}
use Rattle.catalog_model.specs.Preparing.{preparing_of, bound}
use Rattle.catalog_model.proofs.Names.{new_statement}
use Rattle.session_store.specs.Kept.{HeldTable, catalog_in, statements_in, tables_in}
use Rattle.session_store.specs.Outcomes.{Binds, Says}
use Rattle.session_store.specs.declared.faults.StoreFault.{StoreFault}
use Rattle.session_store.specs.declared.faults.StoreFault.TheVariants.{Refused, Memory}
use Rattle.session_store.proofs.Entries.{found_statement, statement_last}

-- a name is known exactly where an entry has it
pub known_name : (es : List (List ℕ × Statement)) (ss : List StatementState) (name : List ℕ) (known : Bool)
    → statements_in es ≡ ss → known ≡ is_some (lookup (λ k. bytes_eq name k) es)
    → is_some (find_statement ss name) ≡ known
known_name es ss name known view e =
    sym (ap is_some (found_statement es name ∙ ap (λ (ss : List StatementState). find_statement ss name) view)) ∙ sym e

pub taken : (catalog : Catalog) (name : List ℕ) (select : Parts) (shown : List ℕ)
    → is_some (find_statement catalog.statements name) ≡ true → shown ≡ canonical_name name
    → preparing_of catalog name select ≡ Err (name_taken shown)
unfolding preparing_of
taken catalog name select shown h e = rw (h, e) refl

free : (catalog : Catalog) (name : List ℕ) (select : Parts) → is_some (find_statement catalog.statements name) ≡ false
    → preparing_of catalog name select ≡ bound catalog.statements (binding_of (schemas_of catalog.tables) select)
unfolding preparing_of
free catalog name select h = rw h refl

pub unbound : (catalog : Catalog) (name : List ℕ) (select : Parts) (fault : StoreFault)
    → is_some (find_statement catalog.statements name) ≡ false
    → Binds (binding_of (schemas_of catalog.tables) select) (Err fault) → Says (preparing_of catalog name select) fault
unbound catalog name select (Refused why) h b = free catalog name select h
    ∙ (ap (bound catalog.statements) b.1 ∙ ap Err (sym b.2))
unbound catalog name select Memory h b = tt

too_many : (ss : List StatementState) (q : Statement) → 256 ≤ length ss
    → bound ss (Ok q) ≡ Err (store_limit (codes "statements"))
too_many ss q many = let e : nat_lt (length ss) 256 ≡ false = grind (arith, nat_tests) in rw e refl

few : (ss : List StatementState) (q : Statement) → length ss < 256 → bound ss (Ok q) ≡ Ok q
few ss q room = let e : nat_lt (length ss) 256 ≡ true = grind (arith, nat_tests) in rw e refl

pub crowded : (catalog : Catalog) (name : List ℕ) (select : Parts) (q : Statement)
    → is_some (find_statement catalog.statements name) ≡ false → binding_of (schemas_of catalog.tables) select ≡ Ok q
    → 256 ≤ length catalog.statements → preparing_of catalog name select ≡ Err (store_limit (codes "statements"))
crowded catalog name select q h b many =
    free catalog name select h ∙ (ap (bound catalog.statements) b ∙ too_many catalog.statements q many)

pub prepared : (catalog : Catalog) (name : List ℕ) (select : Parts) (q : Statement)
    → is_some (find_statement catalog.statements name) ≡ false → binding_of (schemas_of catalog.tables) select ≡ Ok q
    → length catalog.statements < 256 →
    preparing_of catalog name select ≡ Ok q
prepared catalog name select q h b room = free catalog name select h
    ∙ (ap (bound catalog.statements) b ∙ few catalog.statements q room)

-- the catalog of the entries with a statement of a new name
pub catalog_behind : (now : Catalog) (tables : List (List ℕ × HeldTable)) (es after : List (List ℕ × Statement))
    (versions : ℕ) (weights : Weights) (key name : List ℕ) (q : Statement) → catalog_in tables es versions weights ≡ now
    → after ≡ insert_entry bytes_eq es key q → key ≡ name → find_statement now.statements name ≡ None
    → catalog_in tables after versions weights ≡ with_statement now name q
catalog_behind now tables es after versions weights key name q view made same free =
    let none : find_statement (statements_in es) name ≡ None =
    ap (λ (k : Catalog). find_statement k.statements name) view ∙ free in
    let more : statements_in after ≡ statements_in es ++ new_statement name q ∷ [] =
    ap statements_in (made ∙ ap (λ (key : List ℕ). insert_entry bytes_eq es key q) same)
    ∙ statement_last es name q none in
    ap (λ (ss : List StatementState). let k : Catalog =
    record { tables = tables_in tables; statements = ss; versions = versions; weights = weights } in k) more
    ∙ ap (λ (k : Catalog). with_statement k name q) view
