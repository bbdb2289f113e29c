-- What the calls of a store answer, and what they leave.
use Rattle.std.specs.Prelude.{ℕ, ◌≡◌, ◌<◌, List, [], ◌∷◌, ◌++◌, length, slice_get, Bool, true, false, Option, Some}
use Rattle.std.specs.Prelude.{None, Result, Ok, Err}
use Rattle.std.specs.Option.{option_map}
use Rattle.row_values.specs.Statements.{Statement}
use Rattle.row_values.specs.declared.refusals.Refusal.{Refusal}
use Rattle.row_values.specs.declared.values.Value.{Value}
use Rattle.name_binder.specs.declared.faults.BindFault.{BindFault}
use Rattle.plan_trees.specs.Statistics.{IsSoundStats, IsSoundVector}
use Rattle.statement_meaning.specs.Vectors.{vector_of}
use Rattle.catalog_model.specs.Catalogs.{Catalog, Version, stats_now, tables_of, with_index, with_statement}
use Rattle.catalog_model.specs.Catalogs.{number_of, with_version}
use Rattle.catalog_model.specs.Faults.{bind_refusal}
use Rattle.catalog_model.specs.Held.{is_open, without_cursor}
use Rattle.catalog_model.specs.Instances.{Instance}
use Rattle.session_store.specs.Kept.{StoreState}
use Rattle.session_store.specs.declared.faults.StoreFault.{StoreFault}
use Rattle.session_store.specs.declared.faults.StoreFault.TheVariants.{Refused, Memory}
use Rattle.session_store.specs.declared.instances.Instance as stored

-- a fault is the refusal that is wanted, or want of memory
abbrev pub Says : {T : Type 0} → Result T Refusal → StoreFault → Type 0
Says wanted (Refused why) = wanted ≡ Err why
Says wanted Memory = Unit {0}

-- the version is kept, or memory was short and nothing changed
abbrev pub Keeps : Catalog → List ℕ → Version → Result (Unit {0}) StoreFault → Catalog → Type 0
Keeps old name version (Ok done) new = new ≡ with_version old name version
Keeps old name version (Err fault) new = (fault ≡ Memory) × (new ≡ old)

-- the statement is kept behind the others, or memory was short and nothing changed
abbrev pub KeepsStatement : Catalog → List ℕ → Statement → Result (Unit {0}) StoreFault → Catalog → Type 0
KeepsStatement old name q (Ok done) new = new ≡ with_statement old name q
KeepsStatement old name q (Err fault) new = (fault ≡ Memory) × (new ≡ old)

-- the version that is wanted is kept and its rows and columns are told; or nothing changed
abbrev pub Loads : Result Version Refusal → Catalog → List ℕ → Result (ℕ × ℕ) StoreFault → Catalog → Type 0
Loads wanted old name (Ok counts) new =
    (version : Version) × (wanted ≡ Ok version) × (counts.0 ≡ length version.content.rows)
    × (counts.1 ≡ length version.content.schema) × (new ≡ with_version old name version)
Loads wanted old name (Err fault) new = Says wanted fault × (new ≡ old)

-- the number of the column that is wanted; or its refusal, or want of memory
abbrev pub Names : Result ℕ Refusal → Result ℕ StoreFault → Type 0
Names wanted (Ok column) = wanted ≡ Ok column
Names wanted (Err fault) = Says wanted fault

-- the column is indexed, or memory was short and nothing changed
abbrev pub KeepsIndex : Catalog → List ℕ → ℕ → Result (Unit {0}) StoreFault → Catalog → Type 0
KeepsIndex old table column (Ok done) new = new ≡ with_index old table column
KeepsIndex old table column (Err fault) new = (fault ≡ Memory) × (new ≡ old)

-- the column that is wanted is indexed; or nothing changed
abbrev pub Indexes : Result ℕ Refusal → Catalog → List ℕ → Result (Unit {0}) StoreFault → Catalog → Type 0
Indexes wanted old table (Ok done) new = (column : ℕ) × (wanted ≡ Ok column) × (new ≡ with_index old table column)
Indexes wanted old table (Err fault) new = Says wanted fault × (new ≡ old)

-- the statement that the binding gives; or its refusal, or want of memory
abbrev pub Binds : Result Statement BindFault → Result Statement StoreFault → Type 0
Binds binding (Ok q) = binding ≡ Ok q
Binds binding (Err (Refused why)) = (fault : BindFault) × (binding ≡ Err fault) × (why ≡ bind_refusal fault)
Binds binding (Err Memory) = Unit {0}

-- the statement that is wanted is kept behind the others and its number is told; or nothing changed
abbrev pub Prepares : Result Statement Refusal → Catalog → List ℕ → Result ℕ StoreFault → Catalog → Type 0
Prepares wanted old name (Ok number) new =
    (q : Statement) × (wanted ≡ Ok q) × (number ≡ length old.statements) × (new ≡ with_statement old name q)
Prepares wanted old name (Err fault) new = Says wanted fault × (new ≡ old)

-- the number is that of this statement
abbrev pub IsNumber : Catalog → Statement → ℕ → Type 0
IsNumber catalog q number =
    (number < length catalog.statements)
    × (option_map (λ prepared. prepared.statement) (slice_get catalog.statements number) ≡ Some q)

-- an instance that is told: the statement of this name that is wanted with these arguments, by its number, its
-- statistics over the present tables, and its vector; both are sound
pub record IsInstance (name : List ℕ) (wanted : Result Instance Refusal) (catalog : Catalog) (args : List Value)
    (told : stored.Instance) : Type 0 where
  pub query : Statement
  pub instance_is : wanted ≡ Ok (record { statement = query; args = args })
  pub named : number_of catalog.statements name ≡ Some told.statement
  pub number : IsNumber catalog query told.statement
  pub stats_are : told.stats ≡ stats_now catalog.tables catalog.weights query
  pub vector_is : told.at ≡ vector_of query (tables_of catalog.tables query) args
  pub sound_stats : IsSoundStats query told.stats
  pub sound_vector : IsSoundVector query told.stats told.at

-- an instance of the statement of this name that is wanted with these arguments; or its refusal, or want of memory
abbrev pub Instantiates : List ℕ → Result Instance Refusal → Catalog → List Value → Result stored.Instance StoreFault
    → Type 0
Instantiates name wanted catalog args (Ok told) = IsInstance name wanted catalog args told
Instantiates name wanted catalog args (Err fault) = Says wanted fault

-- Cursors.

-- a cursor may be opened; or its refusal, or want of memory
abbrev pub Allows : Option Refusal → Result (Unit {0}) StoreFault → Type 0
Allows refusal (Ok done) = refusal ≡ None
Allows refusal (Err (Refused why)) = refusal ≡ Some why
Allows refusal (Err Memory) = Unit {0}

-- a cursor that holds these versions stands behind the others, or memory was short and nothing changed
abbrev pub Holds : {E : Type 0} → StoreState → List ℕ → List Version → Result (Unit {0}) E → StoreState → Type 0
Holds old name held (Ok done) new =
    new ≡ record old { cursors = old.cursors ++ record { name = name; held = held } ∷ [] }
Holds old name held (Err fault) new = new ≡ old

-- the cursor was open and is there no more, or it wasn't and nothing changed
abbrev pub Closes : StoreState → List ℕ → Bool → StoreState → Type 0
Closes old name true new =
    (is_open name old.cursors ≡ true) × (new ≡ record old { cursors = without_cursor name old.cursors })
Closes old name false new = (is_open name old.cursors ≡ false) × (new ≡ old)
