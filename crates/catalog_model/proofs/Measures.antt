-- The statement of an instance is sound, and so are its statistics and its vector.
use Rattle.std.proofs.Common.{◌∙◌, ℕ, ◌≡◌, ◌≤◌, ◌^◌, List, [], ◌∷◌, length, map, cond, Bool, true, false, Option, Some, None}
use Rattle.std.proofs.Common.{Result, Ok, Err, All, ap, refl, sym, subst, arith}
use Rattle.std.specs.Option.{option_map_or}
use Rattle.std.specs.Str.{bytes_eq}
use Rattle.std.proofs.lemmas.List.Elements.{All-cons, All-head, All-nil, All-tail}
use Rattle.row_values.specs.Statements.{IsSoundQuery, Statement, kinds_of}
use Rattle.row_values.specs.declared.refusals.Refusal.{Refusal}
use Rattle.row_values.specs.declared.statement.Place.{Place}
use Rattle.row_values.specs.declared.values.Value.{Value}
use Rattle.csv_tables.specs.Tables.{IsTable, TableValue}
use Rattle.statement_statistics.specs.Statistics.{first_wide}
use Rattle.statement_statistics.proofs.SoundStats.{sound_stats, sound_vector}
use Rattle.catalog_model.specs.Catalogs.{Catalog, StatementState, TableState, Version, find_statement, find_table}
use Rattle.catalog_model.specs.Catalogs.{masks_now, rows_named, tables_of}
use Rattle.catalog_model.specs.Instances.{Instance, args_refusal, instance_in, instance_of, refused_or, width_refusal}
use Rattle.catalog_model.specs.Laws.{IsMeasured}
use Rattle.catalog_model.specs.Sound.{IsCatalog}

-- Rows of tables are few.

abbrev AreFew : List (List Value) → Type 0
AreFew rows = length rows ≤ 2 ^ 20

few_by : (test : Bool) (t : TableState) (rest : Option TableValue) → IsTable t.now.content
    → AreFew (option_map_or (λ table. table.rows) rest [])
    → AreFew (option_map_or (λ table. table.rows) (cond test (Some t.now.content) rest) [])
few_by true t rest table later = table.few_rows
few_by false t rest table later = later

few_named : (ts : List TableState) (name : List ℕ) → All (λ (table : TableState). IsTable table.now.content) ts
    → AreFew (rows_named ts name)
few_named [] name a = omega arith
few_named (t ∷ ts) name a =
    few_by (bytes_eq name t.name) t (find_table ts name)
    (All-head (λ (table : TableState). IsTable table.now.content) t ts a)
    (few_named ts name (All-tail (λ (table : TableState). IsTable table.now.content) t ts a))

few_places : (ts : List TableState) (places : List Place)
    → All (λ (table : TableState). IsTable table.now.content) ts
    → All AreFew (map (λ place. rows_named ts place.table) places)
few_places ts [] a = All-nil AreFew
few_places ts (place ∷ places) a =
    All-cons AreFew (rows_named ts place.table) (map (λ one. rows_named ts one.table) places)
    (few_named ts place.table a) (few_places ts places a)

-- A statement that is found is sound.

found_by : (test : Bool) (p : StatementState) (rest : Option Statement) (q : Statement)
    → cond test (Some p.statement) rest ≡ Some q → IsSoundQuery p.statement → (rest ≡ Some q → IsSoundQuery q)
    → IsSoundQuery q
found_by true p rest q e sound later = let same : p.statement ≡ q = cc in subst IsSoundQuery same sound
found_by false p rest q e sound later = later e

found_sound : (ss : List StatementState) (name : List ℕ) (q : Statement) → find_statement ss name ≡ Some q
    → All (λ (prepared : StatementState). IsSoundQuery prepared.statement) ss → IsSoundQuery q
found_sound [] name q e a = absurd cc
found_sound (p ∷ ss) name q e a =
    found_by (bytes_eq name p.name) p (find_statement ss name) q e
    (All-head (λ (prepared : StatementState). IsSoundQuery prepared.statement) p ss a)
    (λ later. found_sound ss name q later (All-tail (λ (prepared : StatementState). IsSoundQuery prepared.statement) p ss a))

-- What an instance says that isn't refused.

pub record Allowed (ts : List TableState) (q : Statement) (args : List Value) (instance : Instance) : Type 0 where
  pub instance_is : record { statement = q; args = args } ≡ instance
  pub narrow : first_wide q (tables_of ts q) ≡ None

narrow_by : (q : Statement) (place : Option ℕ) (instance given : Instance)
    → refused_or (width_refusal q place) (Ok instance) ≡ Ok given → (instance ≡ given) × (place ≡ None)
narrow_by q None instance given h = (cc, refl)
narrow_by q (Some place) instance given h = absurd cc

fits_by : (why : Option Refusal) (rest : Result Instance Refusal) (given : Instance) → refused_or why rest ≡ Ok given
    → rest ≡ Ok given
fits_by None rest given h = h
fits_by (Some why) rest given h = absurd cc

allowed_in : (ts : List TableState) (o : Option Statement) (name : List ℕ) (args : List Value) (instance : Instance)
    → instance_in ts o name args ≡ Ok instance → (q : Statement) × (o ≡ Some q) × Allowed ts q args instance
allowed_in ts None name args instance h = absurd cc
allowed_in ts (Some q) name args instance h =
    let rest = fits_by (args_refusal (kinds_of q.places q.preds) args) _ instance h in
    let narrow = narrow_by q (first_wide q (tables_of ts q)) _ instance rest in
    (q, refl, record { instance_is = narrow.0; narrow = narrow.1 })

pub measured : (held : List Version) (catalog : Catalog) (name : List ℕ) (args : List Value) (instance : Instance)
    → IsCatalog held catalog → instance_of catalog name args ≡ Ok instance → IsMeasured catalog instance
unfolding instance_of
measured held catalog name args instance sound h =
    let found = allowed_in catalog.tables (find_statement catalog.statements name) name args instance h in
    let q : Statement = found.0 in
    let good : IsSoundQuery q = found_sound catalog.statements name q found.1 sound.are_sound in
    let tables : List (List (List Value)) = tables_of catalog.tables q in
    let made : Instance = record { statement = q; args = args } in
    let here : IsMeasured catalog made =
    record {
      sound = good;
      stats = sound_stats q tables (masks_now catalog.tables q) catalog.weights good
          (few_places catalog.tables q.places sound.are_tables) sound.weights found.2.narrow;
      vector = sound_vector q tables (masks_now catalog.tables q) catalog.weights args good;
    } in
    subst (IsMeasured catalog) found.2.instance_is here

-- an instance is of the statement of that name, with the arguments that were given
pub statement_found : (catalog : Catalog) (name : List ℕ) (args : List Value) (instance : Instance)
    → instance_of catalog name args ≡ Ok instance
    → (find_statement catalog.statements name ≡ Some instance.statement) × (args ≡ instance.args)
unfolding instance_of
statement_found catalog name args instance h =
    let found = allowed_in catalog.tables (find_statement catalog.statements name) name args instance h in
    let is = found.2.instance_is in
    (found.1 ∙ ap (λ (i : Instance). Some i.statement) is, ap (λ (i : Instance). i.args) is)
