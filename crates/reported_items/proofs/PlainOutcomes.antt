-- What a line may come to: a refusal that is plain, or a value that has what is wanted of it.
use Rattle.std.proofs.Common.{ℕ, ◌≡◌, ◌∙◌, ◌==◌, nat_lt, List, [], ◌∷◌, ◌++◌, codes, length, Bool, true, false, cond}
use Rattle.std.proofs.Common.{Option, Some, None, Result, Ok, Err, refl, sym, subst, is_some, suc, position}
use Rattle.std.specs.Fmt.{decimal}
use Rattle.std.specs.List.{AllByRecursion}
use Rattle.std.specs.Option.{option_map}
use Rattle.std.specs.Str.{bytes_eq}
use Rattle.std.proofs.lemmas.Bool.{and_parts}
use Rattle.std.proofs.lemmas.Slice.Eq.{bytes_eq-Decides}
use Rattle.row_values.specs.Names.{canonical_name}
use Rattle.row_values.specs.Refusals as refused
use Rattle.row_values.specs.Statements.{Statement, kinds_of}
use Rattle.row_values.specs.declared.columns.Column.{Column}
use Rattle.row_values.specs.declared.refusals.Refusal.{Refusal}
use Rattle.row_values.specs.declared.values.Kind.{Kind}
use Rattle.row_values.specs.declared.values.Value.{Value}
use Rattle.sql_parser.specs.Statement.{Parts}
use Rattle.sql_parser.specs.declared.statement.RawPlace.{RawPlace}
use Rattle.csv_tables.specs.Spelled.{table_of}
use Rattle.csv_tables.specs.Tables.{TableValue}
use Rattle.csv_tables.specs.declared.faults.TableFault.{TableFault}
use Rattle.csv_tables.specs.declared.faults.TableFault.TheVariants.{BadCell, BadHeader, Cells, Columns, Memory, NotCsv}
use Rattle.csv_tables.specs.declared.faults.TableFault.TheVariants.{Rows}
use Rattle.name_binder.specs.Binding.{bound_statement, first_refusal, unless_refused}
use Rattle.name_binder.specs.Catalog.{Known}
use Rattle.name_binder.specs.References.{places_of}
use Rattle.name_binder.specs.declared.faults.BindFault.{BindFault}
use Rattle.plan_trees.specs.Spelling.{name_of}
use Rattle.catalog_model.specs.Catalogs.{Catalog, StatementState, TableState, Version, find_statement, find_table}
use Rattle.catalog_model.specs.Catalogs.{next_version, put_version, schemas_of, tables_of}
use Rattle.catalog_model.specs.Faults.{bind_refusal, fault_text}
use Rattle.catalog_model.specs.Held.{HeldCursor, holding_refusal, is_open}
use Rattle.catalog_model.specs.Indexing.{column_named, column_or_refusal, indexing_in, indexing_of}
use Rattle.catalog_model.specs.Instances.{Instance, args_refusal, first_misfit, instance_in, instance_of, kind_refusal}
use Rattle.catalog_model.specs.Instances.{refused_or, width_refusal, alias_at}
use Rattle.catalog_model.specs.Loading.{has_other_columns, limit_passed_by, loading_of, spelled_version, within_limits}
use Rattle.catalog_model.specs.Preparing.{bound, preparing_of}
use Rattle.catalog_model.proofs.Numbers.{position_next}
use Rattle.statement_statistics.specs.Statistics.{first_wide}
use Rattle.session_model.specs.Executions.{rows_refusal}
use Rattle.reported_items.specs.Reported.{is_one_line}
use Rattle.reported_items.proofs.LineIndexes.{IsPlaceLine, alias_line}
use Rattle.reported_items.proofs.LineNames.{canonical_line}
use Rattle.reported_items.proofs.LineParts.{IsLined, lined_place}
use Rattle.reported_items.proofs.LineRefusals.{IfThere, IsLimitLine, IsPlainFault, binding_plain, each_all, either_line}
use Rattle.reported_items.proofs.LineRefusals.{plain_refusal}
use Rattle.reported_items.proofs.Pieces.{decimal_one_line, one_line_both}
use Rattle.reported_items.proofs.PlainReplies.{IsPlainRefusal}

-- a value has this, a refusal is plain
pub record Outcome {A : Type 0} (P : A → Type 0) (r : Result A Refusal) : Type 0 where
  pub ok : (a : A) → r ≡ Ok a → P a
  pub err : (why : Refusal) → r ≡ Err why → IsPlainRefusal why

comes : {A : Type 0} (P : A → Type 0) (a : A) → P a → Outcome P (Ok a)
comes P a h = record { ok = λ b e. (let same : a ≡ b = cc in subst P same h); err = λ why e. absurd cc }

refuses : {A : Type 0} (P : A → Type 0) (why : Refusal) → IsPlainRefusal why → Outcome P (Err why)
refuses P why h =
    record { ok = λ a e. absurd cc; err = λ other e. (let same : why ≡ other = cc in subst IsPlainRefusal same h) }

either : {A : Type 0} (P : A → Type 0) (test : Bool) (a b : Result A Refusal) → (test ≡ true → Outcome P a)
    → (test ≡ false → Outcome P b) → Outcome P (cond test a b)
either P true a b h k = h refl
either P false a b h k = k refl

-- Loads.

fault_line : (fault : TableFault) → is_one_line (fault_text fault) ≡ true
fault_line Columns = refl
fault_line (BadHeader column) = decimal_one_line column
fault_line Rows = refl
fault_line Cells = refl
fault_line (NotCsv row) = decimal_one_line row
fault_line (BadCell row column) =
    one_line_both (decimal row) (codes " " ++ decimal column) (decimal_one_line row) (decimal_one_line column)
fault_line Memory = refl

limit_line : (held : List Version) (ts : List TableState) → IsLimitLine (limit_passed_by held ts)
limit_line held ts =
    either_line _ (codes "tables") _ refl (either_line _ (codes "cells") _ refl
    (either_line _ (codes "bytes") None refl (record { there = tt })))

-- the columns are those of before, if there is a table before
abbrev pub HasSameColumns : List TableState → List ℕ → Version → Type 0
HasSameColumns ts name version = has_other_columns (find_table ts name) version.content ≡ false

within_outcome : (P : Version → Type 0) (new : Version) (o : Option (List ℕ)) → P new → IsLimitLine o
    → Outcome P (within_limits new o)
within_outcome P new None h limit = comes P new h
within_outcome P new (Some text) h limit = refuses P _ (plain_refusal _ text limit.there refl)

spelled_outcome : (held : List Version) (catalog : Catalog) (name : List ℕ) (bytes : ℕ)
    (r : Result TableValue TableFault) → is_one_line name ≡ true
    → Outcome (HasSameColumns catalog.tables name) (spelled_version held catalog name bytes r)
spelled_outcome held catalog name bytes (Err fault) h =
    refuses (HasSameColumns catalog.tables name) _ (plain_refusal _ (fault_text fault) (fault_line fault) refl)
spelled_outcome held catalog name bytes (Ok content) h =
    let new : Version = next_version catalog content bytes in
    either (HasSameColumns catalog.tables name) (has_other_columns (find_table catalog.tables name) content) _ _
    (λ other. refuses (HasSameColumns catalog.tables name) _
    (plain_refusal _ (canonical_name name) (canonical_line name h) refl))
    (λ same. within_outcome (HasSameColumns catalog.tables name) new
    (limit_passed_by held (put_version catalog.tables name new)) same
    (limit_line held (put_version catalog.tables name new)))

pub loading_outcome : (held : List Version) (catalog : Catalog) (name bytes : List ℕ) → is_one_line name ≡ true
    → Outcome (HasSameColumns catalog.tables name) (loading_of held catalog name bytes)
unfolding loading_of
loading_outcome held catalog name bytes h =
    either (HasSameColumns catalog.tables name) _ _ _
    (λ long. refuses (HasSameColumns catalog.tables name) refused.file_too_long (plain_refusal _ [] refl refl))
    (λ short. spelled_outcome held catalog name (length bytes) (table_of bytes) h)

-- Indexes.

column_at : (schema : List Column) (name : List ℕ) (number : ℕ) → column_named schema name ≡ Some number
    → name_of schema number ≡ name
column_at [] name number h = absurd cc
column_at (column ∷ columns) name number h =
    by_test (bytes_eq column.name name) refl
    (sym (position_next (λ (c : Column). bytes_eq c.name name) column columns) ∙ h)
    (λ before. column_at columns name before)
  where
    behind : (o : Option ℕ) → column_named columns name ≡ o → option_map suc o ≡ Some number
        → ((before : ℕ) → column_named columns name ≡ Some before → name_of columns before ≡ name)
        → name_of (column ∷ columns) number ≡ name
    behind None is e later = absurd cc
    behind (Some before) is e later =
        let next : suc before ≡ number = cc in
        subst (λ n. name_of (column ∷ columns) n ≡ name) next (later before is)

    by_test : (test : Bool) → bytes_eq column.name name ≡ test
        → cond test (Some 0) (option_map suc (column_named columns name)) ≡ Some number
        → ((before : ℕ) → column_named columns name ≡ Some before → name_of columns before ≡ name)
        → name_of (column ∷ columns) number ≡ name
    by_test true e k later =
        let zeroth : 0 ≡ number = cc in
        subst (λ n. name_of (column ∷ columns) n ≡ name) zeroth ((bytes_eq-Decides column.name name).0 e)
    by_test false e k later = behind (column_named columns name) refl k later

-- the column of this number has a name of one line
abbrev pub IsColumnLine : List TableState → List ℕ → ℕ → Type 0
IsColumnLine ts table number =
    (content : TableValue) → find_table ts table ≡ Some content → is_one_line (name_of content.schema number) ≡ true

indexing_by : (ts : List TableState) (o : Option TableValue) (table column : List ℕ) → find_table ts table ≡ o
    → is_one_line table ≡ true → is_one_line column ≡ true
    → Outcome (IsColumnLine ts table) (indexing_in o table column)
indexing_by ts None table column is h k =
    refuses (IsColumnLine ts table) _ (plain_refusal _ (canonical_name table) (canonical_line table h) refl)
indexing_by ts (Some content) table column is h k = by_column (column_named content.schema column) refl
  where
    by_column : (o : Option ℕ) → column_named content.schema column ≡ o
        → Outcome (IsColumnLine ts table) (column_or_refusal o column)
    by_column None e =
        refuses (IsColumnLine ts table) _ (plain_refusal _ (canonical_name column) (canonical_line column k) refl)
    by_column (Some number) e =
        comes (IsColumnLine ts table) number
        (λ other found. (let same : content ≡ other = cc in
        subst (λ (c : TableValue). is_one_line (name_of c.schema number) ≡ true) same
        (subst (λ (z : List ℕ). is_one_line z ≡ true) (sym (column_at content.schema column number e)) k)))

pub indexing_outcome : (catalog : Catalog) (table column : List ℕ) → is_one_line table ≡ true
    → is_one_line column ≡ true → Outcome (IsColumnLine catalog.tables table) (indexing_of catalog table column)
unfolding indexing_of
indexing_outcome catalog table column h k =
    indexing_by catalog.tables (find_table catalog.tables table) table column refl h k

-- Preparations.

-- the aliases of a statement are of one line
abbrev pub HasPlaceLines : Statement → Type 0
HasPlaceLines q = AllByRecursion IsPlaceLine q.places

places_lines : (tables : List Known) (places : List RawPlace) → AllByRecursion (λ p. lined_place p ≡ true) places
    → AllByRecursion IsPlaceLine (places_of tables places)
places_lines tables [] h = tt
places_lines tables (p ∷ places) h =
    ((and_parts (is_one_line p.table) (is_one_line p.alias) h.0).1, places_lines tables places h.1)

bound_outcome : (ss : List StatementState) (o : Option BindFault) (q : Statement) → IfThere IsPlainFault o
    → HasPlaceLines q → Outcome HasPlaceLines (bound ss (unless_refused o q))
bound_outcome ss None q h lines =
    either HasPlaceLines _ _ _ (λ room. comes HasPlaceLines q lines)
    (λ full. refuses HasPlaceLines _ (plain_refusal _ (codes "statements") refl refl))
bound_outcome ss (Some fault) q h lines = refuses HasPlaceLines (bind_refusal fault) h

pub preparing_outcome : (catalog : Catalog) (name : List ℕ) (select : Parts) → is_one_line name ≡ true
    → IsLined select → Outcome HasPlaceLines (preparing_of catalog name select)
unfolding preparing_of
preparing_outcome catalog name select h lined =
    let tables : List Known = schemas_of catalog.tables in
    either HasPlaceLines (is_some (find_statement catalog.statements name))
    (Err (refused.name_taken (canonical_name name))) _
    (λ taken. refuses HasPlaceLines (refused.name_taken (canonical_name name))
    (plain_refusal _ (canonical_name name) (canonical_line name h) refl))
    (λ free. bound_outcome catalog.statements (first_refusal tables select)
    (bound_statement (places_of tables select.places) select) (binding_plain tables select lined)
    (places_lines tables select.places (each_all lined_place select.places lined.places)))

-- Instances.

-- what holds of each statement holds of the one that is found
pub found_has : (P : Statement → Type 0) (ss : List StatementState) (name : List ℕ)
    → AllByRecursion (λ (prepared : StatementState). P prepared.statement) ss → IfThere P (find_statement ss name)
found_has P [] name h = tt
found_has P (s ∷ ss) name h = by_test (bytes_eq name s.name) (found_has P ss name h.1)
  where
    by_test : (test : Bool) → IfThere P (find_statement ss name)
        → IfThere P (cond test (Some s.statement) (find_statement ss name))
    by_test true later = h.0
    by_test false later = later

-- the statement of an instance has such aliases
abbrev pub HasInstanceLines : Instance → Type 0
HasInstanceLines instance = HasPlaceLines instance.statement

refused_outcome : (o : Option Refusal) (r : Result Instance Refusal) → IfThere IsPlainRefusal o
    → Outcome HasInstanceLines r → Outcome HasInstanceLines (refused_or o r)
refused_outcome None r h k = k
refused_outcome (Some why) r h k = refuses HasInstanceLines why h

kind_plain : (o : Option ℕ) → IfThere IsPlainRefusal (kind_refusal o)
kind_plain None = tt
kind_plain (Some position) = plain_refusal _ (decimal position) (decimal_one_line position) refl

args_plain : (kinds : List Kind) (args : List Value) → IfThere IsPlainRefusal (args_refusal kinds args)
args_plain kinds args = by_test (length args == length kinds)
  where
    by_test : (test : Bool) → IfThere IsPlainRefusal (cond test (kind_refusal (first_misfit 1 kinds args))
        (Some (refused.argument_count (length kinds))))
    by_test true = kind_plain (first_misfit 1 kinds args)
    by_test false = plain_refusal _ (decimal (length kinds)) (decimal_one_line (length kinds)) refl

width_plain : (q : Statement) (o : Option ℕ) → HasPlaceLines q → IfThere IsPlainRefusal (width_refusal q o)
width_plain q None h = tt
width_plain q (Some place) h =
    plain_refusal _ (canonical_name (alias_at q place))
    (canonical_line (alias_at q place) (alias_line q.places place h)) refl

instance_by : (ts : List TableState) (o : Option Statement) (name : List ℕ) (args : List Value)
    → is_one_line name ≡ true → IfThere HasPlaceLines o → Outcome HasInstanceLines (instance_in ts o name args)
instance_by ts None name args h lines =
    refuses HasInstanceLines _ (plain_refusal _ (canonical_name name) (canonical_line name h) refl)
instance_by ts (Some q) name args h lines =
    refused_outcome (args_refusal (kinds_of q.places q.preds) args) _ (args_plain (kinds_of q.places q.preds) args)
    (refused_outcome (width_refusal q (first_wide q (tables_of ts q))) _
    (width_plain q (first_wide q (tables_of ts q)) lines)
    (comes HasInstanceLines (record { statement = q; args = args }) lines))

pub instance_outcome : (catalog : Catalog) (name : List ℕ) (args : List Value) → is_one_line name ≡ true
    → AllByRecursion (λ (prepared : StatementState). HasPlaceLines prepared.statement) catalog.statements
    → Outcome HasInstanceLines (instance_of catalog name args)
unfolding instance_of
instance_outcome catalog name args h lines =
    instance_by catalog.tables (find_statement catalog.statements name) name args h
    (found_has HasPlaceLines catalog.statements name lines)

-- Others.

pub holding_plain : (cursors : List HeldCursor) (name : List ℕ) → is_one_line name ≡ true
    → IfThere IsPlainRefusal (holding_refusal cursors name)
holding_plain cursors name h = by_both (is_open name cursors) (nat_lt (length cursors) 16)
  where
    by_both : (open_ room : Bool) → IfThere IsPlainRefusal (cond open_ (Some (refused.name_taken (canonical_name name)))
        (cond room None (Some (refused.store_limit (codes "cursors")))))
    by_both true room = plain_refusal _ (canonical_name name) (canonical_line name h) refl
    by_both false true = tt
    by_both false false = plain_refusal _ (codes "cursors") refl refl

pub rows_plain : (count : ℕ) → IfThere IsPlainRefusal (rows_refusal count)
rows_plain count = by_test _
  where
    by_test : (test : Bool) → IfThere IsPlainRefusal (cond test None (Some refused.too_many_rows))
    by_test true = tt
    by_test false = record { line = refl; bare = λ e. refl }
