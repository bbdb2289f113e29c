-- Columns that are indexed have names of one line, and so have the aliases of statements: plans are of one line.
use Rattle.std.proofs.Common.{ℕ, zero, suc, ◌≡◌, ◌∙◌, ◌+◌, ◌*◌, ◌^◌, ◌/◌, ◌%◌, ◌==◌, List, [], ◌∷◌, map, Bool, true}
use Rattle.std.proofs.Common.{false, cond, if◌then◌else◌, Some, ap, refl, sym, subst, arith, true≢false}
use Rattle.std.specs.List.{AllByRecursion}
use Rattle.std.specs.Option.{option_map}
use Rattle.std.specs.Str.{bytes_eq}
use Rattle.std.proofs.Math.Nat.{div-div-eq-div-mul, zero-div}
use Rattle.row_values.specs.declared.columns.Column.{Column}
use Rattle.row_values.specs.declared.statement.Place.{Place}
use Rattle.csv_tables.specs.Tables.{TableValue}
use Rattle.plan_trees.specs.PlaceSets.{has}
use Rattle.plan_trees.specs.Indexes.{has_index}
use Rattle.plan_trees.specs.Spelling.{alias_of, columns_of, name_of}
use Rattle.catalog_model.specs.Catalogs.{TableState, find_table, flags_named, mask_of_flags}
use Rattle.catalog_model.specs.Sound.{IsLoaded}
use Rattle.reported_items.specs.Reported.{is_one_line}
use Rattle.reported_items.proofs.LinePlans.{ArePlanNames}

-- the columns with a flag have names of one line
abbrev pub AreFlaggedLines : List Bool → List Column → Type 0
AreFlaggedLines [] columns = Unit {0}
AreFlaggedLines (flag ∷ flags) [] = Unit {0}
AreFlaggedLines (flag ∷ flags) (column ∷ columns) =
    (flag ≡ true → is_one_line column.name ≡ true) × AreFlaggedLines flags columns

-- so have those of a table that are indexed
abbrev pub IsTableLine : TableState → Type 0
IsTableLine table = AreFlaggedLines table.indexed table.now.content.schema

-- the alias of a place is of one line
abbrev pub IsPlaceLine : Place → Type 0
IsPlaceLine place = is_one_line place.alias ≡ true

-- Bits.

half : (b : Bool) (m : ℕ) → ((if b then 1 else 0) + 2 * m) / 2 ≡ m
half true m = omega arith
half false m = omega arith

low : (b : Bool) (m : ℕ) → has ((if b then 1 else 0) + 2 * m) 0 ≡ true → b ≡ true
low true m h = refl
low false m h = absurd (no_low h)
  where
    no_low : ((0 + 2 * m) / 1 % 2 == 1) ≡ true → ⊥
    no_low k = let e : (0 + 2 * m) / 1 % 2 ≡ 0 = omega arith in true≢false (sym k ∙ ap (λ n. n == 1) e)

high : (b : Bool) (m c : ℕ) → has ((if b then 1 else 0) + 2 * m) (suc c) ≡ has m c
high b m c =
    let power : 2 ^ suc c ≡ 2 * 2 ^ c = grind arith in
    let e : ((if b then 1 else 0) + 2 * m) / 2 ^ suc c ≡ m / 2 ^ c =
    ap (λ k. ((if b then 1 else 0) + 2 * m) / k) power
    ∙ sym (div-div-eq-div-mul ((if b then 1 else 0) + 2 * m) 2 (2 ^ c)) ∙ ap (λ n. n / 2 ^ c) (half b m) in
    ap (λ n. n % 2 == 1) e

no_bit : (c : ℕ) → has 0 c ≡ true → ⊥
no_bit c h = true≢false (sym h ∙ ap (λ n. n % 2 == 1) (zero-div (2 ^ c)))

flagged_line : (flags : List Bool) (columns : List Column) (c : ℕ) → AreFlaggedLines flags columns
    → has (mask_of_flags flags) c ≡ true → is_one_line (name_of columns c) ≡ true
flagged_line [] columns c lines h = absurd (no_bit c h)
flagged_line (flag ∷ flags) [] c lines h = refl
flagged_line (flag ∷ flags) (column ∷ columns) zero lines h = lines.0 (low flag (mask_of_flags flags) h)
flagged_line (flag ∷ flags) (column ∷ columns) (suc c) lines h =
    flagged_line flags columns c lines.1 (sym (high flag (mask_of_flags flags) c) ∙ h)

-- Tables.

table_line : (ts : List TableState) (name : List ℕ) (schema : List Column) → AllByRecursion IsTableLine ts
    → option_map (λ (table : TableValue). table.schema) (find_table ts name) ≡ Some schema
    → AreFlaggedLines (flags_named ts name) schema
table_line [] name schema lines e = absurd cc
table_line (t ∷ ts) name schema lines e = by_test (bytes_eq name t.name) e (table_line ts name schema lines.1)
  where
    by_test : (test : Bool)
        → option_map (λ (table : TableValue). table.schema) (cond test (Some t.now.content) (find_table ts name))
        ≡ Some schema
        → (option_map (λ (table : TableValue). table.schema) (find_table ts name) ≡ Some schema
        → AreFlaggedLines (flags_named ts name) schema)
        → AreFlaggedLines (cond test t.indexed (flags_named ts name)) schema
    by_test true k later =
        let same : t.now.content.schema ≡ schema = cc in subst (AreFlaggedLines t.indexed) same lines.0
    by_test false k later = later k

-- Places.

abbrev masks : List TableState → List Place → List ℕ
masks ts places = map (λ (place : Place). mask_of_flags (flags_named ts place.table)) places

column_line : (ts : List TableState) (places : List Place) (place column : ℕ) → AllByRecursion IsTableLine ts
    → AllByRecursion (IsLoaded ts) places → has_index (masks ts places) place column ≡ true
    → is_one_line (name_of (columns_of places place) column) ≡ true
column_line ts [] place column lines loaded h = refl
column_line ts (p ∷ places) zero column lines loaded h =
    flagged_line (flags_named ts p.table) p.schema column (table_line ts p.table p.schema lines loaded.0) h
column_line ts (p ∷ places) (suc place) column lines loaded h =
    column_line ts places place column lines loaded.1 h

pub alias_line : (places : List Place) (place : ℕ) → AllByRecursion IsPlaceLine places
    → is_one_line (alias_of places place) ≡ true
alias_line [] place lines = refl
alias_line (p ∷ places) zero lines = lines.0
alias_line (p ∷ places) (suc place) lines = alias_line places place lines.1

-- the names that a statement's plans are spelled by
pub plan_names : (ts : List TableState) (places : List Place) → AllByRecursion IsTableLine ts
    → AllByRecursion (IsLoaded ts) places → AllByRecursion IsPlaceLine places
    → ArePlanNames places (map (λ (place : Place). mask_of_flags (flags_named ts place.table)) places)
plan_names ts places tables loaded aliases = record {
  alias = λ place. alias_line places place aliases;
  column = λ place column h. column_line ts places place column tables loaded h;
}
