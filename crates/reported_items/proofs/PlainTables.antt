-- Indexed columns keep names of one line as tables are loaded and indexed.
use Rattle.std.proofs.Common.{ℕ, zero, suc, ◌≡◌, ◌&&◌, List, [], ◌∷◌, map, not, set, Bool, true, false, cond, Some}
use Rattle.std.proofs.Common.{refl, sym, subst, true≢false}
use Rattle.std.specs.List.{AllByRecursion}
use Rattle.std.specs.Str.{bytes_eq}
use Rattle.std.proofs.lemmas.Bool.{and_parts}
use Rattle.std.proofs.lemmas.Slice.Eq.{bytes_eq-Decides}
use Rattle.row_values.specs.declared.columns.Column.{Column}
use Rattle.csv_tables.specs.Tables.{TableValue}
use Rattle.plan_trees.specs.Spelling.{name_of}
use Rattle.catalog_model.specs.Catalogs.{TableState, Version, find_table, put_index, put_version}
use Rattle.catalog_model.specs.Loading.{are_same_columns, has_other_columns, is_same_kind}
use Rattle.reported_items.specs.Reported.{is_one_line}
use Rattle.reported_items.proofs.LineIndexes.{AreFlaggedLines, IsTableLine}
use Rattle.reported_items.proofs.PlainOutcomes.{HasSameColumns, IsColumnLine}

-- Loads.

no_flags : (columns others : List Column) → AreFlaggedLines (map (λ (column : Column). false) columns) others
no_flags [] others = tt
no_flags (column ∷ columns) [] = tt
no_flags (column ∷ columns) (other ∷ others) = ((λ e. absurd (true≢false (sym e))), no_flags columns others)

same_flags : (flags : List Bool) (olds news : List Column) → are_same_columns olds news ≡ true
    → AreFlaggedLines flags olds → AreFlaggedLines flags news
same_flags [] olds news e h = tt
same_flags (flag ∷ flags) [] [] e h = tt
same_flags (flag ∷ flags) [] (new ∷ news) e h = absurd cc
same_flags (flag ∷ flags) (old ∷ olds) [] e h = tt
same_flags (flag ∷ flags) (old ∷ olds) (new ∷ news) e h =
    let outer = and_parts (bytes_eq old.name new.name && is_same_kind old.kind new.kind) (are_same_columns olds news) e
    in
    let names = and_parts (bytes_eq old.name new.name) (is_same_kind old.kind new.kind) outer.0 in (
      (λ set. subst (λ (z : List ℕ). is_one_line z ≡ true) ((bytes_eq-Decides old.name new.name).0 names.0) (h.0 set)),
      same_flags flags olds news outer.1 h.1,
    )

not_other : (b : Bool) → not b ≡ false → b ≡ true
not_other true h = refl
not_other false h = absurd cc

pub loaded_lines : (ts : List TableState) (name : List ℕ) (version : Version) → HasSameColumns ts name version
    → AllByRecursion IsTableLine ts → AllByRecursion IsTableLine (put_version ts name version)
loaded_lines [] name version same h = (no_flags version.content.schema version.content.schema, tt)
loaded_lines (t ∷ ts) name version same h =
    by_test (bytes_eq name t.name) same (λ k. loaded_lines ts name version k h.1)
  where
    by_test : (test : Bool)
        → has_other_columns (cond test (Some t.now.content) (find_table ts name)) version.content ≡ false
        → (HasSameColumns ts name version → AllByRecursion IsTableLine (put_version ts name version))
        → AllByRecursion IsTableLine (cond test (record t { now = version } ∷ ts) (t ∷ put_version ts name version))
    by_test true k later =
        (same_flags t.indexed t.now.content.schema version.content.schema (not_other _ k) h.0, h.1)
    by_test false k later = (h.0, later k)

-- Indexes.

set_flags : (flags : List Bool) (columns : List Column) (n : ℕ) → is_one_line (name_of columns n) ≡ true
    → AreFlaggedLines flags columns → AreFlaggedLines (set flags n true) columns
set_flags [] columns n line h = tt
set_flags (flag ∷ flags) [] zero line h = tt
set_flags (flag ∷ flags) [] (suc n) line h = tt
set_flags (flag ∷ flags) (column ∷ columns) zero line h = ((λ e. line), h.1)
set_flags (flag ∷ flags) (column ∷ columns) (suc n) line h = (h.0, set_flags flags columns n line h.1)

pub indexed_lines : (ts : List TableState) (table : List ℕ) (number : ℕ) → IsColumnLine ts table number
    → AllByRecursion IsTableLine ts → AllByRecursion IsTableLine (put_index ts table number)
indexed_lines [] table number line h = tt
indexed_lines (t ∷ ts) table number line h =
    by_test (bytes_eq table t.name) line (λ k. indexed_lines ts table number k h.1)
  where
    by_test : (test : Bool)
        → ((content : TableValue) → cond test (Some t.now.content) (find_table ts table) ≡ Some content
        → is_one_line (name_of content.schema number) ≡ true)
        → (IsColumnLine ts table number → AllByRecursion IsTableLine (put_index ts table number))
        → AllByRecursion IsTableLine
        (cond test (record t { indexed = set t.indexed number true } ∷ ts) (t ∷ put_index ts table number))
    by_test true k later =
        (set_flags t.indexed t.now.content.schema number (k t.now.content refl) h.0, h.1)
    by_test false k later = (h.0, later k)
