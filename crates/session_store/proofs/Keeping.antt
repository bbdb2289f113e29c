-- What a store keeps stays so: as a version is put, a column indexed, a statement prepared, a cursor opened or closed.
use Rattle.std.proofs.Common.{ℕ, ◌≡◌, ◌<◌, ◌+◌, List, [], ◌∷◌, ◌++◌, length, All, None, false, ap₂}
use Rattle.std.proofs.Common.{refl, sym, subst, arith}
use Rattle.std.proofs.lemmas.List.{length-append}
use Rattle.std.proofs.lemmas.List.Elements.{All-nil}
use Rattle.row_values.specs.Statements.{Statement, IsSoundQuery}
use Rattle.csv_tables.specs.Tables.{IsTable}
use Rattle.plan_trees.specs.Statistics.{AreWeights}
use Rattle.plan_trees.specs.declared.statistics.Weights.{Weights}
use Rattle.catalog_model.specs.Catalogs.{Catalog, StatementState, TableState, Version, empty_catalog, find_table}
use Rattle.catalog_model.specs.Catalogs.{put_index, put_version, with_index, with_statement, with_version}
use Rattle.catalog_model.specs.Held.{HeldCursor, held_by, is_open, present_versions, versions_of, without_cursor}
use Rattle.catalog_model.specs.Loading.{has_other_columns, limit_passed_by}
use Rattle.catalog_model.specs.Sound.{AreNumbered, IsCatalog, IsLoaded}
use Rattle.catalog_model.proofs.Cursors.{closed, differ_closed, differ_opened, few_left, numbered_closed}
use Rattle.catalog_model.proofs.Cursors.{numbered_opened}
use Rattle.catalog_model.proofs.Cursors.{numbered_put, opened}
use Rattle.catalog_model.proofs.Indexings.{indexed, same_versions}
use Rattle.catalog_model.proofs.Loads.{kept}
use Rattle.session_store.specs.Kept.{HeldTable, IsKept, StoreState, catalog_in, state_in}
use Rattle.session_store.specs.Measures.{measures_of}
use Rattle.session_store.specs.declared.measures.Measure.{Measure}

-- a state by its catalog and its cursors
pub state_is : (now : StoreState) (ts : List (List ℕ × HeldTable)) (ss : List (List ℕ × Statement)) (versions : ℕ)
    (weights : Weights) (cursors : List HeldCursor) (catalog : Catalog) → catalog_in ts ss versions weights ≡ catalog
    → cursors ≡ now.cursors → state_in ts ss versions weights cursors ≡ record now { catalog = catalog }
state_is now ts ss versions weights cursors catalog e same =
    ap₂ (λ (k : Catalog) (cs : List HeldCursor). let s : StoreState = record { catalog = k; cursors = cs } in s) e same

-- a store that keeps nothing yet
first_catalog : (weights : Weights) → AreWeights weights → IsCatalog [] (empty_catalog weights)
first_catalog weights are = record {
  weights = are;
  table_names = refl;
  statement_names = refl;
  version_numbers = refl;
  numbered = All-nil (λ (table : TableState). table.now.number < 0);
  are_tables = All-nil (λ (table : TableState). IsTable table.now.content);
  are_sound = All-nil (λ (prepared : StatementState). IsSoundQuery prepared.statement);
  loaded = All-nil (λ (prepared : StatementState). All (IsLoaded []) prepared.statement.places);
  few_tables = omega arith;
  few_statements = omega arith;
  few_cells = omega arith;
  few_bytes = omega arith;
}

no_version : (weights : Weights) → Version
no_version weights = record { content = record { schema = []; rows = [] }; bytes = 0; number = 0 }

pub first_kept : (ts : List (List ℕ × HeldTable)) (ss : List (List ℕ × Statement)) (weights : Weights)
    (cursors : List HeldCursor) (measures : List Measure) → AreWeights weights → ts ≡ [] → ss ≡ [] → cursors ≡ []
    → measures ≡ [] → IsKept (state_in ts ss 0 weights cursors) measures
first_kept [] [] weights [] [] are a b c d = record {
  measured = refl;
  sound = first_catalog weights are;
  numbered = record {
    version_of = λ n. no_version weights;
    one_each = All-nil (λ (v : Version). no_version weights ≡ v);
    before = All-nil (λ (v : Version). v.number < 0);
  };
  cursor_names = refl;
  few_cursors = omega arith;
}
first_kept (t ∷ ts) ss weights cursors measures are a b c d = absurd cc
first_kept [] (s ∷ ss) weights cursors measures are a b c d = absurd cc
first_kept [] [] weights (k ∷ cursors) measures are a b c d = absurd cc
first_kept [] [] weights [] (m ∷ measures) are a b c d = absurd cc

pub kept_put : (now : StoreState) (old measures : List Measure) (name : List ℕ) (new : Version) → IsKept now old
    → IsTable new.content → has_other_columns (find_table now.catalog.tables name) new.content ≡ false
    → new.number ≡ now.catalog.versions
    → limit_passed_by (held_by now.cursors) (put_version now.catalog.tables name new) ≡ None
    → measures ≡ measures_of (put_version now.catalog.tables name new) now.catalog.weights now.catalog.statements
    → IsKept (record now { catalog = with_version now.catalog name new }) measures
kept_put now old measures name new k table columns number limits measured = record {
  measured = measured;
  sound = kept (held_by now.cursors) now.catalog name new k.sound number table columns limits;
  numbered = subst (λ (n : ℕ). AreNumbered (n + 1)
      (held_by now.cursors ++ present_versions (put_version now.catalog.tables name new))) number
      (numbered_put (held_by now.cursors) now.catalog.tables name new
      (subst (λ (n : ℕ). AreNumbered n (held_by now.cursors ++ present_versions now.catalog.tables)) (sym number)
      k.numbered));
  cursor_names = k.cursor_names;
  few_cursors = k.few_cursors;
}

pub kept_index : (now : StoreState) (old measures : List Measure) (name : List ℕ) (column : ℕ) → IsKept now old
    → measures ≡ measures_of (put_index now.catalog.tables name column) now.catalog.weights now.catalog.statements
    → IsKept (record now { catalog = with_index now.catalog name column }) measures
kept_index now old measures name column k measured = record {
  measured = measured;
  sound = indexed (held_by now.cursors) now.catalog name column k.sound;
  numbered = subst (λ (vs : List Version). AreNumbered now.catalog.versions (held_by now.cursors ++ vs))
      (sym (same_versions now.catalog.tables name column)) k.numbered;
  cursor_names = k.cursor_names;
  few_cursors = k.few_cursors;
}

pub kept_statement : (now : StoreState) (old measures : List Measure) (name : List ℕ) (q : Statement) → IsKept now old
    → IsCatalog (held_by now.cursors) (with_statement now.catalog name q)
    → measures ≡ measures_of now.catalog.tables now.catalog.weights (with_statement now.catalog name q).statements
    → IsKept (record now { catalog = with_statement now.catalog name q }) measures
kept_statement now old measures name q k sound measured = record {
  measured = measured;
  sound = sound;
  numbered = k.numbered;
  cursor_names = k.cursor_names;
  few_cursors = k.few_cursors;
}

pub kept_opened : (now : StoreState) (measures : List Measure) (name : List ℕ) (q : Statement) → IsKept now measures
    → is_open name now.cursors ≡ false → length now.cursors < 16
    → IsKept (record now {
      cursors = now.cursors ++ record { name = name; held = versions_of now.catalog.tables q } ∷ [];
    }) measures
kept_opened now measures name q k free few =
    let new : HeldCursor = record { name = name; held = versions_of now.catalog.tables q } in
    let many : length (now.cursors ++ new ∷ []) ≡ length now.cursors + 1 = length-append now.cursors (new ∷ []) in
    record {
      measured = k.measured;
      sound = opened now.cursors name now.catalog q k.sound;
      numbered = numbered_opened now.cursors name now.catalog q k.numbered;
      cursor_names = differ_opened now.cursors new free k.cursor_names;
      few_cursors = omega (arith, many, few);
    }

pub kept_closed : (now : StoreState) (measures : List Measure) (name : List ℕ) → IsKept now measures
    → IsKept (record now { cursors = without_cursor name now.cursors }) measures
kept_closed now measures name k =
    let less = few_left now.cursors name in
    let few = k.few_cursors in
    record {
      measured = k.measured;
      sound = closed now.cursors name now.catalog k.sound k.numbered;
      numbered = numbered_closed now.cursors name now.catalog k.numbered;
      cursor_names = differ_closed now.cursors name k.cursor_names;
      few_cursors = omega (arith, less, few);
    }
