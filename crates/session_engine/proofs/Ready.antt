-- An instance of the store, with the tables and indexes of its statement, is ready to be executed.
use Rattle.std.proofs.Common.{ℕ, ◌≡◌, ◌∙◌, List, Some, Result, ap, subst, sym}
use Rattle.std.specs.List.{slice_get}
use Rattle.std.specs.Option.{option_map}
use Rattle.row_values.specs.Statements.{Statement}
use Rattle.row_values.specs.declared.refusals.Refusal.{Refusal}
use Rattle.row_values.specs.declared.values.Value.{Value}
use Rattle.plan_trees.specs.Statistics.{IsSoundStats, IsSoundVector, Statistics}
use Rattle.statement_statistics.specs.Statistics.{row_counts}
use Rattle.catalog_model.specs.Catalogs.{Catalog, StatementState, masks_now, stats_now, tables_of}
use Rattle.catalog_model.specs.Instances.{Instance}
use Rattle.session_store.specs.Outcomes.{IsInstance}
use Rattle.session_store.specs.declared.instances.Instance as stored

same_query : (p q : Statement) → Some p ≡ Some q → p ≡ q
same_query p q e = cc

-- the statement of the instance's number is the one that was wanted
pub its_query : (name : List ℕ) (wanted : Result Instance Refusal) (catalog : Catalog) (args : List Value)
    (told : stored.Instance)
    (q : Statement) → (i : IsInstance name wanted catalog args told)
    → option_map (λ (s : StatementState). s.statement) (slice_get catalog.statements told.statement) ≡ Some q
    → i.query ≡ q
its_query name wanted catalog args told q i e = same_query i.query q (sym i.number.1 ∙ e)

pub record IsTold (catalog : Catalog) (args : List Value) (told : stored.Instance) (q : Statement) : Type 0 where
  pub stats : IsSoundStats q told.stats
  pub vector : IsSoundVector q told.stats told.at
  pub stats_are : told.stats ≡ stats_now catalog.tables catalog.weights q

pub is_told : (name : List ℕ) (wanted : Result Instance Refusal) (catalog : Catalog) (args : List Value)
    (told : stored.Instance)
    (q : Statement) → IsInstance name wanted catalog args told
    → option_map (λ (s : StatementState). s.statement) (slice_get catalog.statements told.statement) ≡ Some q
    → IsTold catalog args told q
is_told name wanted catalog args told q i e =
    subst (IsTold catalog args told) (its_query name wanted catalog args told q i e)
    (record { stats = i.sound_stats; vector = i.sound_vector; stats_are = i.stats_are })

pub rows_told : (catalog : Catalog) (told : stored.Instance) (q : Statement) (tables : List (List (List Value)))
    → told.stats ≡ stats_now catalog.tables catalog.weights q → tables ≡ tables_of catalog.tables q
    → told.stats.rows ≡ row_counts q tables
rows_told catalog told q tables e t =
    ap (λ (s : Statistics). s.rows) e ∙ ap (row_counts q) (sym t)

pub masks_told : (catalog : Catalog) (told : stored.Instance) (q : Statement) (masks : List ℕ)
    → told.stats ≡ stats_now catalog.tables catalog.weights q → masks ≡ masks_now catalog.tables q
    → told.stats.indexed ≡ masks
masks_told catalog told q masks e m = ap (λ (s : Statistics). s.indexed) e ∙ sym m
