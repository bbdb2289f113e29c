-- The ends of an instance.
use Rattle.std.proofs.Common.{ℕ, ◌≡◌, ◌∙◌, List, Option, Some, None, Ok, Err, ap, sym, refl, subst}
use Rattle.row_values.specs.Names.{canonical_name}
use Rattle.row_values.specs.Statements.{Statement, kinds_of}
use Rattle.row_values.specs.declared.refusals.Refusal.{Refusal}
use Rattle.row_values.specs.declared.values.Value.{Value}
use Rattle.row_values.specs.Refusals.{unknown_statement, wide}
use Rattle.plan_trees.specs.Statistics.{IsSoundStats, IsSoundVector, Statistics}
use Rattle.statement_meaning.specs.Vectors.{vector_of}
use Rattle.statement_statistics.specs.Statistics.{first_wide}
use Rattle.catalog_model.specs.Catalogs.{Catalog, Version, find_statement, number_of, stats_now, tables_of}
use Rattle.catalog_model.specs.Instances.{Instance, alias_at, args_refusal, instance_in, instance_of, refused_or}
use Rattle.catalog_model.specs.Instances.{width_refusal}
use Rattle.catalog_model.specs.Sound.{IsCatalog}
use Rattle.catalog_model.proofs.Measures.{measured}
use Rattle.session_store.specs.Measures.{measure_by}
use Rattle.session_store.specs.Outcomes.{IsInstance, IsNumber}
use Rattle.session_store.specs.declared.instances.Instance as stored
use Rattle.session_store.specs.declared.measures.Measure.TheVariants.{Narrow, Wide}

abbrev instance : Statement → List Value → Instance
instance q args = record { statement = q; args = args }

pub unknown : (catalog : Catalog) (name : List ℕ) (args : List Value) (shown : List ℕ)
    → find_statement catalog.statements name ≡ None → shown ≡ canonical_name name
    → instance_of catalog name args ≡ Err (unknown_statement shown)
unfolding instance_of
unknown catalog name args shown n e = rw (n, e) refl

found : (catalog : Catalog) (name : List ℕ) (args : List Value) (q : Statement) (why : Option Refusal)
    (place : Option ℕ) → find_statement catalog.statements name ≡ Some q
    → why ≡ args_refusal (kinds_of q.places q.preds) args → first_wide q (tables_of catalog.tables q) ≡ place
    → instance_of catalog name args ≡ refused_or why (refused_or (width_refusal q place) (Ok (instance q args)))
unfolding instance_of
found catalog name args q why place f a w = ap (λ (o : Option Statement). instance_in catalog.tables o name args) f
    ∙ (ap (λ (r : Option Refusal). refused_or r (refused_or
    (width_refusal q (first_wide q (tables_of catalog.tables q))) (Ok (instance q args)))) (sym a)
    ∙ ap (λ (p : Option ℕ). refused_or why (refused_or (width_refusal q p) (Ok (instance q args)))) w)

pub misfit : (catalog : Catalog) (name : List ℕ) (args : List Value) (q : Statement) (why : Refusal)
    → find_statement catalog.statements name ≡ Some q → Some why ≡ args_refusal (kinds_of q.places q.preds) args
    → instance_of catalog name args ≡ Err why
misfit catalog name args q why f a = found catalog name args q (Some why) _ f a refl

pub too_wide : (catalog : Catalog) (name : List ℕ) (args : List Value) (q : Statement) (place : ℕ)
    → find_statement catalog.statements name ≡ Some q → None ≡ args_refusal (kinds_of q.places q.preds) args
    → first_wide q (tables_of catalog.tables q) ≡ Some place
    → instance_of catalog name args ≡ Err (wide (canonical_name (alias_at q place)))
too_wide catalog name args q place f a w = found catalog name args q None (Some place) f a w

pub fitting : (catalog : Catalog) (name : List ℕ) (args : List Value) (q : Statement)
    → find_statement catalog.statements name ≡ Some q → None ≡ args_refusal (kinds_of q.places q.preds) args
    → first_wide q (tables_of catalog.tables q) ≡ None
    → instance_of catalog name args ≡ Ok (record { statement = q; args = args })
fitting catalog name args q f a w = found catalog name args q None None f a w

-- What a measure says.

pub wide_is : (place : Option ℕ) (stats : Statistics) (found : ℕ) → Wide found ≡ measure_by place stats
    → place ≡ Some found
wide_is None stats found e = absurd cc
wide_is (Some place) stats found e = cc

pub narrow_is : (place : Option ℕ) (stats found : Statistics) → Narrow found ≡ measure_by place stats
    → (place ≡ None) × (found ≡ stats)
narrow_is None stats found e = (refl, cc)
narrow_is (Some place) stats found e = absurd cc

-- an instance that is told of a sound catalog
pub told : (catalog : Catalog) (name : List ℕ) (args : List Value) (q : Statement) (made : stored.Instance)
    (held : List Version) → IsCatalog held catalog
    → instance_of catalog name args ≡ Ok (record { statement = q; args = args })
    → number_of catalog.statements name ≡ Some made.statement → IsNumber catalog q made.statement
    → made.stats ≡ stats_now catalog.tables catalog.weights q
    → made.at ≡ vector_of q (tables_of catalog.tables q) args
    → IsInstance name (instance_of catalog name args) catalog args made
told catalog name args q made held sound is named number stats vector =
    let known = measured held catalog name args (record { statement = q; args = args }) sound is in
    let good_vector : IsSoundVector q made.stats (vector_of q (tables_of catalog.tables q) args) =
    subst (λ (s : Statistics). IsSoundVector q s (vector_of q (tables_of catalog.tables q) args)) (sym stats)
    known.vector in
    record {
      query = q;
      instance_is = is;
      named = named;
      number = number;
      stats_are = stats;
      vector_is = vector;
      sound_stats = subst (IsSoundStats q) (sym stats) known.stats;
      sound_vector = subst (IsSoundVector q made.stats) (sym vector) good_vector;
    }
