-- A sound statement has what reading needs: names that differ, and few predicates and edges.
use Rattle.std.proofs.Common.{ℕ, ◌≡◌, ◌==◌, ◌&&◌, ◌||◌, not, List, [], ◌∷◌, length, All, Bool, true, false, Option}
use Rattle.std.proofs.Common.{Some, slice_get, refl, sym, ap, subst, arith, true≢false}
use Rattle.std.specs.Str.{bytes_eq}
use Rattle.std.proofs.lemmas.Option.{slice_get_within, get_or_from_slice_get}
use Rattle.row_values.specs.Columns.{IsSchema, is_name_in, are_names}
use Rattle.row_values.specs.Statements.{Statement, IsSoundQuery, is_alias_in, are_aliases}
use Rattle.row_values.specs.declared.columns.Column.{Column}
use Rattle.row_values.specs.declared.statement.Place.{Place}
use Rattle.plan_trees.specs.Reading.{top_at}
use Rattle.plan_trees.specs.Spelling.{IsPlanText}
use Rattle.plan_trees.specs.Trees.{TopTree}
use Rattle.plan_trees.proofs.ReadLaws.{is_in, differ}
use Rattle.plan_trees.proofs.PieceLaws.{IsReadable}
use Rattle.plan_trees.proofs.PlanLaws.{top_front}

two_parts : (named here there rest later : Bool) → there ≡ here → (rest ≡ true → later ≡ true)
    → ((named && not here) && rest) ≡ true → (not there && later) ≡ true
two_parts true true there rest later same each e = absurd (true≢false (sym e))
two_parts false here there rest later same each e = absurd (true≢false (sym e))
two_parts true false there rest later same each e = rw same (each e)

same_alias : (alias : List ℕ) (places : List Place) → is_in (λ place. place.alias) alias places
    ≡ is_alias_in alias places
same_alias alias [] = refl
same_alias alias (place ∷ places) = ap (λ (b : Bool). bytes_eq place.alias alias || b) (same_alias alias places)

aliases_differ : (places : List Place) → are_aliases places ≡ true → differ (λ place. place.alias) places ≡ true
aliases_differ [] e = refl
aliases_differ (place ∷ places) e =
    two_parts (not (length place.alias == 0)) (is_alias_in place.alias places)
    (is_in (λ (p : Place). p.alias) place.alias places) (are_aliases places)
    (differ (λ (p : Place). p.alias) places)
    (same_alias place.alias places) (λ rest. aliases_differ places rest) e

same_name_in : (name : List ℕ) (columns : List Column) → is_in (λ column. column.name) name columns
    ≡ is_name_in name columns
same_name_in name [] = refl
same_name_in name (column ∷ columns) = ap (λ (b : Bool). bytes_eq column.name name || b) (same_name_in name columns)

names_differ : (columns : List Column) → are_names columns ≡ true → differ (λ column. column.name) columns ≡ true
names_differ [] e = refl
names_differ (column ∷ columns) e =
    two_parts (not (length column.name == 0)) (is_name_in column.name columns)
    (is_in (λ (c : Column). c.name) column.name columns) (are_names columns)
    (differ (λ (c : Column). c.name) columns)
    (same_name_in column.name columns) (λ rest. names_differ columns rest) e

schema_at : (places : List Place) (t : ℕ) (place : Place) → All (λ p. IsSchema p.schema) places → slice_get places t
    ≡ Some place → IsSchema place.schema
schema_at places t place all there =
    subst (λ (p : Place). IsSchema p.schema) (get_or_from_slice_get places t place place there)
    (all t place (slice_get_within places t place there))

pub readable : (q : Statement) → IsSoundQuery q → All (λ place. IsSchema place.schema) q.places → IsReadable q
readable q sound schemas =
    let few = sound.few_conditions in
    record {
      aliases = aliases_differ q.places sound.aliases;
      columns = λ t place there. names_differ place.schema (schema_at q.places t place schemas there).named;
      preds = omega arith;
      edges = omega arith;
    }

-- what a sound statement's plan is spelled as is read as that plan
pub is_read : (q : Statement) (text : List ℕ) (top : TopTree) → IsSoundQuery q
    → All (λ place. IsSchema place.schema) q.places → IsPlanText q text top → top_at q text ≡ Some top
is_read q text top sound schemas spelled = top_front q text top (readable q sound schemas) spelled

some_same : {A : Type 0} (o : Option A) (x y : A) → o ≡ Some x → o ≡ Some y → x ≡ y
some_same o x y a b = cc

pub one_plan : (q : Statement) (text : List ℕ) (a b : TopTree) → IsSoundQuery q
    → All (λ place. IsSchema place.schema) q.places → IsPlanText q text a → IsPlanText q text b → a ≡ b
one_plan q text a b sound schemas first second =
    some_same (top_at q text) a b (is_read q text a sound schemas first) (is_read q text b sound schemas second)
