-- A bound statement is sound.
use Rattle.std.proofs.Common.{◌≡◌, List, [], ◌∷◌, Option, None, Some, Result, Ok, refl, subst}
use Rattle.row_values.specs.Statements.{IsSoundQuery, Statement}
use Rattle.sql_parser.specs.Statement.{IsSound, Parts}
use Rattle.name_binder.specs.Binding.{binding_of, bound_statement, first_of, first_refusal, name_refusal, shape_refusal}
use Rattle.name_binder.specs.Binding.{table_refusal, unless_refused}
use Rattle.name_binder.specs.Catalog.{Known}
use Rattle.name_binder.specs.References.{places_of}
use Rattle.name_binder.specs.declared.faults.BindFault.{BindFault}
use Rattle.name_binder.proofs.Sound.{sound_unless_refused}

not_refused : (refusal : Option BindFault) (wanted q : Statement) → unless_refused refusal wanted ≡ Ok q
    → (refusal ≡ None) × (wanted ≡ q)
not_refused None wanted q h = (refl, cc)
not_refused (Some fault) wanted q h = cc

all_none : (a b d : Option BindFault) → first_of (a ∷ b ∷ d ∷ []) ≡ None → (b ≡ None) × (d ≡ None)
all_none None None None h = (refl, refl)
all_none (Some fault) b d h = cc
all_none None (Some fault) d h = cc
all_none None None (Some fault) h = cc

pub bound_is_sound : (tables : List Known) (s : Parts) (q : Statement) → IsSound s → binding_of tables s ≡ Ok q
    → IsSoundQuery q
bound_is_sound tables s q spelled h =
    let places = places_of tables s.places in
    let u = not_refused (first_refusal tables s) (bound_statement places s) q h in
    let n = all_none (table_refusal tables s.places) (name_refusal places s) (shape_refusal places s) u.0 in
    subst IsSoundQuery u.1 (sound_unless_refused tables places s spelled refl n.0 n.1)
