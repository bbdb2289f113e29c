use Rattle.std.proofs.Common.{◌<◌, length, get_or, refl, subst, arith, below_more}
use Rattle.std.proofs.lemmas.Grind.{common_steps}
use Rattle.std.proofs.lemmas.List.{get_or_read_under}
use Rattle.row_values.specs.Columns.{IsSchema}
use Rattle.row_values.specs.declared.statement.Place.{Place}
use Rattle.row_values.proofs.statement.aliases_differ.Goals as goal

pub loop-i-preserved : goal.loop-i-preserved
loop-i-preserved c =
    let within : c.loop-i.i < length c.args.places.now = omega arith in (
      grind (arith, common_steps),
      λ k d. below_more (λ k. IsSchema (get_or c.args.places.now k d).schema) c.loop-i.i
          (λ k. c.loop-i.invariant.1 k d)
          (subst (λ (place : Place). IsSchema place.schema)
          (get_or_read_under c.args.places.now c.loop-i.i _ c.index-places-i.result d c.index-places-i.is within
          refl) c.columns.ensures.sound) k,
    )

pub returns-clause-schemas : goal.returns-clause-schemas
returns-clause-schemas c t k d within = c.loop-i.invariant.1 k d (omega arith)
