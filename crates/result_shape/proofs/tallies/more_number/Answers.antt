use Rattle.std.proofs.Common.{◌∙◌, ap, w64}
use Rattle.std.specs.Int.{w128}
use Rattle.std.proofs.lemmas.Int.{to_z-of_z}
use Rattle.statement_meaning.specs.Meaning.{number_in}
use Rattle.result_shape.proofs.Tallying.{sum_taken}
use Rattle.result_shape.proofs.tallies.more_number.Goals as goal

pub returns-in-Sum : goal.returns-in-Sum
returns-in-Sum c =
    let sum = rw (
      to_z-of_z w128 c.args.number c.ranges.number,
      to_z-of_z w64 c.number_of.result record {
        sfits = c.number_of.type_inv;
      },
    ) at c.plus.ensures in
    sum_taken c.args.ready.now c.in-Sum.field-0 c.args.c.now c.args.number c.number_of.result _ c.in-Sum.is
    (c.number_of.ensures.value ∙ ap number_in c.cell.ensures) c.number_of.ensures.low c.number_of.ensures.high
    (to_z-of_z w128 c.plus.result record { sfits = c.plus.type_inv } ∙ sum)
