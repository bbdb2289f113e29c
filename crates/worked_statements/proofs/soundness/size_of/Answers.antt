use Rattle.std.proofs.Common.{◌∙◌, refl}
use Rattle.worked_statements.proofs.Fits.{size_next}
use Rattle.worked_statements.proofs.soundness.size_of.Goals as goal

pub loop-place-preserved : goal.loop-place-preserved
loop-place-preserved c =
    rw (c.in_ok-size.ensures, c.max-count.ensures, c.selectivities_on.ensures)
    (size_next c.args.preds.now c.args.rows.now c.loop-place.place c.loop-place.size _ c.loop-place-test.true refl
    ∙ c.loop-place.invariant)
