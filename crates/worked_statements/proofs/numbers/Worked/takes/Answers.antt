use Rattle.worked_statements.proofs.Fits.{vector_sound}
use Rattle.worked_statements.proofs.numbers.Worked.takes.Goals as goal

pub returns : goal.returns
returns c = λ h. vector_sound _ _ _ (c.does_vector_fit.ensures h)
