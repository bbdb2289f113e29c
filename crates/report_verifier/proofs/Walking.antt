-- A walk, line by line, as a program makes it.
use Rattle.std.proofs.Common.{◌≡◌, List, [], ◌∷◌, ◌++◌, Ok, Err, refl, subst}
use Rattle.session_model.specs.Run.{Line}
use Rattle.report_verifier.specs.Verification.{Taking, Verifies, Walks, at_end}
use Rattle.report_verifier.specs.Walk.{Walk}
use Rattle.report_verifier.specs.declared.rejections.Verification.TheVariants.{Rejected}
use Rattle.report_verifier.specs.declared.rejections.Why.{Why}

-- one line more
pub one_more : (Takes : Taking) (old middle new : Walk) (lines : List Line) (line : Line) → Walks Takes old lines middle
    → Takes middle line (Ok new) → Walks Takes old (lines ++ line ∷ []) new
one_more Takes old middle new [] line h step =
    (new, subst (λ (w : Walk). Takes w line (Ok new)) h step, refl)
one_more Takes old middle new (first ∷ lines) line (next, taken, later) step =
    (next, taken, one_more Takes next middle new lines line later step)

-- the line at which the report is turned down
pub rejected : (Takes : Taking) (old middle : Walk) (lines : List Line) (line : Line) (rest : List Line) (why : Why)
    → Walks Takes old lines middle → Takes middle line (Err why)
    → Verifies Takes old (lines ++ line ∷ rest) (Rejected (record { line = line.number; why = why }))
rejected Takes old middle [] line rest why h step =
    (Err why, subst (λ (w : Walk). Takes w line (Err why)) h step, refl)
rejected Takes old middle (first ∷ lines) line rest why (next, taken, later) step =
    (Ok next, taken, rejected Takes next middle lines line rest why later step)

-- all lines
pub finished : (Takes : Taking) (old new : Walk) (lines : List Line) → Walks Takes old lines new
    → Verifies Takes old lines (at_end new)
finished Takes old new [] h = subst (λ (w : Walk). at_end new ≡ at_end w) h refl
finished Takes old new (line ∷ lines) (next, taken, later) = (Ok next, taken, finished Takes next new lines later)
