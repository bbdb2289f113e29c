-- Walks that go on, and the same walks where lines are taken by another relation.
use Rattle.std.proofs.Common.{ℕ, List, [], ◌∷◌, ◌++◌, Result, Ok, Err, subst}
use Rattle.session_model.specs.Run.{Line}
use Rattle.report_verifier.specs.Soundness.{AreMatched}
use Rattle.report_verifier.specs.Verification.{GoesOn, Taking, Verifies, Walks}
use Rattle.report_verifier.specs.Walk.{Walk}
use Rattle.report_verifier.specs.declared.rejections.Verification.{Verification}
use Rattle.report_verifier.specs.declared.rejections.Why.{Why}

pub walks_on : (Takes : Taking) (old middle new : Walk) (xs ys : List Line) → Walks Takes old xs middle
    → Walks Takes middle ys new → Walks Takes old (xs ++ ys) new
walks_on Takes old middle new [] ys h k = subst (λ (w : Walk). Walks Takes w ys new) h k
walks_on Takes old middle new (x ∷ xs) ys (next, taken, later) k =
    (next, taken, walks_on Takes next middle new xs ys later k)

pub verifies_on : (Takes : Taking) (old middle : Walk) (xs ys : List Line) (v : Verification)
    → Walks Takes old xs middle → Verifies Takes middle ys v → Verifies Takes old (xs ++ ys) v
verifies_on Takes old middle [] ys v h k = subst (λ (w : Walk). Verifies Takes w ys v) h k
verifies_on Takes old middle (x ∷ xs) ys v (next, taken, later) k =
    (Ok next, taken, verifies_on Takes next middle xs ys v later k)

-- what the one relation takes the other one takes too
abbrev pub IsWithin : Taking → Taking → Type 0
IsWithin Takes Takes' =
    (old : Walk) (line : Line) (outcome : Result Walk Why) → Takes old line outcome → Takes' old line outcome

module _ (Takes Takes' : Taking) (within : IsWithin Takes Takes') where
  pub walks_by : (old new : Walk) (lines : List Line) → Walks Takes old lines new → Walks Takes' old lines new
  walks_by old new [] h = h
  walks_by old new (line ∷ lines) (next, taken, later) =
      (next, within old line (Ok next) taken, walks_by next new lines later)

  goes_by : (line : ℕ) (lines : List Line) (v : Verification) (outcome : Result Walk Why)
      → GoesOn line outcome (λ next. Verifies Takes next lines v) v
      → ((next : Walk) → Verifies Takes next lines v → Verifies Takes' next lines v)
      → GoesOn line outcome (λ next. Verifies Takes' next lines v) v
  goes_by line lines v (Ok next) later on = on next later
  goes_by line lines v (Err why) later on = later

  pub verifies_by : (old : Walk) (lines : List Line) (v : Verification) → Verifies Takes old lines v
      → Verifies Takes' old lines v
  verifies_by old [] v h = h
  verifies_by old (line ∷ lines) v (outcome, taken, later) = (
    outcome,
    within old line outcome taken,
    goes_by line.number lines v outcome later (λ next. verifies_by next lines v),
  )

  pub matched_by : (old : Walk) (lines : List Line) → AreMatched Takes old lines → AreMatched Takes' old lines
  matched_by old [] h = h
  matched_by old (line ∷ lines) (is, (next, taken, later)) =
      (is, (next, within old line (Ok next) taken, matched_by next lines later))
