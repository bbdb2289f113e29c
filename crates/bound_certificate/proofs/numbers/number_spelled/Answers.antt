use Rattle.std.proofs.Common.{◌≡◌, ◌≢◌, ◌<◌, ◌^◌, ◌∙◌, ℕ, IfNone, IfSome, ap, codes, decimal, slice_get, subst, sym}
use Rattle.std.proofs.lemmas.Bool.{false≢true}
use Rattle.std.proofs.lemmas.Slice.Eq.{bytes_eq-Decides}
use Rattle.bound_certificate.proofs.Numerals.{is_read, is_written, no_sign, no_zero, not_empty, nought}
use Rattle.bound_certificate.proofs.numbers.number_spelled.Goals as goal

pub returns-in_err-first-clause-none : goal.returns-in_err-first-clause-none
returns-in_err-first-clause-none c =
    subst (λ r. IfNone r ((number : ℕ) → number < 2 ^ 64 → c.args.text.now ≢ decimal number))
    (sym c.from_residual.ensures)
    (not_empty c.args.text.now (ap (λ bytes. slice_get bytes 0) (sym c.as_bytes.ensures.value)
    ∙ sym c.in_err-first.ensures.value))

pub returns-then-first-eq43-clause-none : goal.returns-then-first-eq43-clause-none
returns-then-first-eq43-clause-none c =
    no_sign c.args.text.now c.in_ok-first.first.now
    (c.in_ok-first.ensures.value ∙ ap (λ bytes. slice_get bytes 0) c.as_bytes.ensures.value) c.if-first-eq43.true

pub returns-then-eq-clause-some : goal.returns-then-eq-clause-some
returns-then-eq-clause-some c =
    nought c.args.text.now ((bytes_eq-Decides c.args.text.now (codes "0")).0 (sym c.if-eq.ensures))

pub returns-else-eq-clause-none : goal.returns-else-eq-clause-none
returns-else-eq-clause-none c =
    no_zero c.args.text.now c.in_ok-first.first.now
    (c.in_ok-first.ensures.value ∙ ap (λ bytes. slice_get bytes 0) c.as_bytes.ensures.value) c.if-first-eq48.true
    (λ e. false≢true (c.if-eq.ensures ∙ (bytes_eq-Decides c.args.text.now (codes "0")).1 e))

pub returns-clause-some : goal.returns-clause-some
returns-clause-some c =
    subst (λ r. IfSome r (λ number. c.args.text.now ≡ decimal number)) (sym c.ok.ensures.value)
    (is_written c.args.text.now c.in_ok-first.first.now
    (c.in_ok-first.ensures.value ∙ ap (λ bytes. slice_get bytes 0) c.as_bytes.ensures.value)
    c.if-first-eq43.false c.if-first-eq48.false c.parse.result c.parse.ensures.value.0)

pub returns-clause-none : goal.returns-clause-none
returns-clause-none c =
    subst (λ r. IfNone r ((number : ℕ) → number < 2 ^ 64 → c.args.text.now ≢ decimal number))
    (sym c.ok.ensures.value) (is_read c.args.text.now c.parse.result c.parse.ensures.value.0)
