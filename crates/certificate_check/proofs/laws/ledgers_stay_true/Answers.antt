use Rattle.std.proofs.Common.{refl}
use Rattle.certificate_check.specs.Headline.{entered}
use Rattle.certificate_check.proofs.Judging.{stays_true}
use Rattle.certificate_check.proofs.laws.ledgers_stay_true.Goals as goal

pub returns : goal.returns
returns c = λ ledger statement execution claim verdict sound truth h.
    stays_true ledger statement claim verdict (entered statement execution claim) refl refl sound truth h
