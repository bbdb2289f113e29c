use Rattle.certificate_check.proofs.Judging.{accepted_bound}
use Rattle.certificate_check.proofs.laws.accepted_is_within_bound.Goals as goal

pub returns : goal.returns
returns c = λ ledger statement claim ratio sound truth h. accepted_bound ledger statement claim ratio sound truth h
