use Rattle.certificate_check.proofs.OneVerdict.{one_verdict}
use Rattle.certificate_check.proofs.laws.a_claim_has_one_verdict.Goals as goal

pub returns : goal.returns
returns c = λ ledger statement claim one other h k. one_verdict ledger statement claim one other h k
