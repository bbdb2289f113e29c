use Rattle.certificate_check.proofs.Judging.{optimal_accepted}
use Rattle.certificate_check.proofs.laws.tight_optimum_is_accepted.Goals as goal

pub returns : goal.returns
returns c = λ ledger statement claim bounds e h. optimal_accepted ledger statement claim bounds e h
