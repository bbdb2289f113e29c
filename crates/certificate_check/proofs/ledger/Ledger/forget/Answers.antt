use Rattle.std.proofs.Common.{◌≡◌, not, rules, sym, subst}
use Rattle.std.proofs.lemmas.Fn.{filter_same}
use Rattle.certificate_check.specs.declared.entries.Entry.{Entry}
use Rattle.certificate_check.specs.Ledgers.{IsTrueLedger, is_of, without}
use Rattle.certificate_check.proofs.Judging.{forgotten, rest_true}
use Rattle.certificate_check.proofs.ledger.Ledger.forget.Goals as goal
use Rattle.certificate_check.proofs.ledger.Ledger.forget.Goals.{After-retain}

left : (c : After-retain) → c.retain.new.self.items ≡ without c.self.inside.entries.items c.args.statement
left c = filter_same _ (λ (entry : Entry). not (is_of c.args.statement entry)) _
    (λ x b f h. search rules) _ _ c.retain.ensures.filtered

pub returns-clause-value : goal.returns-clause-value
returns-clause-value c = rw (← c.self.view_is) (left c)

pub returns-clause-forgotten : goal.returns-clause-forgotten
returns-clause-forgotten c = λ query numbers.
    subst (IsTrueLedger query numbers c.args.statement) (sym (left c))
    (forgotten c.self.inside.entries.items c.args.statement query numbers)

pub returns-clause-others : goal.returns-clause-others
returns-clause-others c = λ query numbers other truth.
    subst (IsTrueLedger query numbers other) (sym (left c))
    (rest_true c.self.inside.entries.items c.args.statement other query numbers (rw (← c.self.view_is) at truth))
