use Rattle.std.proofs.Common.{◌≡◌, ◌++◌, ◌∷◌, [], sym, ◌∙◌, refl, subst, arith}
use Rattle.plan_trees.specs.Trees.{top_tree}
use Rattle.certificate_check.specs.declared.entries.Entry.{Entry}
use Rattle.certificate_check.specs.Ledgers.{IsTrueLedger}
use Rattle.certificate_check.specs.Verdicts.{claim_of}
use Rattle.certificate_check.proofs.Answering.{refused, told}
use Rattle.certificate_check.proofs.Judging.{entered_is, not_entered, others_stay, stays_true, verdict_there}
use Rattle.certificate_check.proofs.Judging.{within_bound}
use Rattle.certificate_check.proofs.ledger.Ledger.accept.Goals as goal

pub enter-requires : goal.enter-requires
enter-requires c =
    let each = c.requires.vector.one_each in
    let few = c.sound.ensures.value.few_selectivities in
    record { few = omega arith }

pub returns-then-not-is_accepted-clause-bound : goal.returns-then-not-is_accepted-clause-bound
returns-then-not-is_accepted-clause-bound c = λ accepted.
    absurd (refused c.is_accepted.result c.is_accepted.ensures (cc) accepted)

pub returns-then-not-is_accepted-clause-ledger : goal.returns-then-not-is_accepted-clause-ledger
returns-then-not-is_accepted-clause-ledger c =
    let entry : Entry = record {
      statement = c.args.statement;
      execution = c.args.execution;
      at = c.args.s.now;
      least = c.args.cost;
    } in
    sym (not_entered c.args.self.now entry c.args.cert.now c.verdict_on-verdict.result
    (refused c.is_accepted.result c.is_accepted.ensures (cc)))

pub returns-in-Ok-clause-bound : goal.returns-in-Ok-clause-bound
returns-in-Ok-clause-bound c = λ accepted.
    within_bound c.args.self.now c.as_slice.result.now c.args.statement (claim_of c.args.q.now c.args.stats.now c.args.s.now c.args.lambda
    (top_tree c.args.plan.now) c.args.cost c.args.cert.now) c.verdict_on-verdict.result
    c.requires.lambda c.requires.vector c.requires.entries (c.as_slice.ensures.value ∙ c.self.view_is)
    c.verdict_on-verdict.ensures accepted

pub returns-in-Ok-clause-ledger : goal.returns-in-Ok-clause-ledger
returns-in-Ok-clause-ledger c =
    let entry : Entry = record {
      statement = c.args.statement;
      execution = c.args.execution;
      at = c.args.s.now;
      least = c.args.cost;
    } in
    let more : c.enter.new.self ≡ c.args.self.now ++ entry ∷ [] = cc (c.in-Ok.ensures.entered) in
    let after = entered_is c.args.self.now c.enter.new.self entry c.args.cert.now _ c.verdict_on-verdict.result
    c.in-Optimum.is (told c.is_accepted.result c.is_accepted.ensures (cc)) more in
    after

pub returns-in-Ok-clause-entries : goal.returns-in-Ok-clause-entries
returns-in-Ok-clause-entries c =
    let entry : Entry = record {
      statement = c.args.statement;
      execution = c.args.execution;
      at = c.args.s.now;
      least = c.args.cost;
    } in
    let more : c.enter.new.self ≡ c.args.self.now ++ entry ∷ [] = cc (c.in-Ok.ensures.entered) in
    let after = entered_is c.args.self.now c.enter.new.self entry c.args.cert.now _ c.verdict_on-verdict.result
    c.in-Optimum.is (told c.is_accepted.result c.is_accepted.ensures (cc)) more in
    subst (IsTrueLedger c.args.q.now c.args.stats.now c.args.statement) (sym after)
    (stays_true c.args.self.now c.args.statement (claim_of c.args.q.now c.args.stats.now c.args.s.now c.args.lambda
    (top_tree c.args.plan.now) c.args.cost c.args.cert.now) c.verdict_on-verdict.result entry refl refl
    c.requires.vector c.requires.entries
    (verdict_there c.args.self.now c.as_slice.result.now c.args.statement (claim_of c.args.q.now c.args.stats.now c.args.s.now c.args.lambda
    (top_tree c.args.plan.now) c.args.cost c.args.cert.now) c.verdict_on-verdict.result
    (c.as_slice.ensures.value ∙ c.self.view_is) c.verdict_on-verdict.ensures (told c.is_accepted.result c.is_accepted.ensures (cc))))

pub returns-in-Ok-clause-others : goal.returns-in-Ok-clause-others
returns-in-Ok-clause-others c = λ query numbers other differ truth.
    let entry : Entry = record {
      statement = c.args.statement;
      execution = c.args.execution;
      at = c.args.s.now;
      least = c.args.cost;
    } in
    let more : c.enter.new.self ≡ c.args.self.now ++ entry ∷ [] = cc (c.in-Ok.ensures.entered) in
    let after = entered_is c.args.self.now c.enter.new.self entry c.args.cert.now _ c.verdict_on-verdict.result
    c.in-Optimum.is (told c.is_accepted.result c.is_accepted.ensures (cc)) more in
    subst (IsTrueLedger query numbers other) (sym after)
    (others_stay c.args.self.now c.args.statement other query numbers entry c.args.cert.now
    c.verdict_on-verdict.result refl differ truth)

pub returns-in-Selectivity-clause-bound : goal.returns-in-Selectivity-clause-bound
returns-in-Selectivity-clause-bound c = λ accepted.
    within_bound c.args.self.now c.as_slice.result.now c.args.statement (claim_of c.args.q.now c.args.stats.now c.args.s.now c.args.lambda
    (top_tree c.args.plan.now) c.args.cost c.args.cert.now) c.verdict_on-verdict.result
    c.requires.lambda c.requires.vector c.requires.entries (c.as_slice.ensures.value ∙ c.self.view_is)
    c.verdict_on-verdict.ensures accepted

pub returns-in-Cost-clause-bound : goal.returns-in-Cost-clause-bound
returns-in-Cost-clause-bound c = λ accepted.
    within_bound c.args.self.now c.as_slice.result.now c.args.statement (claim_of c.args.q.now c.args.stats.now c.args.s.now c.args.lambda
    (top_tree c.args.plan.now) c.args.cost c.args.cert.now) c.verdict_on-verdict.result
    c.requires.lambda c.requires.vector c.requires.entries (c.as_slice.ensures.value ∙ c.self.view_is)
    c.verdict_on-verdict.ensures accepted
