use Rattle.demo_script.proofs.Counting.{counts_on, counts_stay}
use Rattle.demo_script.proofs.summary.Summary.count.Goals as goal

pub returns-in-Some-clause-value : goal.returns-in-Some-clause-value
returns-in-Some-clause-value c = λ before same.
    counts_on _ _ _ before c.args.reply.now c.in-Some.ensures c.count_execution.ensures same

pub returns-in-None-clause-value : goal.returns-in-None-clause-value
returns-in-None-clause-value c = λ before same.
    counts_stay _ before c.args.reply.now c.in-None.ensures same
