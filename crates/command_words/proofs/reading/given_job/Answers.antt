use Rattle.std.proofs.Common.{ap, sym}
use Rattle.command_words.specs.Views.{given_view}
use Rattle.command_words.proofs.Positionals.{few_positionals, many_positionals, texts, three_positionals}
use Rattle.command_words.proofs.Positionals.{two_positionals}
use Rattle.command_words.proofs.reading.given_job.Goals as goal

pub returns-in_default-clause-value : goal.returns-in_default-clause-value
returns-in_default-clause-value c = few_positionals (given_view c.args.given.now) c.as_slice.result.now
    (ap texts (sym c.as_slice.ensures.value)) c.in_default.len_below

pub returns-in_default-others-clause-value : goal.returns-in_default-others-clause-value
returns-in_default-others-clause-value c = many_positionals (given_view c.args.given.now) c.as_slice.result.now
    (ap texts (sym c.as_slice.ensures.value)) c.in-len2-up.len_at_least c.in_default-others.len_at_least

pub returns-in_ok-job-in-empty-clause-value : goal.returns-in_ok-job-in-empty-clause-value
returns-in_ok-job-in-empty-clause-value c = two_positionals (given_view c.args.given.now) c.as_slice.result.now _ _ _
    (ap texts (sym c.as_slice.ensures.value)) c.in-len2-up.len_at_least c.in-empty.len_below c.filled.ensures
    c.in_ok-job-in-empty.ensures.value

pub returns-in_ok-job-in-len1-clause-value : goal.returns-in_ok-job-in-len1-clause-value
returns-in_ok-job-in-len1-clause-value c = three_positionals (given_view c.args.given.now) c.as_slice.result.now _ _ _
    (ap texts (sym c.as_slice.ensures.value)) c.in-len2-up.len_at_least c.in-len1.len_at_least c.in-len1.len_below
    c.filled-in-len1.ensures c.in_ok-job-in-len1.ensures.value
