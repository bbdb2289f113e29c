use Rattle.std.proofs.Common.{◌≡◌, ◌∙◌, ap, sym, subst, List, ℕ, map, string_bytes}
use Rattle.command_words.specs.NormalForm.{Found, IsTaken, found_by_clap, job_found, normal_form, plainly}
use Rattle.command_words.specs.Views.{found_view, plain_view}
use Rattle.command_words.proofs.Normal.{finds_what_was_given, takes_the_normal_form}
use Rattle.command_words.proofs.reading.plain_job.Goals as goal

pub parse-requires : goal.parse-requires
parse-requires c =
    let words : map string_bytes c.as_slice.result.now ≡ normal_form (plain_view c.args.plain.now) =
    rw (c.as_slice.ensures.value) c.in_ok-words.ensures in
    subst (λ (w : List (List ℕ)). IsTaken w) (sym words) (takes_the_normal_form (plain_view c.args.plain.now))

pub returns-clause-value : goal.returns-clause-value
returns-clause-value c =
    let words : map string_bytes c.as_slice.result.now ≡ normal_form (plain_view c.args.plain.now) =
    rw (c.as_slice.ensures.value) c.in_ok-words.ensures in
    let found : found_view c.found_in.result ≡ plainly (plain_view c.args.plain.now) = c.found_in.ensures
    ∙ c.in_ok-matches.ensures ∙ ap found_by_clap words ∙ finds_what_was_given (plain_view c.args.plain.now) in
    c.in_ok-job.ensures.value ∙ ap (λ (f : Found). job_found f) found
