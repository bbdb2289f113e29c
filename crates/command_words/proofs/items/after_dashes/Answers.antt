use Rattle.std.proofs.Common.{None, Some, ◌≡◌, lit<, rules}
use Rattle.std.proofs.lemmas.Str.Pattern.{strip_prefix_char}
use Rattle.command_words.specs.Items.{after_dashes}
use Rattle.command_words.proofs.Dashes.{no_dash, behind_one}
use Rattle.command_words.proofs.items.after_dashes.Goals as goal

pub returns-in_err-strip_prefix : goal.returns-in_err-strip_prefix
returns-in_err-strip_prefix c =
    let missing : after_dashes c.args.word.now ≡ None = no_dash c.args.word.now
    (strip_prefix_char 45 c.args.word.now None c.in_err-strip_prefix.ensures.cases (lit< tt)) in
    rw missing (search rules)

pub returns : goal.returns
returns c =
    let rest = c.in_ok-strip_prefix.field-0 in
    behind_one c.args.word.now rest.now c.strip_prefix-2.result
    (strip_prefix_char 45 c.args.word.now (Some rest) c.in_ok-strip_prefix.ensures.cases (lit< tt))
    (strip_prefix_char 45 rest.now c.strip_prefix-2.result c.strip_prefix-2.ensures.cases (lit< tt))
