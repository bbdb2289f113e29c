use Rattle.std.proofs.Common.{◌≡◌, refl, rules, ap, ◌∙◌}
use Rattle.std.specs.Str.{IsUtf8}
use Rattle.std.specs.Str.Lines.{lines}
use Rattle.instance_cli.specs.Texts.{unmarked}
use Rattle.instance_cli.proofs.Runs.{now_of}
use Rattle.instance_cli.proofs.Scripts.{long_bytes, bytes_run}
use Rattle.instance_cli.proofs.run.run_bytes.Goals as goal

pub returns-then-bytes-gt-SCRIPT_LIMIT : goal.returns-then-bytes-gt-SCRIPT_LIMIT
returns-then-bytes-gt-SCRIPT_LIMIT g c = long_bytes c.args.settings c.args.bytes.now _ _ c.if-bytes-gt-SCRIPT_LIMIT.true
    refl

pub returns-in-Ok-split : goal.returns-in-Ok-split
returns-in-Ok-split g c =
    let text : c.in-Ok.text.now ≡ unmarked c.args.bytes.now = search rules in
    let utf8 : IsUtf8 (unmarked c.args.bytes.now) = rw (← c.unmarked.ensures) c.in-Ok.ensures.cases.1 in
    let texts : now_of c.as_slice.result.now ≡ lines c.in-Ok.text.now = search rules in
    bytes_run c.args.settings c.requires c.args.bytes.now _ _ _ _
    (record { short = c.if-bytes-gt-SCRIPT_LIMIT.false; utf8 = utf8 })
    (texts ∙ ap lines text) c.run_lines.ensures
