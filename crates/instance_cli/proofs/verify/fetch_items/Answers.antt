use Rattle.std.proofs.Common.{ℕ, ◌≤◌, List, length, subst}
use Rattle.std.specs.Str.{IsUtf8}
use Rattle.report_items.specs.declared.TheConstants.{REPORT_LIMIT}
use Rattle.instance_cli.specs.Texts.{unmarked}
use Rattle.instance_cli.proofs.Headlines.{fetched_bytes}
use Rattle.instance_cli.proofs.Promises.{lacks_text}
use Rattle.instance_cli.proofs.verify.fetch_items.Goals as goal

pub returns-in_default-clause-err : goal.returns-in_default-clause-err
returns-in_default-clause-err g c =
    lacks_text REPORT_LIMIT c.args.name.now _ _ _ _ _
    (fetched_bytes _ c.args.name.now c.in-Ok.bytes.items
    (λ (b : List ℕ). (length b ≤ REPORT_LIMIT) × ¬ IsUtf8 (unmarked b)) c.in-Ok.ensures.ok (
      c.in-Ok.ensures.short,
      subst (λ (b : List ℕ). ¬ IsUtf8 (unmarked b)) c.as_slice.ensures.value c.in_default.ensures.none,
    ))
