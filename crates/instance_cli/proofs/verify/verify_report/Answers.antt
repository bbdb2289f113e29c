use Rattle.std.proofs.Common.{ℕ, ◌≤◌, ◌∙◌, List, ap, inl, length, refl, subst}
use Rattle.std.specs.Str.{IsUtf8}
use Rattle.outside_model.specs.declared.TheConstants.{SCRIPT_LIMIT}
use Rattle.instance_cli.specs.Texts.{unmarked}
use Rattle.instance_cli.proofs.Headlines.{fetched_bytes}
use Rattle.instance_cli.proofs.Jobs.{same_count}
use Rattle.instance_cli.proofs.Promises.{lacks_text, of_script}
use Rattle.instance_cli.proofs.verify.verify_report.Goals as goal

pub returns-in_default : goal.returns-in_default
returns-in_default g c =
    inl (
      lacks_text SCRIPT_LIMIT c.args.script.now _ _ _ _ _
          (fetched_bytes _ c.args.script.now c.in-Ok.bytes.items
          (λ (b : List ℕ). (length b ≤ SCRIPT_LIMIT) × ¬ IsUtf8 (unmarked b)) c.in-Ok.ensures.ok (
            c.in-Ok.ensures.short,
            subst (λ (b : List ℕ). ¬ IsUtf8 (unmarked b)) c.as_slice.ensures.value c.in_default.ensures.none,
          )),
      refl,
    )

pub returns : goal.returns
returns g c =
    of_script c.args.settings c.args.script.now c.args.report.now c.in-Ok.bytes.items c.in-Some.text.now _ _ _ _
    (record {
      files = c.fetch_within.ensures.files;
      taken = refl;
      misses = c.fetch_within.ensures.misses;
      faults = c.fetch_within.ensures.faults;
      sink_faults = same_count _;
    }) c.in-Ok.ensures.ok
    (record {
      short = c.in-Ok.ensures.short;
      utf8 = subst (λ (b : List ℕ). IsUtf8 (unmarked b)) c.as_slice.ensures.value c.in-Some.ensures.utf8;
    })
    (c.in-Some.ensures.some ∙ ap unmarked c.as_slice.ensures.value) c.verify_text.ensures
