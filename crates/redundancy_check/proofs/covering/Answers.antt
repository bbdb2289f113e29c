use Rattle.std.proofs.Common.{◌≡◌, Option, Some, None, ap, ◌∙◌, refl, arith}
use Rattle.std.proofs.lemmas.Grind.{common_steps}
use Rattle.std.specs.Option.{option_map}
use Rattle.anchor_cache.specs.declared.kept_plans.Kept.{Kept}
use Rattle.anchor_cache.specs.Contents.{cached}
use Rattle.redundancy_check.proofs.Agreeing.{covering_agrees}
use Rattle.redundancy_check.proofs.covering.Goals as goal

same_number : (found : Option Kept) → option_map (λ (kept : Kept). kept.number) found
    ≡ option_map (λ plan. plan.number) (option_map cached found)
same_number None = refl
same_number (Some kept) = refl

pub returns-clause-value : goal.returns-clause-value
returns-clause-value c = grind (arith, common_steps)

pub returns-clause-kept : goal.returns-clause-kept
returns-clause-kept c = λ cost h.
    returns-clause-value c ∙ same_number _
    ∙ ap (option_map (λ plan. plan.number))
    (covering_agrees c.args.keep c.args.least c.args.q.now c.args.cache.now.plans cost h)
