-- The plan of the number is the old one, and it has what each plan has.
use Rattle.std.proofs.Common.{ap, sym, ◌∙◌}
use Rattle.std.specs.List.{find}
use Rattle.std.specs.Option.{option_map}
use Rattle.anchor_cache.specs.Contents.{has_number}
use Rattle.anchor_cache.specs.Instances.{cost_at}
use Rattle.session_engine.proofs.OldPlans.{none_costed, old_found, old_no_less, old_there}
use Rattle.session_engine.proofs.keeping.old_plan.Goals as goal

pub returns-in_err-cost-clause-value : goal.returns-in_err-cost-clause-value
returns-in_err-cost-clause-value c =
    c.from_residual-in_err-cost.ensures
    ∙ none_costed c.args.optimum.now c.args.keep c.args.cache.now.plans c.in_ok-number.number
    (c.plans.ensures.sound.numbers_rise) (sym c.old_number.ensures ∙ c.in_ok-number.was)
    (ap (λ at. option_map (cost_at at) (find (has_number c.in_ok-number.number) c.args.cache.now.plans))
    (sym c.as_slice.ensures)
    ∙ ap (λ plans. option_map (cost_at c.as_slice.result.now) (find (has_number c.in_ok-number.number) plans))
    (sym c.plans.ensures.value)
    ∙ sym c.cost_of.ensures ∙ c.in_err-cost.was)

pub returns-clause-value : goal.returns-clause-value
returns-clause-value c =
    old_found c.args.optimum.now c.args.keep c.args.cache.now.plans c.in_ok-number.number c.in_ok-cost.cost
    c.plans.ensures.sound.numbers_rise (sym c.old_number.ensures ∙ c.in_ok-number.was)
    (ap (λ at. option_map (cost_at at) (find (has_number c.in_ok-number.number) c.args.cache.now.plans))
    (sym c.as_slice.ensures)
    ∙ ap (λ plans. option_map (cost_at c.as_slice.result.now) (find (has_number c.in_ok-number.number) plans))
    (sym c.plans.ensures.value)
    ∙ sym c.cost_of.ensures ∙ c.in_ok-cost.was)

pub returns-clause-there : goal.returns-clause-there
returns-clause-there c =
    old_there c.args.optimum.now c.args.keep c.args.cache.now.plans _ (sym (returns-clause-value c))

pub returns-clause-no_less : goal.returns-clause-no_less
returns-clause-no_less c =
    old_no_less c.args.optimum.now c.args.keep c.args.cache.now.plans _ c.requires.no_less
    (sym (returns-clause-value c))
