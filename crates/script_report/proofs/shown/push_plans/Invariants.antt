use Rattle.std.proofs.Common.{◌≡◌, ◌++◌, drop, string_bytes}
use Rattle.script_report.specs.Shown.{plans_text}
use Rattle.script_report.proofs.shown.push_plans.Given as goal

-- what is written, and the plans that are left
abbrev pub invariant-loop-plan : goal.invariant-loop-plan
invariant-loop-plan l =
    string_bytes l.text ++ plans_text (drop l.plan-index l.plans)
    ≡ string_bytes l.fn.text ++ plans_text l.plans
