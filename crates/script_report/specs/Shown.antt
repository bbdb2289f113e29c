-- The lines that show a statement's plan cache.
use Rattle.std.specs.Prelude.{ℕ, List, [], ◌∷◌, ◌++◌, codes}
use Rattle.std.specs.Fmt.{decimal}
use Rattle.script_report.specs.Executions.{at_line}
use Rattle.script_report.specs.declared.shown.ShownAnchor.{ShownAnchor}
use Rattle.script_report.specs.declared.shown.ShownPlan.{ShownPlan}

-- `plan N uses V TEXT`
abbrev pub shown_plan_line : ShownPlan → List ℕ
shown_plan_line p =
    codes "plan " ++ (decimal p.number
    ++ (codes " uses " ++ (decimal p.uses ++ (codes " " ++ (p.text ++ codes "\n")))))

-- `anchor E plan N uses V cost C least B at S1 S2 ..`
abbrev pub shown_anchor_line : ShownAnchor → List ℕ
shown_anchor_line a =
    codes "anchor " ++ (decimal a.execution
    ++ (codes " plan " ++ (decimal a.plan
    ++ (codes " uses " ++ (decimal a.uses
    ++ (codes " cost " ++ (decimal a.cost
    ++ (codes " least " ++ (decimal a.least ++ (codes " " ++ at_line a.at))))))))))

-- a line for each plan
abbrev pub plans_text : List ShownPlan → List ℕ
plans_text [] = []
plans_text (plan ∷ plans) = shown_plan_line plan ++ plans_text plans

-- a line for each anchor
abbrev pub anchors_text : List ShownAnchor → List ℕ
anchors_text [] = []
anchors_text (anchor ∷ anchors) = shown_anchor_line anchor ++ anchors_text anchors
