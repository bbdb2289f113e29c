-- The lines of an execution: its plan, what that costs, where, and how it was chosen, kept and certified.
use Rattle.std.specs.Prelude.{ℕ, List, [], ◌∷◌, ◌++◌, codes, Option, Some, None}
use Rattle.std.specs.Fmt.{decimal}
use Rattle.row_values.specs.Names.{canonical_name}
use Rattle.bound_certificate.specs.Certificates.{certificate_text}
use Rattle.bound_certificate.specs.declared.certificates.Cert.{Cert}
use Rattle.script_report.specs.declared.replies.By.{By}
use Rattle.script_report.specs.declared.replies.By.TheVariants as by
use Rattle.script_report.specs.declared.replies.Execution.{Execution}
use Rattle.script_report.specs.declared.replies.KeptNote.{KeptNote}
use Rattle.script_report.specs.declared.replies.KeptNote.TheVariants as kept

-- each number behind a space
abbrev pub numbers_text : List ℕ → List ℕ
numbers_text [] = []
numbers_text (number ∷ numbers) = (codes " " ++ decimal number) ++ numbers_text numbers

-- `at S1 S2 ..`
abbrev pub at_line : List ℕ → List ℕ
at_line at = codes "at" ++ (numbers_text at ++ codes "\n")

-- `plan TEXT` and `cost C`
abbrev pub plan_lines : Execution → List ℕ
plan_lines e = codes "plan " ++ (e.spelled ++ (codes "\ncost " ++ (decimal e.cost ++ codes "\n")))

-- `by selectivity E plan N`, `by cost E plan N tried T` or `by optimum tried T`
abbrev pub by_line : By → List ℕ
by_line (by.Selectivity anchor plan) =
    codes "by selectivity " ++ (decimal anchor ++ (codes " plan " ++ (decimal plan ++ codes "\n")))
by_line (by.Cost anchor plan tried) =
    codes "by cost " ++ (decimal anchor
    ++ (codes " plan " ++ (decimal plan ++ (codes " tried " ++ (decimal tried ++ codes "\n")))))
by_line (by.Optimum tried) = codes "by optimum tried " ++ (decimal tried ++ codes "\n")

-- `evicted plan N anchors A`, where a plan was evicted
abbrev pub evicted_line : Option (ℕ × ℕ) → List ℕ
evicted_line (Some (plan, anchors)) =
    codes "evicted plan " ++ (decimal plan ++ (codes " anchors " ++ (decimal anchors ++ codes "\n")))
evicted_line None = []

-- `kept plan N new`, `kept plan N` or `kept nothing`; no line where a plan was reused
abbrev pub kept_line : KeptNote → List ℕ
kept_line kept.Reused = []
kept_line (kept.New plan) = codes "kept plan " ++ (decimal plan ++ codes " new\n")
kept_line (kept.Old plan) = codes "kept plan " ++ (decimal plan ++ codes "\n")
kept_line kept.Nothing = codes "kept nothing\n"

-- `cert JSON`
abbrev pub certificate_line : Cert → List ℕ
certificate_line cert = codes "cert " ++ (certificate_text cert ++ codes "\n")

abbrev pub execution_lines : Execution → List ℕ
execution_lines e =
    plan_lines e
    ++ (at_line e.at
    ++ (by_line e.by
    ++ (evicted_line e.evicted ++ (kept_line e.kept ++ certificate_line e.cert))))

-- `NAME execution E`
abbrev pub heading : List ℕ → ℕ → List ℕ
heading name number = canonical_name name ++ (codes " execution " ++ (decimal number ++ codes "\n"))

-- the name, the number and the lines of an execution
unfoldable pub execution_text : Execution → List ℕ
execution_text e = heading e.name e.number ++ execution_lines e
