-- The line that is written of a report.
use Rattle.std.specs.Prelude.{ℕ, List, ◌++◌, codes}
use Rattle.std.specs.Fmt.{decimal}
use Rattle.report_verifier.specs.declared.rejections.Rejection.{Rejection}
use Rattle.report_verifier.specs.declared.rejections.Verification.{Verification}
use Rattle.report_verifier.specs.declared.rejections.Verification.TheVariants.{Verified, Rejected}
use Rattle.report_verifier.specs.declared.rejections.Why.{Why}
use Rattle.report_verifier.specs.declared.rejections.Why.TheVariants.{Block, BadPlan, BadCost, BadTable, NotLeast}
use Rattle.report_verifier.specs.declared.rejections.Why.TheVariants.{UnknownAnchor, OverBound}

abbrev pub why_text : Why → List ℕ
why_text Block = codes "block"
why_text BadPlan = codes "bad plan"
why_text BadCost = codes "bad cost"
why_text (BadTable set) = codes "bad table " ++ decimal set
why_text NotLeast = codes "not least"
why_text (UnknownAnchor execution) = codes "unknown anchor " ++ decimal execution
why_text OverBound = codes "over bound"

-- `verified E executions T too large`
abbrev pub verified_text : ℕ → ℕ → List ℕ
verified_text executions too_large =
    codes "verified " ++ (decimal executions ++ (codes " executions " ++ (decimal too_large ++ codes " too large\n")))

-- `rejected L WHY`
abbrev pub rejected_text : Rejection → List ℕ
rejected_text rejection =
    codes "rejected " ++ (decimal rejection.line ++ (codes " " ++ (why_text rejection.why ++ codes "\n")))

abbrev pub verification_text : Verification → List ℕ
verification_text (Verified executions too_large) = verified_text executions too_large
verification_text (Rejected rejection) = rejected_text rejection
