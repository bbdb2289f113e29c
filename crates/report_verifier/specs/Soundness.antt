-- What a verified report is worth, for a reader who trusts nobody.
use Rattle.std.specs.Prelude.{ℕ, ◌≡◌, ◌⊎◌, ◌+◌, List, [], ◌∷◌, Some, Ok, MatchOption, MatchResult}
use Rattle.row_values.specs.Statements.{Statement}
use Rattle.row_values.specs.declared.values.Value.{Value}
use Rattle.plan_trees.specs.Spelling.{IsPlanText}
use Rattle.plan_trees.specs.Trees.{TopTree}
use Rattle.bound_certificate.specs.declared.certificates.Cert.{Cert}
use Rattle.certificate_check.specs.Headline.{IsWithinBound}
use Rattle.script_report.specs.Commands.{Reading, Silent, Says, Bad, reading_of}
use Rattle.script_report.specs.declared.commands.Command.{Command}
use Rattle.script_report.specs.declared.commands.Command.TheVariants.{Load, Index, Prepare, Run, Cursor, Fetch, Close}
use Rattle.script_report.specs.declared.commands.Command.TheVariants.{Evict, Show}
use Rattle.report_items.specs.declared.items.ReportItem.TheVariants.{Block, TooLarge}
use Rattle.catalog_model.specs.Held.{holding_refusal}
use Rattle.catalog_model.specs.Instances.{instance_of}
use Rattle.session_model.specs.Run.{Line}
use Rattle.report_verifier.specs.Claims.{IsCertText, IsCostText}
use Rattle.report_verifier.specs.Verification.{Taking}
use Rattle.report_verifier.specs.Walk.{Walk, claims_of, next_item}

-- the next item is a block for this line, statement and execution; its plan is valid, its cost is the plan's, and that
-- is at most lambda times the least cost, over the tables and indexes as they are at the line
pub record IsVerified (old : Walk) (line : ℕ) (name : List ℕ) (q : Statement) (args : List Value) : Type 0 where
  pub plan : List ℕ
  pub cost : List ℕ
  pub cert : List ℕ
  pub next : next_item old.items ≡ Some (Block line name (old.executions + 1) plan cost cert)
  pub top : TopTree
  pub spelled : IsPlanText q plan top
  pub paid : ℕ
  pub priced : IsCostText cost paid
  pub claimed : Cert
  pub certified : IsCertText cert claimed
  pub within : IsWithinBound (claims_of old q args top paid claimed)

-- a line that would be executed is matched by the next item, which may say that it had too many rows
abbrev pub IsMatched : Walk → ℕ → List ℕ → Statement → List Value → Type 0
IsMatched old line name q args = (next_item old.items ≡ Some (TooLarge line)) ⊎ IsVerified old line name q args

-- where no refusal is met
abbrev pub IsMatchedInstance : Walk → ℕ → List ℕ → List Value → Type 0
IsMatchedInstance old line name args = MatchResult (instance_of old.catalog name args)
    (λ instance. IsMatched old line name instance.statement instance.args) (λ why. Unit {0})

abbrev pub IsMatchedCommand : Walk → ℕ → Command → Type 0
IsMatchedCommand old line (Run name args) = IsMatchedInstance old line name args
IsMatchedCommand old line (Cursor cursor name args) =
    MatchOption (holding_refusal old.cursors cursor) (IsMatchedInstance old line name args) (λ why. Unit {0})
IsMatchedCommand old line (Load table name) = Unit {0}
IsMatchedCommand old line (Index table column) = Unit {0}
IsMatchedCommand old line (Prepare name select) = Unit {0}
IsMatchedCommand old line (Fetch cursor rows) = Unit {0}
IsMatchedCommand old line (Close cursor) = Unit {0}
IsMatchedCommand old line (Evict name plan) = Unit {0}
IsMatchedCommand old line (Show name) = Unit {0}

abbrev pub IsMatchedLine : Walk → ℕ → Reading → Type 0
IsMatchedLine old line Silent = Unit {0}
IsMatchedLine old line Bad = Unit {0}
IsMatchedLine old line (Says command) = IsMatchedCommand old line command

-- from here each line is matched, in order, and no item is left over; each line is taken by this relation
abbrev pub AreMatched : Taking → Walk → List Line → Type 0
AreMatched Takes old [] = old.items ≡ []
AreMatched Takes old (line ∷ lines) =
    IsMatchedLine old line.number (reading_of line.text)
    × ((next : Walk) × Takes old line (Ok next) × AreMatched Takes next lines)
