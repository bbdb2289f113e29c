-- The bound: what every execution of a run is worth, for a reader who trusts nobody.
use Rattle.std.specs.Prelude.{ℕ, ◌≡◌, List, [], ◌∷◌, Ok, Some}
use Rattle.row_values.specs.Statements.{Statement}
use Rattle.row_values.specs.declared.values.Value.{Value}
use Rattle.plan_trees.specs.Spelling.{top_text}
use Rattle.plan_trees.specs.Trees.{TopTree}
use Rattle.certificate_check.specs.Headline.{IsWithinBound}
use Rattle.certificate_check.specs.Verdicts.{Claim, IsVerdict, claim_of}
use Rattle.certificate_check.specs.declared.entries.Entry.{Entry}
use Rattle.certificate_check.specs.declared.verdicts.Verdict.TheVariants.{Accepted}
use Rattle.script_report.specs.declared.replies.Execution.{Execution}
use Rattle.script_report.specs.declared.replies.Reply.{Reply}
use Rattle.script_report.specs.declared.replies.Reply.TheVariants.{Closed, Evicted, Fetched, Indexed, Loaded, Opened}
use Rattle.script_report.specs.declared.replies.Reply.TheVariants.{Prepared, Ran, Refused, Shown, Spent}
use Rattle.catalog_model.specs.Catalogs.{number_of}
use Rattle.catalog_model.specs.Instances.{instance_of}
use Rattle.session_model.specs.Run.{Line, IsChain}
use Rattle.session_model.specs.State.{State}
use Rattle.session_model.specs.Step.{present_stats, present_vector}
use Rattle.session_bound.specs.Ledger.{ledger_after}

-- what is claimed of an execution of this statement by this plan, over the tables and indexes of this state
abbrev pub claim_in : State → Statement → TopTree → Execution → Claim
claim_in state q top execution =
    claim_of q (present_stats state q) execution.at state.settings.lambda top execution.cost execution.cert

-- the execution of an instance of this state, by a plan within the bound; the ledger has the optima that its
-- certificate may name
pub record IsBounded (state : State) (ledger : List Entry) (execution : Execution) : Type 0 where
  pub statement : Statement
  pub args : List Value
  pub instance : instance_of state.catalog execution.name args ≡ Ok (record { statement = statement; args = args })
  pub at : execution.at ≡ present_vector state statement args
  -- the plan that the report spells
  pub plan : TopTree
  pub spelled : execution.spelled ≡ top_text statement.places plan
  -- it is valid, its cost is as shown, and that is at most lambda times the least cost over all valid plans
  pub within : IsWithinBound (claim_in state statement plan execution)
  -- and a checker accepts its certificate beside the ledger, under the statement's number
  pub number : ℕ
  pub its_number : number_of state.catalog.statements execution.name ≡ Some number
  pub accepted : IsVerdict ledger number (claim_in state statement plan execution) Accepted

-- an execution that this replies with is within the bound
abbrev pub IsBoundedReply : State → List Entry → Reply → Type 0
IsBoundedReply state ledger (Ran execution rows) = IsBounded state ledger execution
IsBoundedReply state ledger (Opened cursor execution) = IsBounded state ledger execution
IsBoundedReply state ledger (Loaded table rows columns) = Unit {0}
IsBoundedReply state ledger (Indexed table column) = Unit {0}
IsBoundedReply state ledger (Prepared name tables predicates parameters) = Unit {0}
IsBoundedReply state ledger (Fetched cursor rows left) = Unit {0}
IsBoundedReply state ledger (Closed cursor) = Unit {0}
IsBoundedReply state ledger (Evicted name plan anchors) = Unit {0}
IsBoundedReply state ledger (Shown name plans anchors) = Unit {0}
IsBoundedReply state ledger (Refused why) = Unit {0}
IsBoundedReply state ledger Spent = Unit {0}

-- each reply along a chain is within the bound, over the state before its line and the ledger of the lines before it
abbrev pub AreBounded : {A : Type 0} (state : A → State) (Takes : A → Line → Reply → A → Type 0) (ledger : List Entry)
    (old : A) (lines : List Line) (replies : List Reply) (new : A) → IsChain Takes old lines replies new → Type 0
AreBounded state Takes ledger old [] [] new chain = Unit {0}
AreBounded state Takes ledger old (line ∷ lines) (reply ∷ replies) new chain =
    IsBoundedReply (state old) ledger reply
    × AreBounded state Takes (ledger_after (state old).catalog.statements reply ledger) chain.0 lines replies new
    chain.2
AreBounded state Takes ledger old [] (reply ∷ replies) new chain = Unit {0}
AreBounded state Takes ledger old (line ∷ lines) [] new chain = Unit {0}
