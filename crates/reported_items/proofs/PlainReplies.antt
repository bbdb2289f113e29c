-- Replies whose texts are of one line each: what a run's replies are.
use Rattle.std.specs.Prelude.{ℕ, ◌≡◌, List, [], ◌∷◌, true}
use Rattle.row_values.specs.Names.{canonical_name}
use Rattle.row_values.specs.declared.refusals.Refusal.{Refusal}
use Rattle.row_values.specs.declared.refusals.TheConstants.{TOO_MANY_ROWS}
use Rattle.sql_parser.specs.Statement.{is_name}
use Rattle.script_report.specs.declared.replies.Reply.{Reply}
use Rattle.script_report.specs.declared.replies.Reply.TheVariants.{Closed, Evicted, Fetched, Indexed, Loaded}
use Rattle.script_report.specs.declared.replies.Reply.TheVariants.{Opened, Prepared, Ran, Refused, Shown, Spent}
use Rattle.script_report.specs.declared.shown.ShownPlan.{ShownPlan}
use Rattle.session_model.specs.Run.{Line}
use Rattle.reported_items.specs.Reported.{AreRows, IsPlain, is_one_line}

-- a name that is spelled on one line
pub record IsLineName (name : List ℕ) : Type 0 where
  pub named : is_name name ≡ true
  pub line : is_one_line (canonical_name name) ≡ true

-- what a refusal shows is of one line; too many rows show nothing
pub record IsPlainRefusal (why : Refusal) : Type 0 where
  pub line : is_one_line why.shown ≡ true
  pub bare : why.code ≡ TOO_MANY_ROWS → why.shown ≡ []

-- plans that are shown are spelled on one line each
abbrev pub ArePlainPlans : List ShownPlan → Type 0
ArePlainPlans [] = Unit {0}
ArePlainPlans (plan ∷ plans) = (is_one_line plan.text ≡ true) × ArePlainPlans plans

abbrev pub IsPlainReply : Reply → Type 0
IsPlainReply (Loaded table rows columns) = IsLineName table
IsPlainReply (Indexed table column) = IsLineName table × IsLineName column
IsPlainReply (Prepared name tables predicates parameters) = IsLineName name
IsPlainReply (Ran execution rows) = IsPlain execution × AreRows rows
IsPlainReply (Opened cursor execution) = IsLineName cursor × IsPlain execution
IsPlainReply (Fetched cursor rows left) = IsLineName cursor × AreRows rows
IsPlainReply (Closed cursor) = IsLineName cursor
IsPlainReply (Evicted name plan anchors) = IsLineName name
IsPlainReply (Shown name plans anchors) = IsLineName name × ArePlainPlans plans
IsPlainReply (Refused why) = IsPlainRefusal why
IsPlainReply Spent = ⊥

-- the same of each reply to some lines
abbrev pub ArePlainReplies : List Line → List Reply → Type 0
ArePlainReplies [] replies = Unit {0}
ArePlainReplies (line ∷ lines) [] = Unit {0}
ArePlainReplies (line ∷ lines) (reply ∷ replies) = IsPlainReply reply × ArePlainReplies lines replies
