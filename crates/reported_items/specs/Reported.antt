-- The items of a report, reply by reply.
use Rattle.std.specs.Prelude.{ℕ, ◌≡◌, ◌<◌, ◌^◌, ◌==◌, ◌&&◌, not, Bool, true, false, List, [], ◌∷◌, ◌++◌, codes}
use Rattle.std.specs.Fmt.{decimal}
use Rattle.std.specs.Str.Lines.{strip_carriage_return}
use Rattle.row_values.specs.Names.{canonical_name}
use Rattle.row_values.specs.Refusals.{too_many_rows}
use Rattle.sql_parser.specs.Statement.{is_name}
use Rattle.bound_certificate.specs.Certificates.{certificate_text}
use Rattle.script_report.specs.Replies.{reply_text}
use Rattle.script_report.specs.declared.replies.Execution.{Execution}
use Rattle.script_report.specs.declared.replies.Reply.{Reply}
use Rattle.script_report.specs.declared.replies.Reply.TheVariants.{Closed, Evicted, Indexed, Loaded}
use Rattle.script_report.specs.declared.replies.Reply.TheVariants.{Opened, Prepared, Ran, Refused}
use Rattle.report_items.specs.Items.{items_of}
use Rattle.report_items.specs.Written.{IsNumber}
use Rattle.report_items.specs.declared.items.ReportItem.{ReportItem}
use Rattle.report_items.specs.declared.items.ReportItem.TheVariants.{Block, TooLarge}
use Rattle.session_model.specs.Run.{Line, report_text}

-- the items of each reply's own lines, in order
abbrev pub items_told : List Line → List Reply → List ReportItem
items_told [] replies = []
items_told (line ∷ lines) [] = []
items_told (line ∷ lines) (reply ∷ replies) = items_of (reply_text line.number reply) ++ items_told lines replies

-- the numbers of the lines have 64 bits
abbrev pub AreNumbered : List Line → Type 0
AreNumbered [] = Unit {0}
AreNumbered (line ∷ lines) = (line.number < 2 ^ 64) × AreNumbered lines

-- no reply's lines are taken for another one's
abbrev pub ItemsLaw : Type 0
ItemsLaw =
    (lines : List Line) (replies : List Reply) → AreNumbered lines
    → items_of (report_text lines replies) ≡ items_told lines replies

-- Executions.

-- whether no line ends within a text
abbrev pub is_one_line : List ℕ → Bool
is_one_line [] = true
is_one_line (byte ∷ text) = not (byte == 10) && is_one_line text

-- no CR at the line's end would be dropped with it
abbrev pub Stays : List ℕ → Type 0
Stays line = strip_carriage_return line ≡ line

-- an execution whose texts are of one line each
pub record IsPlain (e : Execution) : Type 0 where
  pub name : is_name e.name ≡ true
  pub name_line : is_one_line (canonical_name e.name) ≡ true
  pub number : IsNumber e.number
  pub plan_line : is_one_line e.spelled ≡ true
  pub plan_stays : Stays (codes "plan " ++ e.spelled)
  pub cert_line : is_one_line (certificate_text e.cert) ≡ true
  pub cert_stays : Stays (codes "cert " ++ certificate_text e.cert)

-- `row TEXT`, of one line
pub record IsRow (row : List ℕ) : Type 0 where
  pub text : List ℕ
  pub spelled : row ≡ codes "row " ++ text
  pub one : is_one_line text ≡ true

abbrev pub AreRows : List (List ℕ) → Type 0
AreRows [] = Unit {0}
AreRows (row ∷ rows) = IsRow row × AreRows rows

-- the block that tells an execution
abbrev pub block_told : ℕ → Execution → ReportItem
block_told line e = Block line e.name e.number e.spelled (decimal e.cost) (certificate_text e.cert)

-- a run is read as its execution's block
abbrev pub RanLaw : Type 0
RanLaw =
    (line : ℕ) (e : Execution) (rows : List (List ℕ)) → IsNumber line → IsPlain e → AreRows rows
    → items_of (reply_text line (Ran e rows)) ≡ block_told line e ∷ []

-- and so is the opening of a cursor
abbrev pub OpenedLaw : Type 0
OpenedLaw =
    (line : ℕ) (cursor : List ℕ) (e : Execution) → IsNumber line → is_name cursor ≡ true
    → is_one_line (canonical_name cursor) ≡ true → IsPlain e
    → items_of (reply_text line (Opened cursor e)) ≡ block_told line e ∷ []

-- a line that has too many rows is read as that
abbrev pub TooLargeLaw : Type 0
TooLargeLaw = (line : ℕ) → IsNumber line → items_of (reply_text line (Refused too_many_rows)) ≡ TooLarge line ∷ []

-- Other replies.

-- whether a reply is one line that tells no execution
abbrev pub is_other : Reply → Bool
is_other (Loaded table rows columns) = true
is_other (Indexed table column) = true
is_other (Prepared name tables predicates parameters) = true
is_other (Closed cursor) = true
is_other (Evicted name plan anchors) = true
is_other reply = false

-- a head line of one line, which no CR ends
pub record IsPlainHead (head : List ℕ) : Type 0 where
  pub one : is_one_line head ≡ true
  pub stays : Stays head

-- what is told of a load, an index, a statement, a cursor's end or an eviction is no item
abbrev pub OthersLaw : Type 0
OthersLaw =
    (line : ℕ) (text : List ℕ) (reply : Reply) → IsNumber line → is_other reply ≡ true
    → reply_text line reply ≡ text ++ 10 ∷ [] → IsPlainHead text → items_of (reply_text line reply) ≡ []
