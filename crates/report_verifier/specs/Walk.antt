-- The walk over a report: what is kept between the lines of the script, and one step.
use Rattle.std.specs.Prelude.{ℕ, ◌≡◌, ◌+◌, List, [], ◌∷◌, ◌++◌, if◌then◌else◌, Option, Some, None}
use Rattle.std.specs.Prelude.{Result, Ok, Err, MatchOption, MatchResult}
use Rattle.fraction_math.specs.Fraction.{Fraction}
use Rattle.row_values.specs.Statements.{Statement}
use Rattle.row_values.specs.declared.refusals.Refusal.{Refusal}
use Rattle.row_values.specs.declared.values.Value.{Value}
use Rattle.plan_trees.specs.Trees.{TopTree}
use Rattle.plan_trees.specs.declared.statistics.Weights.{Weights}
use Rattle.statement_meaning.specs.Vectors.{vector_of}
use Rattle.bound_certificate.specs.declared.certificates.Cert.{Cert}
use Rattle.certificate_check.specs.Ledgers.{without}
use Rattle.certificate_check.specs.Verdicts.{Claim, claim_of}
use Rattle.certificate_check.specs.declared.entries.Entry.{Entry}
use Rattle.script_report.specs.Commands.{Reading, Silent, Says, Bad}
use Rattle.script_report.specs.declared.commands.Command.{Command}
use Rattle.script_report.specs.declared.commands.Command.TheVariants.{Load, Index, Prepare, Run, Cursor, Fetch}
use Rattle.script_report.specs.declared.commands.Command.TheVariants as command
use Rattle.report_items.specs.declared.items.ReportItem.{ReportItem}
use Rattle.catalog_model.specs.Catalogs.{Catalog, StatementState, TableState, Version, empty_catalog, number_of}
use Rattle.catalog_model.specs.Catalogs.{reads_table, stats_now, tables_of, with_index, with_statement, with_version}
use Rattle.catalog_model.specs.Held.{HeldCursor, held_by, holding_refusal, versions_of, without_cursor}
use Rattle.catalog_model.specs.Indexing.{indexing_of}
use Rattle.catalog_model.specs.Instances.{instance_of}
use Rattle.catalog_model.specs.Loading.{loading_of}
use Rattle.catalog_model.specs.Preparing.{preparing_of}
use Rattle.report_verifier.specs.Claims.{IsBlockJudged}
use Rattle.report_verifier.specs.Findings.{Accepts, Finding, Finds, SaidTooLarge, TurnsDown}
use Rattle.report_verifier.specs.declared.rejections.Why.{Why}

-- the catalog, what open cursors hold, the optima that were accepted, how many executions were accepted and how many
-- lines were said to have too many rows, the items of the report that are still to come, and the ratio of the bound
pub record Walk : Type 0 where
  pub catalog : Catalog
  pub cursors : List HeldCursor
  pub ledger : List Entry
  pub executions : ℕ
  pub too_large : ℕ
  pub items : List ReportItem
  pub lambda : Fraction

abbrev pub first_walk : Fraction → Weights → List ReportItem → Walk
first_walk lambda weights items = record {
  catalog = empty_catalog weights;
  cursors = [];
  ledger = [];
  executions = 0;
  too_large = 0;
  items = items;
  lambda = lambda;
}

-- Changes of tables.

-- the ledger without the statements that read the table, the first of these statements having this number
abbrev pub forgotten_from : ℕ → List ℕ → List StatementState → List Entry → List Entry
forgotten_from number table [] ledger = ledger
forgotten_from number table (prepared ∷ others) ledger =
    forgotten_from (number + 1) table others
    (if reads_table table prepared.statement.places then without ledger number else ledger)

-- once a table has changed, the ledger forgets each statement that reads it
abbrev pub forgotten_for : List ℕ → List StatementState → List Entry → List Entry
forgotten_for table statements ledger = forgotten_from 0 table statements ledger

-- a load that isn't refused
abbrev pub loaded : Walk → List ℕ → Result Version Refusal → Walk
loaded old table (Err why) = old
loaded old table (Ok version) = record old {
  catalog = with_version old.catalog table version;
  ledger = forgotten_for table old.catalog.statements old.ledger;
}

-- the file of a load may be missing, which is a refusal
abbrev pub fetched : Walk → List ℕ → Option (List ℕ) → Walk
fetched old table None = old
fetched old table (Some bytes) = loaded old table (loading_of (held_by old.cursors) old.catalog table bytes)

-- an indexing that isn't refused
abbrev pub indexed : Walk → List ℕ → Result ℕ Refusal → Walk
indexed old table (Err why) = old
indexed old table (Ok column) = record old {
  catalog = with_index old.catalog table column;
  ledger = forgotten_for table old.catalog.statements old.ledger;
}

-- a preparation that isn't refused
abbrev pub prepared : Walk → List ℕ → Result Statement Refusal → Walk
prepared old name (Err why) = old
prepared old name (Ok q) = record old { catalog = with_statement old.catalog name q }

-- Executions.

-- what is claimed of an instance over the tables and indexes as they are now
abbrev pub claims_of : Walk → Statement → List Value → TopTree → ℕ → Cert → Claim
claims_of walk q args top cost claimed =
    claim_of q (stats_now walk.catalog.tables walk.catalog.weights q) (vector_of q (tables_of walk.catalog.tables q)
    args)
    walk.lambda top cost claimed

-- the next item, and the items behind it
abbrev pub next_item : List ReportItem → Option ReportItem
next_item [] = None
next_item (item ∷ items) = Some item

abbrev pub later_items : List ReportItem → List ReportItem
later_items [] = []
later_items (item ∷ items) = items

-- where the walk goes from there; an execution leaves these cursors
abbrev pub after : Walk → List HeldCursor → Finding → Result Walk Why
after old cursors SaidTooLarge = Ok (record old { too_large = old.too_large + 1; items = later_items old.items })
after old cursors (Accepts ledger) = Ok (record old {
  cursors = cursors;
  ledger = ledger;
  executions = old.executions + 1;
  items = later_items old.items;
})
after old cursors (TurnsDown why) = Err why

-- the open cursors after an execution: with one more, where this is one of a cursor, which holds the present versions
-- of the statement's tables
abbrev pub cursors_after : List HeldCursor → List TableState → Option (List ℕ) → Statement → List HeldCursor
cursors_after cursors tables None q = cursors
cursors_after cursors tables (Some cursor) q = cursors ++ record { name = cursor; held = versions_of tables q } ∷ []

-- an instance is matched with the next item, under the statement's number and the next execution's
pub record Matches (old : Walk) (line : ℕ) (cursor : Option (List ℕ)) (name : List ℕ) (q : Statement)
    (args : List Value) (outcome : Result Walk Why) : Type 0 where
  pub statement : ℕ
  pub its_number : number_of old.catalog.statements name ≡ Some statement
  pub finding : Finding
  pub finds : Finds (IsBlockJudged old.ledger statement (old.executions + 1) q (claims_of old q args)) line name
      (old.executions + 1) (next_item old.items) finding
  pub goes : outcome ≡ after old (cursors_after old.cursors old.catalog.tables cursor q) finding

-- a line that would be executed, unless it is refused
abbrev pub ExecutionStep : Walk → ℕ → Option (List ℕ) → List ℕ → List Value → Result Walk Why → Type 0
ExecutionStep old line cursor name args outcome = MatchResult (instance_of old.catalog name args)
    (λ instance. Matches old line cursor name instance.statement instance.args outcome)
    (λ why. outcome ≡ Ok old)

-- `cursor CUR NAME ARG*`: the cursor itself may be refused
abbrev pub CursorStep : Walk → ℕ → List ℕ → List ℕ → List Value → Result Walk Why → Type 0
CursorStep old line cursor name args outcome = MatchOption (holding_refusal old.cursors cursor)
    (ExecutionStep old line (Some cursor) name args outcome)
    (λ why. outcome ≡ Ok old)

-- One step.

-- by the command of the line of this number, with the file that it asks for
abbrev pub CommandStep : Walk → ℕ → Command → Option (List ℕ) → Result Walk Why → Type 0
CommandStep old line (Load table name) file outcome = outcome ≡ Ok (fetched old table file)
CommandStep old line (Index table column) file outcome =
    outcome ≡ Ok (indexed old table (indexing_of old.catalog table column))
CommandStep old line (Prepare name select) file outcome =
    outcome ≡ Ok (prepared old name (preparing_of old.catalog name select))
CommandStep old line (Run name args) file outcome = ExecutionStep old line None name args outcome
CommandStep old line (Cursor cursor name args) file outcome = CursorStep old line cursor name args outcome
CommandStep old line (Fetch cursor rows) file outcome = outcome ≡ Ok old
CommandStep old line (command.Close cursor) file outcome =
    outcome ≡ Ok (record old { cursors = without_cursor cursor old.cursors })
CommandStep old line (command.Evict name plan) file outcome = outcome ≡ Ok old
CommandStep old line (command.Show name) file outcome = outcome ≡ Ok old

-- by what the line says; a line that says nothing and one that is none of the language leave all as it is
unfoldable pub Step : Walk → ℕ → Reading → Option (List ℕ) → Result Walk Why → Type 0
Step old line Silent file outcome = outcome ≡ Ok old
Step old line Bad file outcome = outcome ≡ Ok old
Step old line (Says command) file outcome = CommandStep old line command file outcome
