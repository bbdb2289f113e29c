-- The ledger of a run: the optima that the certificates of later executions may name.
use Rattle.std.specs.Prelude.{ℕ, not, Bool, false, List, [], ◌∷◌, ◌++◌, filter, slice_get, Option, Some, None}
use Rattle.std.specs.Option.{option_map_or}
use Rattle.bound_certificate.specs.declared.certificates.Cert.{Cert}
use Rattle.bound_certificate.specs.declared.certificates.Cert.TheVariants as cert
use Rattle.certificate_check.specs.declared.entries.Entry.{Entry}
use Rattle.script_report.specs.declared.replies.Execution.{Execution}
use Rattle.script_report.specs.declared.replies.Reply.{Reply}
use Rattle.script_report.specs.declared.replies.Reply.TheVariants.{Closed, Evicted, Fetched, Indexed, Loaded, Opened}
use Rattle.script_report.specs.declared.replies.Reply.TheVariants.{Prepared, Ran, Refused, Shown, Spent}
use Rattle.catalog_model.specs.Catalogs.{StatementState, number_of, reads_table}

-- the statement of this number reads the table
abbrev pub is_read_by : List ℕ → List StatementState → ℕ → Bool
is_read_by table statements number =
    option_map_or (λ prepared. reads_table table prepared.statement.places) (slice_get statements number) false

-- what stays once this table has changed: nothing of the statements that read it
abbrev pub forgotten_for : List ℕ → List StatementState → List Entry → List Entry
forgotten_for table statements ledger =
    filter (λ entry. not (is_read_by table statements entry.statement)) ledger

-- an optimum is entered under its statement's number, with its vector and the least cost; a reuse isn't
abbrev pub entered_by : Option ℕ → Execution → Cert → List Entry → List Entry
entered_by None execution claimed ledger = ledger
entered_by (Some number) execution (cert.Optimum bounds) ledger =
    ledger ++ record {
      statement = number;
      execution = execution.number;
      at = execution.at;
      least = execution.cost;
    } ∷ []
entered_by (Some number) execution claimed ledger = ledger

abbrev pub with_execution : List StatementState → Execution → List Entry → List Entry
with_execution statements execution ledger =
    entered_by (number_of statements execution.name) execution execution.cert ledger

-- the ledger after a reply, by the statements before it: loads and indexes make it forget, optima are entered
abbrev pub ledger_after : List StatementState → Reply → List Entry → List Entry
ledger_after statements (Loaded table rows columns) ledger = forgotten_for table statements ledger
ledger_after statements (Indexed table column) ledger = forgotten_for table statements ledger
ledger_after statements (Ran execution rows) ledger = with_execution statements execution ledger
ledger_after statements (Opened cursor execution) ledger = with_execution statements execution ledger
ledger_after statements (Prepared name tables predicates parameters) ledger = ledger
ledger_after statements (Fetched cursor rows left) ledger = ledger
ledger_after statements (Closed cursor) ledger = ledger
ledger_after statements (Evicted name plan anchors) ledger = ledger
ledger_after statements (Shown name plans anchors) ledger = ledger
ledger_after statements (Refused why) ledger = ledger
ledger_after statements Spent ledger = ledger
