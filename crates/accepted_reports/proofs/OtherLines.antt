-- The lines that execute nothing, as the walk takes them.
use Rattle.std.proofs.Common.{ℕ, ◌≡◌, ◌∙◌, List, [], ◌∷◌, Bool, true, false, cond, Option, Some, None, Result, Ok}
use Rattle.std.proofs.Common.{ap, refl, sym}
use Rattle.std.specs.Str.{bytes_eq}
use Rattle.std.proofs.lemmas.Option.{none-some}
use Rattle.sql_parser.specs.Statement.{Parts}
use Rattle.script_report.specs.declared.replies.Reply.{Reply}
use Rattle.script_report.specs.declared.replies.Reply.TheVariants.{Closed, Evicted, Fetched, Indexed, Loaded}
use Rattle.script_report.specs.declared.replies.Reply.TheVariants.{Prepared, Shown}
use Rattle.report_items.specs.declared.items.ReportItem.{ReportItem}
use Rattle.cache_model.specs.Caches.{top_numbered}
use Rattle.catalog_model.specs.Catalogs.{number_of, with_index, with_version}
use Rattle.catalog_model.specs.Held.{HeldCursor, without_cursor}
use Rattle.catalog_model.specs.Indexing.{indexing_of}
use Rattle.catalog_model.specs.Loading.{loading_of}
use Rattle.catalog_model.specs.Preparing.{preparing_of}
use Rattle.certificate_check.specs.declared.entries.Entry.{Entry}
use Rattle.session_model.specs.State.{CursorState, State, cache_at, cursor_named, held_versions, hold_of, holds_of}
use Rattle.session_model.specs.Step.{CloseStep, Closes, EvictFrom, EvictStep, Evicts, FetchStep, Fetches, IndexStep}
use Rattle.session_model.specs.Step.{Indexes, LoadStep, Loads, PrepareStep, Prepares, Refuses, ShowStep, Shows}
use Rattle.session_model.proofs.Holds.{holds_closed, holds_fetched}
use Rattle.report_verifier.specs.Walk.{Walk, fetched, indexed, loaded, prepared}
use Rattle.report_verifier.specs.declared.rejections.Why.{Why}
use Rattle.accepted_reports.proofs.DatedLedgers.{forgotten_dated}
use Rattle.accepted_reports.proofs.Forgetting.{forgets_same}
use Rattle.accepted_reports.proofs.OtherRefusals.{indexing_other, loading_other, preparing_other}
use Rattle.accepted_reports.proofs.Walked.{IsWalked, by_option, by_result, refused, walked_as, walk_in, went}

-- the walk goes on from here
abbrev ok : Walk → Result Walk Why
ok walk = Ok walk

abbrev Goes : (Walk → Walk) → Walk → Result Walk Why → Type 0
Goes next walk outcome = outcome ≡ ok (next walk)

-- what each of the commands makes of a walk, unless it is refused
abbrev with_load : List ℕ → Option (List ℕ) → Walk → Walk
with_load name file walk = fetched walk name file

abbrev with_indexing : List ℕ → List ℕ → Walk → Walk
with_indexing table column walk = indexed walk table (indexing_of walk.catalog table column)

abbrev with_preparation : List ℕ → Parts → Walk → Walk
with_preparation name select walk = prepared walk name (preparing_of walk.catalog name select)

abbrev with_closing : List ℕ → Walk → Walk
with_closing cursor walk = record walk { cursors = without_cursor cursor walk.cursors }

abbrev with_nothing : Walk → Walk
with_nothing walk = walk

unopened : (cursors : List CursorState) (name : List ℕ) → cursor_named cursors name ≡ None
    → without_cursor name (holds_of cursors) ≡ holds_of cursors
unopened [] name none = refl
unopened (cursor ∷ cursors) name none = by_test (bytes_eq cursor.name name) none (unopened cursors name)
  where
    by_test : (test : Bool) → cond test (Some cursor) (cursor_named cursors name) ≡ None
        → (cursor_named cursors name ≡ None → without_cursor name (holds_of cursors) ≡ holds_of cursors)
        → cond test (holds_of cursors) (hold_of cursor ∷ without_cursor name (holds_of cursors))
        ≡ hold_of cursor ∷ holds_of cursors
    by_test true e later = absurd (none-some cursor (sym e))
    by_test false e later = ap (λ (rest : List HeldCursor). hold_of cursor ∷ rest) (later e)

module _ (ledger : List Entry) (count : ℕ) (later : List ReportItem) (line : ℕ) (old new : State) (reply : Reply) where
  abbrev Walked : (Walk → Walk) → Type 0
  Walked next = IsWalked (Goes next) ledger count later line old new reply

  abbrev here : Walk
  here = walk_in old ledger count later

  pub load_walked : (name : List ℕ) (file : Option (List ℕ)) → LoadStep old name file reply new
      → Walked (with_load name file)
  load_walked name None step =
      refused (Goes (with_load name None)) ledger count later line _ old new reply refl step refl
  load_walked name (Some bytes) step =
      by_result (Walked (with_load name (Some bytes)))
      (loading_of (held_versions old.cursors) old.catalog name bytes) (λ version. Loads old name version reply new)
      (λ why. Refuses why old reply new) step (loading_other (held_versions old.cursors) old.catalog name bytes)
      (λ version e l. walked_as (Goes (with_load name (Some bytes))) ledger count later line old new _ reply
      (Loaded name _ _) l.says l.keeps
      (went (Goes (with_load name (Some bytes))) ledger count later line old _ (Loaded name _ _) refl refl
      refl refl
      (ap (λ (left : List Entry). ok (record here { catalog = with_version old.catalog name version; ledger = left }))
      (sym (forgets_same name old.catalog.statements ledger))
      ∙ sym (ap (λ outcome. ok (loaded here name outcome)) e))
      (forgotten_dated old.executions name old.catalog.statements ledger)))
      (λ why e other r. refused (Goes (with_load name (Some bytes))) ledger count later line why old new
      reply other r (sym (ap (λ outcome. ok (loaded here name outcome)) e)))

  pub index_walked : (table column : List ℕ) → IndexStep old table column reply new
      → Walked (with_indexing table column)
  index_walked table column step =
      by_result (Walked (with_indexing table column)) (indexing_of old.catalog table column)
      (λ number. Indexes old table column number reply new) (λ why. Refuses why old reply new) step
      (indexing_other old.catalog table column)
      (λ number e i. walked_as (Goes (with_indexing table column)) ledger count later line old new
      _ reply (Indexed table column) i.says i.keeps
      (went (Goes (with_indexing table column)) ledger count later line old _ (Indexed table
      column) refl refl refl refl
      (ap (λ (left : List Entry). ok (record here { catalog = with_index old.catalog table number; ledger = left }))
      (sym (forgets_same table old.catalog.statements ledger))
      ∙ sym (ap (λ outcome. ok (indexed here table outcome)) e))
      (forgotten_dated old.executions table old.catalog.statements ledger)))
      (λ why e other r. refused (Goes (with_indexing table column)) ledger count later line why old new reply other r
      (sym (ap (λ outcome. ok (indexed here table outcome)) e)))

  pub prepare_walked : (name : List ℕ) (select : Parts) → PrepareStep old name select reply new
      → Walked (with_preparation name select)
  prepare_walked name select step =
      by_result (Walked (with_preparation name select)) (preparing_of old.catalog name select) (λ
      q. Prepares old name q reply new)
      (λ why. Refuses why old reply new) step (preparing_other old.catalog name select)
      (λ q e p. walked_as (Goes (with_preparation name select)) ledger count later line old new _
      reply (Prepared name _ _ _) p.says p.keeps
      (went (Goes (with_preparation name select)) ledger count later line old _ (Prepared name _ _
      _) refl refl refl refl
      (sym (ap (λ outcome. ok (prepared here name outcome)) e)) (λ h. h)))
      (λ why e other r. refused (Goes (with_preparation name select)) ledger count later line why old new reply other r
      (sym (ap (λ outcome. ok (prepared here name outcome)) e)))

  pub fetch_walked : (cursor : List ℕ) (rows : ℕ) → FetchStep old cursor rows reply new → Walked with_nothing
  fetch_walked cursor rows step =
      by_option (Walked with_nothing) (cursor_named old.cursors cursor) (Refuses _ old reply new)
      (λ waiting. Fetches old cursor waiting rows reply new) step
      (λ e r. refused (Goes with_nothing) ledger count later line _ old new reply refl r refl)
      (λ waiting e f. walked_as (Goes with_nothing) ledger count later line old new _ reply (Fetched cursor _ _)
      f.says f.keeps
      (went (Goes with_nothing) ledger count later line old _ (Fetched cursor _ _) refl refl refl refl
      (ap (λ (held : List HeldCursor). ok (record here { cursors = held })) (holds_fetched
      old.cursors cursor rows)) (λ h. h)))

  pub close_walked : (cursor : List ℕ) → CloseStep old cursor reply new
      → Walked (with_closing cursor)
  close_walked cursor step =
      by_option (Walked (with_closing cursor)) (cursor_named old.cursors cursor) (Refuses _ old reply new)
      (λ waiting. Closes old cursor reply new) step
      (λ e r. refused (Goes (with_closing cursor)) ledger count later line _ old new reply refl r
      (sym (ap (λ (held : List HeldCursor). ok (record here { cursors = held })) (unopened old.cursors cursor e))))
      (λ waiting e c. walked_as (Goes (with_closing cursor)) ledger count later line old new _
      reply (Closed cursor) c.says c.drops
      (went (Goes (with_closing cursor)) ledger count later line old _ (Closed cursor) refl refl refl refl
      (ap (λ (held : List HeldCursor). ok (record here { cursors = held })) (holds_closed
      old.cursors cursor)) (λ h. h)))

  pub evict_walked : (name : List ℕ) (plan : ℕ) → EvictStep old name plan reply new → Walked with_nothing
  evict_walked name plan step =
      by_option (Walked with_nothing) (number_of old.catalog.statements name) (Refuses _ old reply new)
      (λ number. EvictFrom old name plan number reply new) step
      (λ e r. refused (Goes with_nothing) ledger count later line _ old new reply refl r refl)
      (λ number e from. by_option (Walked with_nothing) (top_numbered (cache_at old.caches number).plans plan)
      (Refuses _ old reply new) (λ top. Evicts old name number plan reply new) from
      (λ e r. refused (Goes with_nothing) ledger count later line _ old new reply refl r refl)
      (λ top e gone. walked_as (Goes with_nothing) ledger count later line old new _ reply (Evicted name plan _)
      gone.says gone.drops
      (went (Goes with_nothing) ledger count later line old _ (Evicted name plan _) refl refl refl
      refl refl (λ h. h))))

  pub show_walked : (name : List ℕ) → ShowStep old name reply new → Walked with_nothing
  show_walked name step =
      by_option (Walked with_nothing) (number_of old.catalog.statements name) (Refuses _ old reply new)
      (λ number. Shows old name number reply new) step
      (λ e r. refused (Goes with_nothing) ledger count later line _ old new reply refl r refl)
      (λ number e shows. walked_as (Goes with_nothing) ledger count later line old new old reply (Shown name _ _)
      shows.says shows.unchanged
      (went (Goes with_nothing) ledger count later line old old (Shown name _ _) refl refl refl refl refl (λ h. h)))
