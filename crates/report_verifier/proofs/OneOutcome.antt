-- A line has one outcome, and a report one verification.
use Rattle.std.proofs.Common.{ℕ, ◌≡◌, ◌∙◌, ◌+◌, inl, inr, List, [], ◌∷◌, All, Option, Some, None, Result, Ok, Err}
use Rattle.std.proofs.Common.{Bool, true, false}
use Rattle.std.proofs.Common.{ap, refl, sym, subst, cond, MatchBool, MatchOption, MatchResult, option_map}
use Rattle.std.specs.Str.{bytes_eq}
use Rattle.std.proofs.lemmas.List.Elements.{All-cons, All-head, All-nil, All-tail}
use Rattle.std.proofs.lemmas.Option.{none-some, same_Some}
use Rattle.outside_model.specs.Files.{Files}
use Rattle.row_values.specs.Columns.{IsSchema}
use Rattle.row_values.specs.Statements.{Statement}
use Rattle.row_values.specs.declared.statement.Place.{Place}
use Rattle.row_values.specs.declared.values.Value.{Value}
use Rattle.csv_tables.specs.Tables.{IsTable, TableValue}
use Rattle.plan_trees.specs.Spelling.{IsPlanText}
use Rattle.plan_trees.specs.Trees.{TopTree}
use Rattle.plan_trees.proofs.Readable.{one_plan}
use Rattle.bound_certificate.specs.declared.certificates.Cert.{Cert}
use Rattle.certificate_check.specs.Headline.{entered}
use Rattle.certificate_check.specs.Ledgers.{ledger_after}
use Rattle.certificate_check.specs.Verdicts.{Claim}
use Rattle.certificate_check.specs.declared.entries.Entry.{Entry}
use Rattle.certificate_check.specs.declared.verdicts.Verdict.{Verdict}
use Rattle.certificate_check.specs.declared.verdicts.Verdict.TheVariants as verdict
use Rattle.certificate_check.proofs.OneVerdict.{one_verdict}
use Rattle.script_report.specs.Commands.{Reading, Silent, Says, Bad, reading_of}
use Rattle.script_report.specs.declared.commands.Command.{Command}
use Rattle.script_report.specs.declared.commands.Command.TheVariants.{Load, Index, Prepare, Run, Cursor, Fetch, Close}
use Rattle.script_report.specs.declared.commands.Command.TheVariants.{Evict, Show}
use Rattle.report_items.specs.declared.items.ReportItem.{ReportItem}
use Rattle.report_items.specs.declared.items.ReportItem.TheVariants.{Block, Broken, TooLarge}
use Rattle.catalog_model.specs.Catalogs.{StatementState, TableState, find_statement, find_table}
use Rattle.catalog_model.specs.Held.{held_by, holding_refusal}
use Rattle.catalog_model.specs.Instances.{Instance, instance_of}
use Rattle.catalog_model.specs.Sound.{IsLoaded}
use Rattle.catalog_model.proofs.Measures.{measured, statement_found}
use Rattle.session_model.specs.Run.{Line}
use Rattle.session_model.specs.Step.{file_of}
use Rattle.report_verifier.specs.Claims.{Follows, IsBlockJudged, IsCertText, IsCostText, IsJudged, Reads}
use Rattle.report_verifier.specs.Findings.{Finding, Finds, FindsBlock, TurnsDown, found, is_for}
use Rattle.report_verifier.specs.Sound.{IsSoundWalk}
use Rattle.report_verifier.specs.Verification.{GoesOn, StepOver, Verifies}
use Rattle.report_verifier.specs.Walk.{CommandStep, ExecutionStep, Matches, Step, Walk, after, claims_of}
use Rattle.report_verifier.specs.Walk.{cursors_after, next_item}
use Rattle.report_verifier.specs.declared.rejections.Verification.{Verification}
use Rattle.report_verifier.specs.declared.rejections.Why.{Why}
use Rattle.report_verifier.specs.declared.rejections.Why.TheVariants as why
use Rattle.report_verifier.proofs.OneCertificate.{one_certificate, one_cost}
use Rattle.report_verifier.proofs.SoundWalks.{step_good}

-- The columns of a statement's places.

table_by : (test : Bool) (t : TableState) (rest : Option TableValue) (content : TableValue)
    → cond test (Some t.now.content) rest ≡ Some content → IsTable t.now.content
    → (rest ≡ Some content → IsTable content) → IsTable content
table_by true t rest content e here later = subst IsTable (same_Some t.now.content content e) here
table_by false t rest content e here later = later e

table_named : (ts : List TableState) (name : List ℕ) (content : TableValue) → find_table ts name ≡ Some content
    → All (λ (table : TableState). IsTable table.now.content) ts → IsTable content
table_named [] name content e a = absurd (none-some content e)
table_named (t ∷ ts) name content e a =
    table_by (bytes_eq name t.name) t (find_table ts name) content e
    (All-head (λ (table : TableState). IsTable table.now.content) t ts a)
    (λ later. table_named ts name content later (All-tail (λ (table : TableState). IsTable table.now.content) t ts a))

schema_of : (place : Place) (o : Option TableValue) → ((content : TableValue) → o ≡ Some content → IsTable content)
    → option_map (λ (table : TableValue). table.schema) o ≡ Some place.schema → IsSchema place.schema
schema_of place None tables e = absurd (none-some place.schema e)
schema_of place (Some content) tables e =
    subst IsSchema (same_Some content.schema place.schema e) (tables content refl).columns

schemas : (ts : List TableState) (places : List Place) → All (λ (table : TableState). IsTable table.now.content) ts
    → All (IsLoaded ts) places → All (λ (place : Place). IsSchema place.schema) places
schemas ts [] a loaded = All-nil (λ (place : Place). IsSchema place.schema)
schemas ts (place ∷ places) a loaded =
    All-cons (λ (p : Place). IsSchema p.schema) place places
    (schema_of place (find_table ts place.table) (λ content e. table_named ts place.table content e a)
    (All-head (IsLoaded ts) place places loaded))
    (schemas ts places a (All-tail (IsLoaded ts) place places loaded))

loaded_by : (ts : List TableState) (test : Bool) (p : StatementState) (rest : Option Statement) (q : Statement)
    → cond test (Some p.statement) rest ≡ Some q → All (IsLoaded ts) p.statement.places
    → (rest ≡ Some q → All (IsLoaded ts) q.places) → All (IsLoaded ts) q.places
loaded_by ts true p rest q e here later =
    subst (λ (s : Statement). All (IsLoaded ts) s.places) (same_Some p.statement q e) here
loaded_by ts false p rest q e here later = later e

loaded_found : (ts : List TableState) (ss : List StatementState) (name : List ℕ) (q : Statement)
    → find_statement ss name ≡ Some q
    → All (λ (p : StatementState). All (IsLoaded ts) p.statement.places) ss → All (IsLoaded ts) q.places
loaded_found ts [] name q e a = absurd (none-some q e)
loaded_found ts (p ∷ ss) name q e a =
    loaded_by ts (bytes_eq name p.name) p (find_statement ss name) q e
    (All-head (λ (s : StatementState). All (IsLoaded ts) s.statement.places) p ss a)
    (λ later. loaded_found ts ss name q later
    (All-tail (λ (s : StatementState). All (IsLoaded ts) s.statement.places) p ss a))

-- Blocks.

reads_once : {A R : Type 0} (Spells : A → Type 0) (None' : R → Type 0) (Some' : R → A → Type 0)
    → ((a b : A) → Spells a → Spells b → a ≡ b) → ((x y : R) → None' x → None' y → x ≡ y)
    → ((a : A) (x y : R) → Some' x a → Some' y a → x ≡ y) → (x y : R) → Reads Spells (None' x) (Some' x)
    → Reads Spells (None' y) (Some' y) → x ≡ y
reads_once Spells None' Some' one none some x y (inl h) (inl k) = none x y h.1 k.1
reads_once Spells None' Some' one none some x y (inl h) (inr k) = absurd (h.0 k.0 k.1)
reads_once Spells None' Some' one none some x y (inr h) (inl k) = absurd (k.0 h.0 h.1)
reads_once Spells None' Some' one none some x y (inr h) (inr k) =
    some h.0 x y h.2 (subst (Some' y) (sym (one h.0 k.0 h.1 k.1)) k.2)

follows_once : (ledger : List Entry) (v : Verdict) (x y : Result (List Entry) Why) → Follows ledger v x
    → Follows ledger v y → x ≡ y
follows_once ledger verdict.Accepted x y h k = h ∙ sym k
follows_once ledger verdict.BadPlan x y h k = h ∙ sym k
follows_once ledger verdict.BadCost x y h k = h ∙ sym k
follows_once ledger (verdict.BadTable set) x y h k = h ∙ sym k
follows_once ledger verdict.NotLeast x y h k = h ∙ sym k
follows_once ledger (verdict.UnknownAnchor execution) x y h k = h ∙ sym k
follows_once ledger verdict.OverBound x y h k = h ∙ sym k
follows_once ledger verdict.Memory x y h k = absurd h

judged_once : (ledger : List Entry) (statement execution : ℕ) (c : Claim) (x y : Result (List Entry) Why)
    → IsJudged ledger statement execution c x → IsJudged ledger statement execution c y → x ≡ y
judged_once ledger statement execution c x y h k =
    let same = one_verdict ledger statement c h.verdict k.verdict h.is_verdict k.is_verdict in
    follows_once (ledger_after ledger (entered statement execution c) c.cert k.verdict) k.verdict x y
    (subst (λ (v : Verdict). Follows (ledger_after ledger (entered statement execution c) c.cert v) v x) same h.follows)
    k.follows

-- the statement's plans have one spelling each
abbrev IsSpelled : Statement → Type 0
IsSpelled q = (text : List ℕ) (a b : TopTree) → IsPlanText q text a → IsPlanText q text b → a ≡ b

block_once : (ledger : List Entry) (statement execution : ℕ) (q : Statement) (claims : TopTree → ℕ → Cert → Claim)
    (plan cost cert : List ℕ) → IsSpelled q → (x y : Result (List Entry) Why)
    → IsBlockJudged ledger statement execution q claims plan cost cert x
    → IsBlockJudged ledger statement execution q claims plan cost cert y → x ≡ y
block_once ledger statement execution q claims plan cost cert spelled =
    reads_once (IsPlanText q plan) (λ x. x ≡ Err why.BadPlan)
    (λ x top. Reads (IsCostText cost) (x ≡ Err why.BadCost)
    (λ paid. Reads (IsCertText cert) (x ≡ Err why.Block)
    (λ claimed. IsJudged ledger statement execution (claims top paid claimed) x)))
    (spelled plan) (λ x y e f. e ∙ sym f)
    (λ top. reads_once (IsCostText cost) (λ x. x ≡ Err why.BadCost)
    (λ x paid. Reads (IsCertText cert) (x ≡ Err why.Block)
    (λ claimed. IsJudged ledger statement execution (claims top paid claimed) x))
    (one_cost cost) (λ x y e f. e ∙ sym f)
    (λ paid. reads_once (IsCertText cert) (λ x. x ≡ Err why.Block)
    (λ x claimed. IsJudged ledger statement execution (claims top paid claimed) x) (one_certificate cert)
    (λ x y e f. e ∙ sym f)
    (λ claimed. judged_once ledger statement execution (claims top paid claimed))))

-- Findings.

module _ (Judges : List ℕ → List ℕ → List ℕ → Result (List Entry) Why → Type 0)
    (one : (plan cost cert : List ℕ) (x y : Result (List Entry) Why) → Judges plan cost cert x → Judges plan cost cert y
    → x ≡ y) (line : ℕ) (name : List ℕ) (execution : ℕ) where
  tested_once : (plan cost cert : List ℕ) (test : Bool) (f g : Finding)
      → MatchBool test (FindsBlock Judges plan cost cert f) (f ≡ TurnsDown why.Block)
      → MatchBool test (FindsBlock Judges plan cost cert g) (g ≡ TurnsDown why.Block) → f ≡ g
  tested_once plan cost cert true f g h k =
      h.finds ∙ ap found (one plan cost cert h.outcome k.outcome h.judged k.judged) ∙ sym k.finds
  tested_once plan cost cert false f g h k = h ∙ sym k

  finds_once : (item : Option ReportItem) (f g : Finding) → Finds Judges line name execution item f
      → Finds Judges line name execution item g → f ≡ g
  finds_once None f g h k = h ∙ sym k
  finds_once (Some Broken) f g h k = h ∙ sym k
  finds_once (Some (TooLarge told)) f g h k = h ∙ sym k
  finds_once (Some (Block told named number plan cost cert)) f g h k =
      tested_once plan cost cert (is_for line name execution told named number) f g h k

-- Steps.

matches_once : (old : Walk) (line : ℕ) (cursor : Option (List ℕ)) (name : List ℕ) (q : Statement) (args : List Value)
    (x y : Result Walk Why) → IsSpelled q → Matches old line cursor name q args x
    → Matches old line cursor name q args y → x ≡ y
matches_once old line cursor name q args x y spelled h k =
    let same : h.statement ≡ k.statement =
    same_Some h.statement k.statement (sym h.its_number ∙ k.its_number) in
    let finds = subst (λ n. Finds (IsBlockJudged old.ledger n (old.executions + 1) q (claims_of old q args)) line name
    (old.executions + 1) (next_item old.items) h.finding) same h.finds in
    h.goes
    ∙ ap (after old (cursors_after old.cursors old.catalog.tables cursor q))
    (finds_once (IsBlockJudged old.ledger k.statement (old.executions + 1) q (claims_of old q args))
    (λ plan cost cert. block_once old.ledger k.statement (old.executions + 1) q (claims_of old q args) plan cost cert
    spelled)
    line name (old.executions + 1) (next_item old.items) h.finding k.finding finds k.finds)
    ∙ sym k.goes

by_same : {T E : Type 0} (P : Type 0) (r : Result T E) (F F' : T → Type 0) (G G' : E → Type 0)
    → ((t : T) → r ≡ Ok t → F t → F' t → P) → ((e : E) → G e → G' e → P) → MatchResult r F G → MatchResult r F' G' → P
by_same P (Ok t) F F' G G' ok err h k = ok t refl h k
by_same P (Err e) F F' G G' ok err h k = err e h k

by_both : {T : Type 0} (P : Type 0) (o : Option T) (F F' : Type 0) (G G' : T → Type 0) → (F → F' → P)
    → ((t : T) → G t → G' t → P) → MatchOption o F G → MatchOption o F' G' → P
by_both P None F F' G G' none some h k = none h k
by_both P (Some t) F F' G G' none some h k = some t h k

spelled_once : (old : Walk) (name : List ℕ) (args : List Value) (instance : Instance) → IsSoundWalk old
    → instance_of old.catalog name args ≡ Ok instance → IsSpelled instance.statement
spelled_once old name args instance sound i =
    let known = measured (held_by old.cursors) old.catalog name args instance sound.catalog i in
    let place = loaded_found old.catalog.tables old.catalog.statements name instance.statement
    (statement_found old.catalog name args instance i).0 sound.catalog.loaded in
    λ text a b. one_plan instance.statement text a b known.sound
    (schemas old.catalog.tables instance.statement.places sound.catalog.are_tables place)

execution_once : (old : Walk) (line : ℕ) (cursor : Option (List ℕ)) (name : List ℕ) (args : List Value)
    (x y : Result Walk Why) → IsSoundWalk old → ExecutionStep old line cursor name args x
    → ExecutionStep old line cursor name args y → x ≡ y
execution_once old line cursor name args x y sound h k =
    by_same (x ≡ y) (instance_of old.catalog name args)
    (λ instance. Matches old line cursor name instance.statement instance.args x)
    (λ instance. Matches old line cursor name instance.statement instance.args y) (λ why. x ≡ Ok old) (λ why. y ≡ Ok
    old)
    (λ instance i m n. matches_once old line cursor name instance.statement instance.args x y
    (spelled_once old name args instance sound i) m n)
    (λ why e f. e ∙ sym f) h k

command_once : (old : Walk) (line : ℕ) (command : Command) (file : Option (List ℕ)) (x y : Result Walk Why)
    → IsSoundWalk old → CommandStep old line command file x → CommandStep old line command file y → x ≡ y
command_once old line (Load table name) file x y sound h k = h ∙ sym k
command_once old line (Index table column) file x y sound h k = h ∙ sym k
command_once old line (Prepare name select) file x y sound h k = h ∙ sym k
command_once old line (Run name args) file x y sound h k = execution_once old line None name args x y sound h k
command_once old line (Cursor cursor name args) file x y sound h k =
    by_both (x ≡ y) (holding_refusal old.cursors cursor) (ExecutionStep old line (Some cursor) name args x)
    (ExecutionStep old line (Some cursor) name args y) (λ why. x ≡ Ok old) (λ why. y ≡ Ok old)
    (execution_once old line (Some cursor) name args x y sound) (λ why e f. e ∙ sym f) h k
command_once old line (Fetch cursor rows) file x y sound h k = h ∙ sym k
command_once old line (Close cursor) file x y sound h k = h ∙ sym k
command_once old line (Evict name plan) file x y sound h k = h ∙ sym k
command_once old line (Show name) file x y sound h k = h ∙ sym k

pub step_once : (old : Walk) (line : ℕ) (reading : Reading) (file : Option (List ℕ)) (x y : Result Walk Why)
    → IsSoundWalk old → Step old line reading file x → Step old line reading file y → x ≡ y
unfolding Step
step_once old line Silent file x y sound h k = h ∙ sym k
step_once old line Bad file x y sound h k = h ∙ sym k
step_once old line (Says command) file x y sound h k = command_once old line command file x y sound h k

-- Verifications.

pub verified_once : (files : Files) (old : Walk) (lines : List Line) (one other : Verification) → IsSoundWalk old
    → Verifies (StepOver files) old lines one → Verifies (StepOver files) old lines other → one ≡ other
verified_once files old [] one other sound h k = h ∙ sym k
verified_once files old (line ∷ lines) one other sound (x, step, later) (y, again, more) =
    let same = step_once old line.number (reading_of line.text) (file_of files (reading_of line.text)) x y sound step
    again in
    by_outcome x step later (subst (λ (o : Result Walk Why). GoesOn line.number o
    (λ next. Verifies (StepOver files) next lines other) other) (sym same) more)
    (λ next good. verified_once files next lines one other good)
  where
    by_outcome : (outcome : Result Walk Why) → StepOver files old line outcome
        → GoesOn line.number outcome (λ next. Verifies (StepOver files) next lines one) one
        → GoesOn line.number outcome (λ next. Verifies (StepOver files) next lines other) other
        → ((next : Walk) → IsSoundWalk next → Verifies (StepOver files) next lines one → Verifies (StepOver files) next lines other
        → one ≡ other)
        → one ≡ other
    by_outcome (Ok next) step later more both =
        both next (step_good old line.number line.text (file_of files (reading_of line.text)) next sound step).1
        later more
    by_outcome (Err why) step later more both = later ∙ sym more
