-- Every execution along a chain of steps is within the bound.
use Rattle.std.proofs.Common.{ℕ, ◌≡◌, ◌∙◌, ◌+◌, List, [], ◌∷◌, ◌++◌, length, map, set, Option, Some, None, Result, Ok, Err}
use Rattle.std.proofs.Common.{MatchOption}
use Rattle.std.proofs.Common.{MatchResult, ap, refl, sym, subst, subst₂}
use Rattle.row_values.specs.Statements.{Statement}
use Rattle.row_values.specs.declared.refusals.Refusal.{Refusal}
use Rattle.row_values.specs.declared.values.Value.{Value}
use Rattle.sql_parser.specs.Statement.{Parts}
use Rattle.statement_meaning.specs.Meaning.{meaning_of}
use Rattle.statement_meaning.specs.Spelling.{row_line}
use Rattle.cache_model.specs.Caches.{CacheState, top_numbered}
use Rattle.cache_model.specs.Choices.{Choice, choice_of}
use Rattle.cache_model.specs.Faithful.{IsFaithfulCache}
use Rattle.cache_model.proofs.FirstPassing.{choice_is}
use Rattle.certificate_check.specs.Verdicts.{claim_of}
use Rattle.certificate_check.specs.declared.entries.Entry.{Entry}
use Rattle.script_report.specs.Commands.{Reading, Silent, Says, Bad, reading_of}
use Rattle.script_report.specs.declared.commands.Command.{Command}
use Rattle.script_report.specs.declared.commands.Command.TheVariants.{Load, Index, Prepare, Run, Cursor, Fetch, Close}
use Rattle.script_report.specs.declared.commands.Command.TheVariants.{Evict, Show}
use Rattle.script_report.specs.declared.replies.Execution.{Execution}
use Rattle.script_report.specs.declared.replies.Reply.{Reply}
use Rattle.script_report.specs.declared.replies.Reply.TheVariants.{Evicted, Indexed, Loaded, Prepared, Ran, Refused}
use Rattle.script_report.specs.declared.replies.Reply.TheVariants.{Closed, Fetched, Opened, Shown}
use Rattle.catalog_model.specs.Catalogs.{find_statement, number_of, stats_now}
use Rattle.catalog_model.specs.Held.{holding_refusal, versions_of}
use Rattle.catalog_model.specs.Indexing.{indexing_of}
use Rattle.catalog_model.specs.Instances.{Instance, instance_of}
use Rattle.catalog_model.specs.Loading.{loading_of}
use Rattle.catalog_model.specs.Preparing.{preparing_of}
use Rattle.catalog_model.proofs.Measures.{measured, statement_found}
use Rattle.session_model.specs.Executions.{IsExecution, rows_refusal}
use Rattle.session_model.specs.Run.{Line, IsChain}
use Rattle.session_model.specs.Session.{AreSettings, IsCacheOf, IsSession}
use Rattle.session_model.specs.State.{CursorState, State, cache_at, cursor_named, held_versions, holds_of}
use Rattle.session_model.specs.State.{initial_state}
use Rattle.session_model.specs.Step.{Step, CommandStep, LoadStep, IndexStep, PrepareStep, RunStep, InstanceStep}
use Rattle.session_model.specs.Step.{CloseStep, Closes, CursorStep, EvictFrom, ExecutionStep, FetchStep, Fetches}
use Rattle.session_model.specs.Step.{OpenInstanceStep, OpenStep, Opens}
use Rattle.session_model.specs.Step.{EvictStep, ShowStep, Refuses, Loads, Indexes, Prepares, Executes}
use Rattle.session_model.specs.Step.{Evicts, Shows, present_stats, present_tables, present_vector}
use Rattle.session_model.specs.declared.settings.Settings.{Settings}
use Rattle.session_model.proofs.EachCache.{each_at}
use Rattle.session_model.proofs.Sessions.{first, kept, same_statement}
use Rattle.session_bound.specs.Bound.{AreBounded, IsBounded, IsBoundedReply, claim_in}
use Rattle.session_bound.specs.Ledger.{entered_by, ledger_after, with_execution}
use Rattle.session_bound.specs.Laws.{BoundLaw, TakesStep}
use Rattle.session_bound.proofs.Ledgers.{IsKnown, chosen_known, cleared_known, evicted_known, known_at, prepared_known}
use Rattle.session_bound.proofs.Reuses.{IsGood, IsServed, chosen_good}

-- the ledger knows each anchor of the state
abbrev pub KnownIn : List Entry → State → Type 0
KnownIn ledger state = IsKnown ledger state.caches state.executions

-- the reply is within the bound, and the ledger after it knows the anchors of the next state
pub record Answers (ledger : List Entry) (old new : State) (reply : Reply) : Type 0 where
  pub bounded : IsBoundedReply old ledger reply
  pub known : KnownIn (ledger_after old.catalog.statements reply ledger) new

answers_as : (ledger : List Entry) (old new other : State) (reply said : Reply) → reply ≡ said → new ≡ other
    → Answers ledger old other said → Answers ledger old new reply
answers_as ledger old new other reply said e f h =
    subst₂ (λ (s : State) (r : Reply). Answers ledger old s r) (sym f) (sym e) h

-- Executions.

-- the plan of an instance is within the bound
execution_good : (ledger : List Entry) (old : State) (number : ℕ) (q : Statement) (vector : List ℕ)
    (execution : Execution) (after : CacheState) (name : List ℕ) (settings : AreSettings old.settings)
    → IsServed ledger number (cache_at old.caches number) q (present_stats old q) vector old.executions
    old.settings.budget
    → (shows : IsExecution old.settings (old.executions + 1) name q (present_stats old q) vector
    (cache_at old.caches number) execution after)
    → IsGood ledger number (claim_in old q shows.plan execution)
execution_good ledger old number q vector execution after name settings served shows =
    let choice : Choice = choice_of (cache_at old.caches number) q (present_stats old q) vector old.settings.lambda
    old.settings.recosts in
    subst (λ (v : List ℕ). IsGood ledger number
    (claim_of q (present_stats old q) v old.settings.lambda shows.plan execution.cost execution.cert)) (sym shows.at)
    (chosen_good old.settings ledger number old.executions q (present_stats old q) vector (cache_at old.caches number)
    shows.plan execution after choice settings.lambda served shows.costs refl
    (choice_is (cache_at old.caches number) q (present_stats old q) vector old.settings.lambda old.settings.recosts)
    shows.chosen)

-- the cache of an instance's statement is true of it
served_by : (ledger : List Entry) (old : State) (name : List ℕ) (args : List Value) (instance : Instance) (number : ℕ)
    → IsSession old → KnownIn ledger old → instance_of old.catalog name args ≡ Ok instance
    → number_of old.catalog.statements name ≡ Some number
    → IsServed ledger number (cache_at old.caches number) instance.statement (present_stats old instance.statement)
    (present_vector old instance.statement instance.args) old.executions old.settings.budget
served_by ledger old name args instance number session known i numbered =
    let at = each_at (IsCacheOf old) name old.catalog.statements old.caches number numbered session.caches in
    let same : at.prepared.statement ≡ instance.statement =
    same_statement (find_statement old.catalog.statements name) at.prepared.statement instance.statement at.found
    (statement_found old.catalog name args instance i).0 in
    record {
      faithful = subst (λ (p : Statement). IsFaithfulCache (cache_at old.caches number) p
          (stats_now old.catalog.tables old.catalog.weights p) old.executions old.settings.budget) same
          at.has.faithful;
      sound = (measured (held_versions old.cursors) old.catalog name args instance session.catalog i).vector;
      entries = known_at ledger old.caches old.executions number known;
    }

-- what an execution is worth, and what is known after it
record IsExecuted (ledger : List Entry) (old : State) (step_number : ℕ) (cache : CacheState) (execution : Execution)
    : Type 0 where
  pub bounded : IsBounded old ledger execution
  pub known : IsKnown (with_execution old.catalog.statements execution ledger) (set old.caches step_number cache)
      (old.executions + 1)

executed_step : (ledger : List Entry) (old new : State) (name : List ℕ) (args : List Value) (instance : Instance)
    → IsSession old → KnownIn ledger old → instance_of old.catalog name args ≡ Ok instance
    → (step : ExecutionStep old name instance.statement instance.args new)
    → IsExecuted ledger old step.number step.cache step.execution
executed_step ledger old new name args instance session known i step =
    let shows = step.shows in
    let given : instance_of old.catalog name instance.args ≡ Ok instance =
    subst (λ (some : List Value). instance_of old.catalog name some ≡ Ok instance)
    (statement_found old.catalog name args instance i).1 i in
    let numbered : number_of old.catalog.statements step.execution.name ≡ Some step.number =
    ap (number_of old.catalog.statements) shows.named ∙ step.its_number in
    let good = execution_good ledger old step.number instance.statement
    (present_vector old instance.statement instance.args) step.execution step.cache name session.settings
    (served_by ledger old name args instance step.number session known i step.its_number) shows in
    record {
      bounded = record {
        statement = instance.statement;
        args = instance.args;
        instance = rw shows.named given;
        at = shows.at;
        plan = shows.plan;
        spelled = shows.spelled;
        within = good.within;
        number = step.number;
        its_number = numbered;
        accepted = good.accepted;
      };
      known = subst (λ (o : Option ℕ). IsKnown (entered_by o step.execution step.execution.cert ledger)
          (set old.caches step.number step.cache) (old.executions + 1)) (sym numbered)
          (chosen_known old.settings ledger old.caches step.number old.executions instance.statement
          (present_stats old instance.statement) (present_vector old instance.statement instance.args) shows.plan
          step.execution step.cache
          (choice_of (cache_at old.caches step.number) instance.statement (present_stats old instance.statement)
          (present_vector old instance.statement instance.args) old.settings.lambda old.settings.recosts)
          shows.numbered shows.at shows.chosen known);
    }

executed : (ledger : List Entry) (old new : State) (name : List ℕ) (args : List Value) (instance : Instance)
    (reply : Reply) → IsSession old → KnownIn ledger old → instance_of old.catalog name args ≡ Ok instance
    → Executes old name instance.statement instance.args reply new → Answers ledger old new reply
executed ledger old new name args instance reply session known i e =
    let done = executed_step ledger old new name args instance session known i e.step in
    answers_as ledger old new
    (record old { caches = set old.caches e.step.number e.step.cache; executions = old.executions + 1 })
    reply (Ran e.step.execution _) e.says e.step.keeps (record { bounded = done.bounded; known = done.known })

opened : (ledger : List Entry) (old new : State) (cursor name : List ℕ) (args : List Value) (instance : Instance)
    (reply : Reply) → IsSession old → KnownIn ledger old → instance_of old.catalog name args ≡ Ok instance
    → Opens old cursor name instance.statement instance.args reply new → Answers ledger old new reply
opened ledger old new cursor name args instance reply session known i o =
    let done = executed_step ledger old o.middle name args instance session known i o.step in
    let cursors : List CursorState = old.cursors ++ record {
      name = cursor;
      held = versions_of old.catalog.tables instance.statement;
      lines = map row_line (meaning_of instance.statement (present_tables old instance.statement) instance.args);
    } ∷ [] in
    answers_as ledger old new
    (record old {
      caches = set old.caches o.step.number o.step.cache;
      cursors = cursors;
      executions = old.executions + 1;
    })
    reply (Opened cursor o.step.execution) o.says
    (o.keeps ∙ ap (λ (s : State). let with : State = record s { cursors = cursors } in with) o.step.keeps)
    (record { bounded = done.bounded; known = done.known })

-- Steps.

by_result : {A : Type 0} (R : Type 0) (r : Result A Refusal) (P : A → Type 0) (Q : Refusal → Type 0) → MatchResult r P Q
    → ((a : A) → r ≡ Ok a → P a → R) → ((why : Refusal) → Q why → R) → R
by_result R (Ok a) P Q m ok err = ok a refl m
by_result R (Err why) P Q m ok err = err why m

by_option : {A : Type 0} (R : Type 0) (o : Option A) (P : Type 0) (Q : A → Type 0) → MatchOption o P Q → (P → R)
    → ((a : A) → Q a → R) → R
by_option R None P Q m none some = none m
by_option R (Some a) P Q m none some = some a m

refused : (ledger : List Entry) (why : Refusal) (old new : State) (reply : Reply) → KnownIn ledger old
    → Refuses why old reply new → Answers ledger old new reply
refused ledger why old new reply known r =
    answers_as ledger old new old reply (Refused why) r.says r.unchanged (record { bounded = tt; known = known })

loaded : (ledger : List Entry) (old new : State) (name : List ℕ) (file : Option (List ℕ)) (reply : Reply)
    → KnownIn ledger old → LoadStep old name file reply new → Answers ledger old new reply
loaded ledger old new name None reply known step = refused ledger _ old new reply known step
loaded ledger old new name (Some bytes) reply known step =
    by_result (Answers ledger old new reply) (loading_of (held_versions old.cursors) old.catalog name bytes)
    (λ version. Loads old name version reply new) (λ why. Refuses why old reply new) step
    (λ version e l. answers_as ledger old new _ reply (Loaded name _ _) l.says l.keeps
    (record {
      bounded = tt;
      known = cleared_known name old.catalog.statements ledger old.caches old.executions known;
    }))
    (λ why r. refused ledger why old new reply known r)

indexed : (ledger : List Entry) (old new : State) (table column : List ℕ) (reply : Reply) → KnownIn ledger old
    → IndexStep old table column reply new → Answers ledger old new reply
indexed ledger old new table column reply known step =
    by_result (Answers ledger old new reply) (indexing_of old.catalog table column)
    (λ number. Indexes old table column number reply new) (λ why. Refuses why old reply new) step
    (λ number e i. answers_as ledger old new _ reply (Indexed table column) i.says i.keeps
    (record {
      bounded = tt;
      known = cleared_known table old.catalog.statements ledger old.caches old.executions known;
    }))
    (λ why r. refused ledger why old new reply known r)

prepared : (ledger : List Entry) (old new : State) (name : List ℕ) (select : Parts) (reply : Reply)
    → KnownIn ledger old → PrepareStep old name select reply new → Answers ledger old new reply
prepared ledger old new name select reply known step =
    by_result (Answers ledger old new reply) (preparing_of old.catalog name select)
    (λ q. Prepares old name q reply new) (λ why. Refuses why old reply new) step
    (λ q e p. answers_as ledger old new _ reply (Prepared name _ _ _) p.says p.keeps
    (record { bounded = tt; known = prepared_known ledger old.caches old.executions known }))
    (λ why r. refused ledger why old new reply known r)

ran : (ledger : List Entry) (old new : State) (name : List ℕ) (args : List Value) (reply : Reply) → IsSession old
    → KnownIn ledger old → RunStep old name args reply new → Answers ledger old new reply
ran ledger old new name args reply session known step =
    by_result (Answers ledger old new reply) (instance_of old.catalog name args)
    (λ instance. InstanceStep old name instance.statement instance.args reply new)
    (λ why. Refuses why old reply new) step
    (λ instance i s. by_option (Answers ledger old new reply)
    (rows_refusal (length (meaning_of instance.statement (present_tables old instance.statement) instance.args)))
    (Executes old name instance.statement instance.args reply new)
    (λ why. Refuses why old reply new) s (executed ledger old new name args instance reply session known i)
    (λ why r. refused ledger why old new reply known r))
    (λ why r. refused ledger why old new reply known r)

cursored : (ledger : List Entry) (old new : State) (cursor name : List ℕ) (args : List Value) (reply : Reply)
    → IsSession old → KnownIn ledger old → CursorStep old cursor name args reply new → Answers ledger old new reply
cursored ledger old new cursor name args reply session known step =
    by_option (Answers ledger old new reply) (holding_refusal (holds_of old.cursors) cursor)
    (OpenStep old cursor name args reply new) (λ why. Refuses why old reply new) step
    (λ from. by_result (Answers ledger old new reply) (instance_of old.catalog name args)
    (λ instance. OpenInstanceStep old cursor name instance.statement instance.args reply new)
    (λ why. Refuses why old reply new) from
    (λ instance i s. by_option (Answers ledger old new reply)
    (rows_refusal (length (meaning_of instance.statement (present_tables old instance.statement) instance.args)))
    (Opens old cursor name instance.statement instance.args reply new)
    (λ why. Refuses why old reply new) s (opened ledger old new cursor name args instance reply session known i)
    (λ why r. refused ledger why old new reply known r))
    (λ why r. refused ledger why old new reply known r))
    (λ why r. refused ledger why old new reply known r)

fetched : (ledger : List Entry) (old new : State) (cursor : List ℕ) (count : ℕ) (reply : Reply) → KnownIn ledger old
    → FetchStep old cursor count reply new → Answers ledger old new reply
fetched ledger old new cursor count reply known step =
    by_option (Answers ledger old new reply) (cursor_named old.cursors cursor) (Refuses _ old reply new)
    (λ waiting. Fetches old cursor waiting count reply new) step (λ r. refused ledger _ old new reply known r)
    (λ waiting f. answers_as ledger old new _ reply (Fetched cursor _ _) f.says f.keeps
    (record { bounded = tt; known = known }))

closed : (ledger : List Entry) (old new : State) (cursor : List ℕ) (reply : Reply) → KnownIn ledger old
    → CloseStep old cursor reply new → Answers ledger old new reply
closed ledger old new cursor reply known step =
    by_option (Answers ledger old new reply) (cursor_named old.cursors cursor) (Refuses _ old reply new)
    (λ waiting. Closes old cursor reply new) step (λ r. refused ledger _ old new reply known r)
    (λ waiting c. answers_as ledger old new _ reply (Closed cursor) c.says c.drops
    (record { bounded = tt; known = known }))

evicted : (ledger : List Entry) (old new : State) (name : List ℕ) (plan : ℕ) (reply : Reply) → KnownIn ledger old
    → EvictStep old name plan reply new → Answers ledger old new reply
evicted ledger old new name plan reply known step =
    by_option (Answers ledger old new reply) (number_of old.catalog.statements name) (Refuses _ old reply new)
    (λ number. EvictFrom old name plan number reply new) step (λ r. refused ledger _ old new reply known r)
    (λ number from. by_option (Answers ledger old new reply) (top_numbered (cache_at old.caches number).plans plan)
    (Refuses _ old reply new) (λ top. Evicts old name number plan reply new) from
    (λ r. refused ledger _ old new reply known r)
    (λ top e. answers_as ledger old new _ reply (Evicted name plan _) e.says e.drops
    (record { bounded = tt; known = evicted_known ledger old.caches old.executions number plan known })))

shown : (ledger : List Entry) (old new : State) (name : List ℕ) (reply : Reply) → KnownIn ledger old
    → ShowStep old name reply new → Answers ledger old new reply
shown ledger old new name reply known step =
    by_option (Answers ledger old new reply) (number_of old.catalog.statements name) (Refuses _ old reply new)
    (λ number. Shows old name number reply new) step (λ r. refused ledger _ old new reply known r)
    (λ number e. answers_as ledger old new old reply (Shown name _ _) e.says e.unchanged
    (record { bounded = tt; known = known }))

command_answers : (ledger : List Entry) (old new : State) (command : Command) (file : Option (List ℕ)) (reply : Reply)
    → IsSession old → KnownIn ledger old → CommandStep old command file reply new → Answers ledger old new reply
command_answers ledger old new (Load table name) file reply session known step =
    loaded ledger old new table file reply known step
command_answers ledger old new (Index table column) file reply session known step =
    indexed ledger old new table column reply known step
command_answers ledger old new (Prepare name select) file reply session known step =
    prepared ledger old new name select reply known step
command_answers ledger old new (Run name args) file reply session known step =
    ran ledger old new name args reply session known step
command_answers ledger old new (Cursor cursor name args) file reply session known step =
    cursored ledger old new cursor name args reply session known step
command_answers ledger old new (Fetch cursor rows) file reply session known step =
    fetched ledger old new cursor rows reply known step
command_answers ledger old new (Close cursor) file reply session known step =
    closed ledger old new cursor reply known step
command_answers ledger old new (Evict name plan) file reply session known step =
    evicted ledger old new name plan reply known step
command_answers ledger old new (Show name) file reply session known step = shown ledger old new name reply known step

step_answers : (ledger : List Entry) (old : State) (reading : Reading) (file : Option (List ℕ)) (reply : Reply)
    (new : State) → IsSession old → KnownIn ledger old → Step old reading file reply new
    → Answers ledger old new reply
unfolding Step
step_answers ledger old Silent file reply new session known step = absurd step
step_answers ledger old (Says command) file reply new session known step =
    command_answers ledger old new command file reply session known step
step_answers ledger old Bad file reply new session known step = refused ledger _ old new reply known step

-- Chains.

-- each step of a relation is one step of a session, over some file
abbrev pub TakesSteps : {A : Type 0} → (A → State) → (A → Line → Reply → A → Type 0) → Type 0
TakesSteps {A = A} state Takes =
    (old : A) (line : Line) (reply : Reply) (new : A) → Takes old line reply new
    → (file : Option (List ℕ)) × Step (state old) (reading_of line.text) file reply (state new)

module _ {A : Type 0} (state : A → State) (Takes : A → Line → Reply → A → Type 0) (takes : TakesSteps state Takes) where
  -- from any state of a session, with a ledger that knows its anchors
  pub bounded_from : (ledger : List Entry) (old : A) (lines : List Line) (replies : List Reply) (new : A)
      (chain : IsChain Takes old lines replies new) → IsSession (state old) → KnownIn ledger (state old)
      → AreBounded state Takes ledger old lines replies new chain
  bounded_from ledger old [] [] new chain session known = tt
  bounded_from ledger old (line ∷ lines) (reply ∷ replies) new chain session known =
      let step = takes old line reply chain.0 chain.1 in
      let answers = step_answers ledger (state old) (reading_of line.text) step.0 reply (state chain.0) session known
      step.1 in (
        answers.bounded,
        bounded_from (ledger_after (state old).catalog.statements reply ledger) chain.0 lines replies new chain.2
            (kept (state old) line.text step.0 reply (state chain.0) session step.1) answers.known,
      )
  bounded_from ledger old [] (reply ∷ replies) new chain session known = tt
  bounded_from ledger old (line ∷ lines) [] new chain session known = tt

  -- from a first state, with an empty ledger
  pub bounded_along : (settings : Settings) → AreSettings settings → (old : A) (lines : List Line)
      (replies : List Reply) (new : A) (chain : IsChain Takes old lines replies new)
      → state old ≡ initial_state settings → AreBounded state Takes [] old lines replies new chain
  bounded_along settings are old lines replies new chain e =
      bounded_from [] old lines replies new chain (subst IsSession (sym e) (first settings are))
      (subst (KnownIn []) (sym e) (record { entries = tt; past = tt }))

pub along_steps : BoundLaw
along_steps settings are lines replies new chain =
    bounded_along (λ (state : State). state) TakesStep (λ old line reply next step. step) settings are
    (initial_state settings) lines replies new chain refl
