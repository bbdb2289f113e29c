-- The walk over the lines of a script, line by line, with the files that they ask for.
use Rattle.std.proofs.Common.{ℕ, ◌≡◌, ◌≤◌, ◌<◌, ◌+◌, ◌∙◌, List, [], ◌∷◌, ◌++◌, Option, Some, None, Result, Ok, Err}
use Rattle.std.proofs.Common.{Bor, false, true, append-nil, append_assoc, ap, arith, get_or, length, refl, subst, subst₂, sym, take}
use Rattle.std.proofs.Common.{IfOk}
use Rattle.std.specs.Option.{option_map}
use Rattle.std.specs.Str.Lines.{lines}
use Rattle.outside_model.specs.declared.TheConstants.{FILE_LIMIT}
use Rattle.outside_model.specs.Files.{Files, Told, up_to}
use Rattle.script_report.specs.Commands.{Reading, Bad, reading_of}
use Rattle.session_model.specs.Run.{Line, is_silent, spoken_from, spoken_lines}
use Rattle.session_model.specs.Step.{asks_for, file_of}
use Rattle.report_verifier.specs.Verification.{Taking, Verifies, Walks, at_end}
use Rattle.report_verifier.specs.Walk.{Step, Walk}
use Rattle.report_verifier.specs.declared.rejections.Rejection.{Rejection}
use Rattle.report_verifier.specs.declared.rejections.Verification.{Verification}
use Rattle.report_verifier.specs.declared.rejections.Verification.TheVariants.{Rejected}
use Rattle.report_verifier.specs.declared.rejections.Why.{Why}
use Rattle.report_verifier.proofs.Relations.{IsWithin, verifies_by, verifies_on, walks_by, walks_on}
use Rattle.report_verifier.proofs.Walking.{finished}
use Rattle.report_verifier.proofs.WholeFiles.{whole}
use Rattle.report_verifier.specs.Judging.{Checks}
use Rattle.report_verifier.specs.declared.rejections.Stop.{Stop}
use Rattle.report_verifier.specs.declared.rejections.Stop.TheVariants as stop
use Rattle.instance_cli.specs.Halts.{Halted, HaltedAt, halt_of, verification_by}
use Rattle.instance_cli.specs.Report.{IsMissed}
use Rattle.instance_cli.specs.Verify.{TakesLine, TakesReading}
use Rattle.instance_cli.specs.declared.outcome.Status.{Status}
use Rattle.instance_cli.specs.declared.verify.Halt.{Halt}
use Rattle.instance_cli.specs.declared.verify.Halt.TheVariants as halt
use Rattle.instance_cli.proofs.Runs.{lines_first, next_line, now_of}

-- Files.

not_missed : (o : Option (List ℕ)) (bytes : List ℕ) → option_map (up_to FILE_LIMIT) o ≡ Some bytes
    → (asked : Option (List ℕ)) (misses misses' : ℕ) → IsMissed o asked misses misses'
not_missed None bytes h asked misses misses' = absurd cc
not_missed (Some file) bytes h asked misses misses' = tt

-- a step over a file that was fetched
pub with_file : (files : Option Files) (misses misses' : ℕ) (old : Walk) (number : ℕ) (reading : Reading)
    (bytes : List ℕ) (outcome : Result Walk Why) → Step old number reading (Some bytes) outcome
    → Told files (λ told. option_map (up_to FILE_LIMIT) (file_of told reading) ≡ Some bytes)
    → TakesReading files misses misses' old number reading outcome
with_file None misses misses' old number reading bytes outcome step told =
    record { file = Some bytes; step = step; told = tt; missed = tt }
with_file (Some files) misses misses' old number reading bytes outcome step told = record {
  file = file_of files reading;
  step = whole old number reading (file_of files reading) outcome
      (subst (λ (file : Option (List ℕ)). Step old number reading file outcome) (sym told) step);
  told = refl;
  missed = not_missed (file_of files reading) bytes told (asks_for reading) misses misses';
}

-- a step over none
pub with_none : (files : Option Files) (misses misses' : ℕ) (old : Walk) (number : ℕ) (reading : Reading)
    (outcome : Result Walk Why) → Step old number reading None outcome
    → Told files (λ told. file_of told reading ≡ None) → IsMissed None (asks_for reading) misses misses'
    → TakesReading files misses misses' old number reading outcome
with_none None misses misses' old number reading outcome step told missed =
    record { file = None; step = step; told = tt; missed = missed }
with_none (Some files) misses misses' old number reading outcome step told missed =
    record { file = None; step = step; told = sym told; missed = missed }

-- A step of the verifier.

step_made : (old new : Walk) (number : ℕ) (reading : Reading) (file : Option (List ℕ))
    (result : Result (Unit {0}) Stop) → Checks old number reading file result new → result ≡ Ok tt
    → Step old number reading file (Ok new)
step_made old new number reading file (Ok done) h e = h
step_made old new number reading file (Err by) h e = absurd cc

same_stop : (a b : Stop) → (let one : Result (Unit {0}) Stop = Err a in one) ≡ Err b → a ≡ b
same_stop a b e = cc

step_stopped : (files : Option Files) (misses misses' faults faults' : ℕ) (old new : Walk) (number : ℕ)
    (reading : Reading) (file : Option (List ℕ)) (result : Result (Unit {0}) Stop) (by : Stop)
    → ((outcome : Result Walk Why) → Step old number reading file outcome
    → TakesReading files misses misses' old number reading outcome)
    → Checks old number reading file result new → result ≡ Err by
    → HaltedAt files misses misses' faults faults' old number reading (halt_of by)
step_stopped files misses misses' faults faults' old new number reading file (Ok done) by takes h e = absurd cc
step_stopped files misses misses' faults faults' old new number reading file (Err (stop.Rejected rejection)) by takes h
    e =
    subst (λ (s : Stop). HaltedAt files misses misses' faults faults' old number reading (halt_of s))
    (same_stop (stop.Rejected rejection) by e) (h.0, takes (Err rejection.why) h.1)
step_stopped files misses misses' faults faults' old new number reading file (Err stop.Memory) by takes h e =
    subst (λ (s : Stop). HaltedAt files misses misses' faults faults' old number reading (halt_of s))
    (same_stop stop.Memory by e) tt

module _ (files : Option Files) (misses misses' : ℕ) (old new : Walk) (number : ℕ) (reading : Reading)
    (result : Result (Unit {0}) Stop) where
  pub file_made : (bytes : List ℕ) → Checks old number reading (Some bytes) result new → result ≡ Ok tt
      → Told files (λ told. option_map (up_to FILE_LIMIT) (file_of told reading) ≡ Some bytes)
      → TakesReading files misses misses' old number reading (Ok new)
  file_made bytes h e told =
      with_file files misses misses' old number reading bytes (Ok new)
      (step_made old new number reading (Some bytes) result h e) told

  pub none_made : Checks old number reading None result new → result ≡ Ok tt
      → Told files (λ told. file_of told reading ≡ None) → IsMissed None (asks_for reading) misses misses'
      → TakesReading files misses misses' old number reading (Ok new)
  none_made h e told missed =
      with_none files misses misses' old number reading (Ok new) (step_made old new number reading None result h e)
      told missed

  pub file_stopped : (faults faults' : ℕ) (by : Stop) (bytes : List ℕ)
      → Checks old number reading (Some bytes) result new → result ≡ Err by
      → Told files (λ told. option_map (up_to FILE_LIMIT) (file_of told reading) ≡ Some bytes)
      → HaltedAt files misses misses' faults faults' old number reading (halt_of by)
  file_stopped faults faults' by bytes h e told =
      step_stopped files misses misses' faults faults' old new number reading (Some bytes) result by
      (λ outcome step. with_file files misses misses' old number reading bytes outcome step told) h e

  pub none_stopped : (faults faults' : ℕ) (by : Stop) → Checks old number reading None result new → result ≡ Err by
      → Told files (λ told. file_of told reading ≡ None) → IsMissed None (asks_for reading) misses misses'
      → HaltedAt files misses misses' faults faults' old number reading (halt_of by)
  none_stopped faults faults' by h e told missed =
      step_stopped files misses misses' faults faults' old new number reading None result by
      (λ outcome step. with_none files misses misses' old number reading outcome step told missed) h e

missed_longer : (file asked : Option (List ℕ)) (m m' n n' : ℕ) → n ≤ m → m' ≤ n' → IsMissed file asked m m'
    → IsMissed file asked n n'
missed_longer (Some bytes) asked m m' n n' a b h = tt
missed_longer None None m m' n n' a b h = tt
missed_longer None (Some name) m m' n n' a b h = omega arith

-- the same where misses are counted from before and to later
pub takes_longer : (files : Option Files) (m m' n n' : ℕ) → n ≤ m → m' ≤ n'
    → IsWithin (TakesLine files m m') (TakesLine files n n')
takes_longer files m m' n n' a b old line outcome t = record {
  file = t.file;
  step = t.step;
  told = t.told;
  missed = missed_longer t.file (asks_for (reading_of line.text)) m m' n n' a b t.missed;
}

-- One line.

abbrev line_at : ℕ → List ℕ → Line
line_at number text = record { number = number; text = text }

-- a line that says something
pub one_walked : (files : Option Files) (misses misses' : ℕ) (old new : Walk) (number : ℕ) (text : List ℕ)
    → is_silent (reading_of text) ≡ false
    → TakesReading files misses misses' old number (reading_of text) (Ok new)
    → Walks (TakesLine files misses misses') old (spoken_from number (text ∷ [])) new
one_walked files misses misses' old new number text spoken taken = rw spoken (new, taken, refl)

pub silent_walked : (files : Option Files) (misses misses' : ℕ) (old : Walk) (number : ℕ) (text : List ℕ)
    → is_silent (reading_of text) ≡ true
    → Walks (TakesLine files misses misses') old (spoken_from number (text ∷ [])) old
silent_walked files misses misses' old number text silent = rw silent refl

-- a line that is none of the language
bad_taken : (files : Option Files) (misses misses' : ℕ) (old : Walk) (number : ℕ)
    → TakesReading files misses misses' old number Bad (Ok old)
unfolding Step
bad_taken None misses misses' old number = record { file = None; step = refl; told = tt; missed = tt }
bad_taken (Some files) misses misses' old number = record { file = None; step = refl; told = refl; missed = tt }

pub bad_walked : (files : Option Files) (misses misses' : ℕ) (old : Walk) (number : ℕ) (text : List ℕ)
    → reading_of text ≡ Bad → Walks (TakesLine files misses misses') old (spoken_from number (text ∷ [])) old
bad_walked files misses misses' old number text bad =
    one_walked files misses misses' old old number text (ap is_silent bad)
    (subst (λ (r : Reading). TakesReading files misses misses' old number r (Ok old)) (sym bad)
    (bad_taken files misses misses' old number))

rejected_by : (files : Option Files) (misses misses' : ℕ) (old : Walk) (number : ℕ) (text : List ℕ)
    (rejection : Rejection) (others : List Line) → rejection.line ≡ number
    → TakesReading files misses misses' old number (reading_of text) (Err rejection.why)
    → Verifies (TakesLine files misses misses') old (line_at number text ∷ others) (Rejected rejection)
rejected_by files misses misses' old number text rejection others at taken = (
  Err rejection.why,
  taken,
  ap (λ (n : ℕ). let r : Rejection = record { line = n; why = rejection.why } in Rejected r)
      at,
)

-- a line that stops the walk
pub one_halted : (files : Option Files) (misses misses' faults faults' : ℕ) (old : Walk) (number : ℕ) (text : List ℕ)
    (by : Halt) → is_silent (reading_of text) ≡ false
    → HaltedAt files misses misses' faults faults' old number (reading_of text) by
    → Halted (TakesLine files misses misses') faults faults' old (spoken_from number (text ∷ [])) by
one_halted files misses misses' faults faults' old number text (halt.Rejected rejection) spoken h =
    λ others. rw spoken (rejected_by files misses misses' old number text rejection others h.0 h.1)
one_halted files misses misses' faults faults' old number text halt.ReadFault spoken h = h
one_halted files misses misses' faults faults' old number text halt.Memory spoken h = h

-- Lines.

pub walked_next : (files seen : Option Files) (m m' n' : ℕ) (ls : List (Bor (List ℕ))) (i : ℕ) (d : Bor (List ℕ))
    (old middle new : Walk) → i < length ls → seen ≡ files → m ≤ m' → m' ≤ n'
    → Walks (TakesLine files m m') old (spoken_from 1 (now_of (take i ls))) middle
    → Walks (TakesLine seen m' n') middle (spoken_from (i + 1) ((get_or ls i d).now ∷ [])) new
    → Walks (TakesLine files m n') old (spoken_from 1 (now_of (take (i + 1) ls))) new
walked_next files seen m m' n' ls i d old middle new lt same a b h k =
    let before : Walks (TakesLine files m n') old (spoken_from 1 (now_of (take i ls))) middle =
    walks_by (TakesLine files m m') (TakesLine files m n') (takes_longer files m m' m n' (omega arith) b) old middle
    (spoken_from 1 (now_of (take i ls))) h in
    let here : Walks (TakesLine files m' n') middle (spoken_from (i + 1) ((get_or ls i d).now ∷ [])) new =
    subst (λ (f : Option Files). Walks (TakesLine f m' n') middle (spoken_from (i + 1) ((get_or ls i d).now ∷ [])) new)
    same k in
    rw (next_line ls i d lt)
    (walks_on (TakesLine files m n') old middle new (spoken_from 1 (now_of (take i ls)))
    (spoken_from (i + 1) ((get_or ls i d).now ∷ [])) before
    (walks_by (TakesLine files m' n') (TakesLine files m n') (takes_longer files m' n' m n' a (omega arith)) middle new
    (spoken_from (i + 1) ((get_or ls i d).now ∷ [])) here))

-- the lines up to here, this one, and all that come behind it
split_at : (ls : List (Bor (List ℕ))) (i : ℕ) (d : Bor (List ℕ)) → i < length ls → (others : List Line)
    → (rest : List Line) × (spoken_from 1 (now_of ls) ++ others
    ≡ spoken_from 1 (now_of (take i ls)) ++ (spoken_from (i + 1) ((get_or ls i d).now ∷ []) ++ rest))
split_at ls i d lt others =
    let all = lines_first ls (i + 1) in
    let before : List Line = spoken_from 1 (now_of (take i ls)) in
    let here : List Line = spoken_from (i + 1) ((get_or ls i d).now ∷ []) in (
      all.0 ++ others,
      ap (λ (l : List Line). l ++ others) (all.1 ∙ ap (λ (l : List Line). l ++ all.0) (next_line ls i d lt))
          ∙ append_assoc (before ++ here) all.0 others ∙ append_assoc before here (all.0 ++ others),
    )

pub halted_next : (files seen : Option Files) (m m' n' faults faults' faults'' : ℕ) (ls : List (Bor (List ℕ))) (i : ℕ)
    (d : Bor (List ℕ)) (old middle : Walk) (by : Halt) → i < length ls → seen ≡ files → m ≤ m' → m' ≤ n'
    → faults ≤ faults' → Walks (TakesLine files m m') old (spoken_from 1 (now_of (take i ls))) middle
    → Halted (TakesLine seen m' n') faults' faults'' middle (spoken_from (i + 1) ((get_or ls i d).now ∷ [])) by
    → Halted (TakesLine files m n') faults faults'' old (spoken_from 1 (now_of ls)) by
halted_next files seen m m' n' faults faults' faults'' ls i d old middle (halt.Rejected rejection) lt same a b c h k =
    λ others.
    let parts = split_at ls i d lt others in
    let here : List Line = spoken_from (i + 1) ((get_or ls i d).now ∷ []) in
    let before : Walks (TakesLine files m n') old (spoken_from 1 (now_of (take i ls))) middle =
    walks_by (TakesLine files m m') (TakesLine files m n') (takes_longer files m m' m n' (omega arith) b) old middle
    (spoken_from 1 (now_of (take i ls))) h in
    let stop : Verifies (TakesLine files m' n') middle (here ++ parts.0) (Rejected rejection) =
    subst (λ (f : Option Files). Verifies (TakesLine f m' n') middle (here ++ parts.0) (Rejected rejection)) same
    (k parts.0) in
    rw parts.1
    (verifies_on (TakesLine files m n') old middle (spoken_from 1 (now_of (take i ls))) (here ++ parts.0)
    (Rejected rejection) before
    (verifies_by (TakesLine files m' n') (TakesLine files m n') (takes_longer files m' n' m n' a (omega arith)) middle
    (here ++ parts.0) (Rejected rejection) stop))
halted_next files seen m m' n' faults faults' faults'' ls i d old middle halt.ReadFault lt same a b c h k = omega arith
halted_next files seen m m' n' faults faults' faults'' ls i d old middle halt.Memory lt same a b c h k = tt

-- lines that turn the report down, and no more
pub rejected_all : (Takes : Taking) (faults faults' : ℕ) (old : Walk) (lines : List Line) (rejection : Rejection)
    → Halted Takes faults faults' old lines (halt.Rejected rejection)
    → Verifies Takes old lines (Rejected rejection)
rejected_all Takes faults faults' old lines rejection h =
    subst (λ (ls : List Line). Verifies Takes old ls (Rejected rejection)) (append-nil lines) (h [])

-- The end.

-- the walk over the lines of a script that came to its end
pub walk_ended : (Takes : Taking) (start first end : Walk) (texts : List (List ℕ)) (script : List ℕ)
    (v : Verification) → first ≡ start → texts ≡ lines script → Walks Takes first (spoken_from 1 texts) end
    → v ≡ at_end end → Verifies Takes start (spoken_lines script) v
walk_ended Takes start first end texts script v begins same h ends =
    subst (Verifies Takes start (spoken_lines script)) (sym ends)
    (finished Takes start end (spoken_lines script)
    (subst₂ (λ (w : Walk) (ts : List (List ℕ)). Walks Takes w (spoken_from 1 ts) end) begins same h))

-- and one that was stopped
pub walk_stopped : (Takes : Taking) (faults faults' : ℕ) (start first : Walk) (texts : List (List ℕ))
    (script : List ℕ) (by : Halt) (result : Result Verification Status) → result ≡ verification_by by → first ≡ start
    → texts ≡ lines script → Halted Takes faults faults' first (spoken_from 1 texts) by
    → IfOk result (Verifies Takes start (spoken_lines script))
walk_stopped Takes faults faults' start first texts script by result is begins same h =
    subst (λ (r : Result Verification Status). IfOk r (Verifies Takes start (spoken_lines script))) (sym is)
    (told by (subst₂ (λ (w : Walk) (ts : List (List ℕ)). Halted Takes faults faults' w (spoken_from 1 ts) by) begins
    same h))
  where
    told : (b : Halt) → Halted Takes faults faults' start (spoken_lines script) b
        → IfOk (verification_by b) (Verifies Takes start (spoken_lines script))
    told (halt.Rejected rejection) h =
        rejected_all Takes faults faults' start (spoken_lines script) rejection h
    told halt.ReadFault h = tt
    told halt.Memory h = tt
