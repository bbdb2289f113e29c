-- Lines of the demo, served one after the other. Nothing here looks into a step.
use Rattle.std.proofs.Common.{ℕ, ◌≡◌, ◌+◌, ◌∙◌, List, [], ◌∷◌, ◌++◌, Option, Some, None, Bool, true, false, codes}
use Rattle.std.proofs.Common.{length, append-nil, arith, ap, sym, subst, refl, if◌then◌else◌}
use Rattle.demo_run.specs.Counting.{Answers, Counted}
use Rattle.demo_script.specs.Summary.{Counts, counts_of}
use Rattle.demo_script.specs.Tables.{demo_files}
use Rattle.demo_run.specs.Demo.{StepOfLine}
use Rattle.demo_script.specs.Script.{show_line}
use Rattle.script_report.specs.Commands.{Reading, Says, reading_of}
use Rattle.script_report.specs.Parts.{name_part}
use Rattle.script_report.specs.declared.commands.Command.TheVariants.{Show}
use Rattle.script_report.specs.declared.replies.Reply.{Reply}
use Rattle.session_model.specs.Run.{IsChain, Line, StepOver, is_silent, spoken_from}
use Rattle.session_model.specs.State.{State}
use Rattle.session_model.specs.Step.{Step, file_of}
use Rattle.session_model.proofs.Chains.{chained}

spoken_if : (b : Bool) (l : Line) (xs ys zs : List Line) → xs ≡ ys ++ zs
    → (if b then xs else l ∷ xs) ≡ (if b then ys else l ∷ ys) ++ zs
spoken_if true l xs ys zs e = e
spoken_if false l xs ys zs e = ap (λ (ls : List Line). l ∷ ls) e

-- the spoken lines of texts and of one more
spoken_append : (n m : ℕ) (xs : List (List ℕ)) (text : List ℕ) → m ≡ n + length xs
    → spoken_from n (xs ++ text ∷ []) ≡ spoken_from n xs ++ spoken_from m (text ∷ [])
spoken_append n m [] text e =
    let same : m ≡ n = omega arith in ap (λ (k : ℕ). spoken_from k (text ∷ [])) (sym same)
spoken_append n m (x ∷ xs) text e =
    spoken_if (is_silent (reading_of x)) _ (spoken_from (n + 1) (xs ++ text ∷ [])) (spoken_from (n + 1) xs)
    (spoken_from m (text ∷ [])) (spoken_append (n + 1) m xs text (omega arith))

-- the chain of one line by its answer

abbrev OneLine : State → List Line → Option Reply → State → Type 0
OneLine old lines None new = IsChain (StepOver demo_files) old lines [] new
OneLine old lines (Some reply) new = IsChain (StepOver demo_files) old lines (reply ∷ []) new

silent_line : (old new : State) (n : ℕ) (text : List ℕ) → is_silent (reading_of text) ≡ true → new ≡ old
    → IsChain (StepOver demo_files) old (spoken_from n (text ∷ [])) [] new
silent_line old new n text e same =
    let P : Bool → Type 0 =
    λ b. IsChain (StepOver demo_files) old (if b then [] else (record { number = n; text = text }) ∷ []) [] new in
    subst P (sym e) same

spoken_line : (old new : State) (n : ℕ) (text : List ℕ) (reply : Reply) → is_silent (reading_of text) ≡ false
    → StepOver demo_files old (record { number = n; text = text }) reply new
    → IsChain (StepOver demo_files) old (spoken_from n (text ∷ [])) (reply ∷ []) new
spoken_line old new n text reply e step =
    let P : Bool → Type 0 =
    λ b. IsChain (StepOver demo_files) old
    (if b then [] else (record { number = n; text = text }) ∷ []) (reply ∷ []) new in
    subst P (sym e) (new, step, refl)

-- what was counted, and a silent line
pub counted_silent : (first old new : State) (before : List (List ℕ)) (text : List ℕ) (counts : Counts)
    (answer : Option Reply) → answer ≡ None → Answers old (reading_of text) answer new
    → Counted first before old counts → Counted first (before ++ text ∷ []) new counts
counted_silent first old new before text counts answer is answered h =
    let count : ℕ = 1 + length before in
    let answers : Answers old (reading_of text) None new =
    subst (λ (a : Option Reply). Answers old (reading_of text) a new) is answered in
    let line = silent_line old new count text answers.0 answers.1 in
    record {
      replies = h.replies ++ [];
      run = rw (spoken_append 1 count before text refl)
          (chained (StepOver demo_files) first old new _ _ h.replies [] h.run line);
      told = h.told ∙ ap counts_of (sym (append-nil h.replies));
    }

-- what was counted, and a line with its reply
pub counted_on : (first old new : State) (before : List (List ℕ)) (text : List ℕ) (counts more : Counts)
    (reply : Reply) (answer : Option Reply) → answer ≡ Some reply → Answers old (reading_of text) answer new
    → ((earlier : List Reply) → counts ≡ counts_of earlier → more ≡ counts_of (earlier ++ reply ∷ []))
    → Counted first before old counts → Counted first (before ++ text ∷ []) new more
counted_on first old new before text counts more reply answer is answered count_one h =
    let count : ℕ = 1 + length before in
    let answers : Answers old (reading_of text) (Some reply) new =
    subst (λ (a : Option Reply). Answers old (reading_of text) a new) is answered in
    let line = spoken_line old new count text reply answers.0 answers.1 in
    record {
      replies = h.replies ++ reply ∷ [];
      run = rw (spoken_append 1 count before text refl)
          (chained (StepOver demo_files) first old new _ _ h.replies (reply ∷ []) h.run line);
      told = count_one h.replies h.told;
    }

-- the line behind the script asks what the cache holds
show_read : reading_of show_line ≡ Says (Show (codes "q"))
unfolding reading_of name_part
show_read = refl

pub show_step : (old new : State) (name : List ℕ) (reply : Reply) → name ≡ codes "q"
    → Step old (Says (Show name)) (file_of demo_files (Says (Show name))) reply new
    → StepOfLine old show_line reply new
show_step old new name reply e step =
    subst (λ (reading : Reading). Step old reading (file_of demo_files reading) reply new)
    (ap (λ (text : List ℕ). Says (Show text)) e ∙ sym show_read) step
