-- The words in the one form that clap is given, and what clap finds in it.
use Rattle.std.specs.Prelude.{ℕ, ◌≡◌, ◌++◌, List, [], ◌∷◌, codes, true, Option, Some, None, unwrap_or}
use Rattle.clap.specs.Words.{App, Row, Rule, first_of, matches_of, new_app, new_rule, takes, with_rule}
use Rattle.clap.specs.Simple.{on_top}
use Rattle.command_words.specs.Jobs.{Mode, Options, Job}
use Rattle.command_words.specs.Numbers.{◌>>=◌, number_between}
use Rattle.command_words.specs.Settings.{Given, keep_of, lambda_of, mode_of_one, mode_of_two, weights_named}

-- The words that are given to clap: options that are given or have a default, and two positionals or three.
pub record Plain : Type 0 where
  pub lambda : List ℕ
  pub keep : Option (List ℕ)
  pub budget : List ℕ
  pub recosts : List ℕ
  pub weights : Option (List ℕ)
  pub command : List ℕ
  pub subject : List ℕ
  pub other : Option (List ℕ)

-- the defaults filled in
abbrev pub filled : Given → List ℕ → List ℕ → Option (List ℕ) → Plain
filled given command subject other = record {
  lambda = unwrap_or given.lambda (codes "2");
  keep = given.keep;
  budget = unwrap_or given.budget (codes "16");
  recosts = unwrap_or given.recosts (codes "8");
  weights = given.weights;
  command = command;
  subject = subject;
  other = other;
}

-- an option and its value as one word
abbrev pub attached : List ℕ → List ℕ → List ℕ
attached name value = codes "--" ++ (name ++ (codes "=" ++ value))

abbrev pub attached_if : List ℕ → Option (List ℕ) → List (List ℕ)
attached_if name None = []
attached_if name (Some value) = attached name value ∷ []

abbrev pub words_if : Option (List ℕ) → List (List ℕ)
words_if None = []
words_if (Some word) = word ∷ []

-- options first, then `--`, then positionals
abbrev pub normal_form : Plain → List (List ℕ)
normal_form plain = attached_if (codes "lambda") (Some plain.lambda) ++ attached_if (codes "keep") plain.keep
    ++ attached_if (codes "budget") (Some plain.budget) ++ attached_if (codes "recosts") (Some plain.recosts)
    ++ attached_if (codes "weights") plain.weights ++ words_if (Some (codes "--")) ++ words_if (Some plain.command)
    ++ words_if (Some plain.subject) ++ words_if plain.other

-- clap's own description of the command: three positionals and five options
abbrev pub option_rule : List ℕ → Rule
option_rule name = record (new_rule name) { long = Some name }

abbrev pub bare_app : App
bare_app = on_top (λ s. record s { no_binary_name = true; disable_help_flag = true; disable_version_flag = true })
    (new_app (codes "scr"))

abbrev pub positionals_app : App
positionals_app = with_rule (with_rule (with_rule bare_app (new_rule (codes "command"))) (new_rule (codes "subject")))
    (new_rule (codes "other"))

abbrev pub scr_app : App
scr_app = with_rule (with_rule (with_rule (with_rule (with_rule positionals_app
    (option_rule (codes "lambda"))) (option_rule (codes "keep"))) (option_rule (codes "budget")))
    (option_rule (codes "recosts"))) (option_rule (codes "weights"))

-- what clap finds for each of its names
pub record Found : Type 0 where
  pub lambda : Option (List ℕ)
  pub keep : Option (List ℕ)
  pub budget : Option (List ℕ)
  pub recosts : Option (List ℕ)
  pub weights : Option (List ℕ)
  pub command : Option (List ℕ)
  pub subject : Option (List ℕ)
  pub other : Option (List ℕ)

abbrev pub found_in : List Row → Found
found_in rows = record {
  lambda = first_of (codes "lambda") rows;
  keep = first_of (codes "keep") rows;
  budget = first_of (codes "budget") rows;
  recosts = first_of (codes "recosts") rows;
  weights = first_of (codes "weights") rows;
  command = first_of (codes "command") rows;
  subject = first_of (codes "subject") rows;
  other = first_of (codes "other") rows;
}

-- what clap finds in the words
unfoldable pub found_by_clap : List (List ℕ) → Found
found_by_clap words = found_in (matches_of scr_app words)

-- clap takes the words: it fails for want of memory alone
unfoldable pub IsTaken : List (List ℕ) → Type 0
IsTaken words = takes scr_app words ≡ true

-- what the normal form is made of
abbrev pub plainly : Plain → Found
plainly plain = record {
  lambda = Some plain.lambda;
  keep = plain.keep;
  budget = Some plain.budget;
  recosts = Some plain.recosts;
  weights = plain.weights;
  command = Some plain.command;
  subject = Some plain.subject;
  other = plain.other;
}

-- the job that what was found asks for
abbrev pub mode_found : Option (List ℕ) → Option (List ℕ) → Option (List ℕ) → Option Mode
mode_found (Some command) (Some subject) None = mode_of_one command subject
mode_found (Some command) (Some subject) (Some other) = mode_of_two command subject other
mode_found _ _ _ = None

abbrev pub options_found : Found → Option Options
options_found found = do
  lambda ← found.lambda >>= lambda_of
  keep ← keep_of lambda found.keep
  budget ← found.budget >>= number_between 1 256
  recosts ← found.recosts >>= number_between 0 64
  weights ← weights_named found.weights
  Some (record { lambda = lambda; keep = keep; budget = budget; recosts = recosts; weights = weights })

abbrev pub job_found : Found → Option Job
job_found found = do
  mode ← mode_found found.command found.subject found.other
  options ← options_found found
  Some (record { mode = mode; options = options })
