-- What a command line means: the job that its words ask for, or nothing.
use Rattle.std.specs.Prelude.{ℕ, ◌==◌, List, [], ◌∷◌, codes, length, Option, Some, None, unwrap_or}
use Rattle.std.specs.Prelude.{option_map, if◌then◌else◌}
use Rattle.std.specs.Str.{bytes_eq}
use Rattle.fraction_math.specs.Fraction.{Fraction}
use Rattle.command_words.specs.Jobs.{Mode, Options, Job, Run, Verify, Demo}
use Rattle.command_words.specs.Numbers.{◌>>=◌, fraction_of, number_between, is_at_most, lesser}
use Rattle.command_words.specs.Items.{Item, Value, Positional, AnyWord, items_of}

-- What the words give: at most one value for each option, and the positionals in order.
pub record Given : Type 0 where
  pub lambda : Option (List ℕ)
  pub keep : Option (List ℕ)
  pub budget : Option (List ℕ)
  pub recosts : Option (List ℕ)
  pub weights : Option (List ℕ)
  pub positionals : List (List ℕ)

-- the value that an item gives to the option of this name
abbrev pub value_in : List ℕ → Item → Option (List ℕ)
value_in name (Positional word) = None
value_in name (Value other value) = if bytes_eq other name then Some value else None

abbrev pub with_value : Option (List ℕ) → List (List ℕ) → List (List ℕ)
with_value None values = values
with_value (Some value) values = value ∷ values

-- all values that are given to the option of this name
abbrev pub values_of : List ℕ → List Item → List (List ℕ)
values_of name [] = []
values_of name (item ∷ items) = with_value (value_in name item) (values_of name items)

abbrev pub positionals_of : List Item → List (List ℕ)
positionals_of [] = []
positionals_of (Positional word ∷ items) = word ∷ positionals_of items
positionals_of (Value name value ∷ items) = positionals_of items

abbrev pub at_most_one : {A : Type 0} → List A → Option (Option A)
at_most_one [] = Some None
at_most_one (x ∷ []) = Some (Some x)
at_most_one (x ∷ y ∷ rest) = None

-- an option may be given once
abbrev pub value_of : List ℕ → List Item → Option (Option (List ℕ))
value_of name items = at_most_one (values_of name items)

abbrev pub given_of : List Item → Option Given
given_of items = do
  lambda ← value_of (codes "lambda") items
  keep ← value_of (codes "keep") items
  budget ← value_of (codes "budget") items
  recosts ← value_of (codes "recosts") items
  weights ← value_of (codes "weights") items
  Some (record {
    lambda = lambda;
    keep = keep;
    budget = budget;
    recosts = recosts;
    weights = weights;
    positionals = positionals_of items;
  })

-- a file has a name
abbrev pub file_of : List ℕ → Option (List ℕ)
file_of name = if length name == 0 then None else Some name

-- with one word behind the mode: `run SCRIPT`, or `demo NUMBER`, its number from 1 to 1000
abbrev pub mode_of_one : List ℕ → List ℕ → Option Mode
mode_of_one command subject =
    if bytes_eq command (codes "run") then option_map Run (file_of subject)
    else (if bytes_eq command (codes "demo") then option_map Demo (number_between 1 1000 subject) else None)

-- with two words behind the mode: `verify SCRIPT REPORT`
abbrev pub mode_of_two : List ℕ → List ℕ → List ℕ → Option Mode
mode_of_two command subject other = if bytes_eq command (codes "verify")
    then (file_of subject >>= λ script. option_map (Verify script) (file_of other)) else None

-- The first positional is the mode; no mode has another number of words behind it.
abbrev pub mode_of : List (List ℕ) → Option Mode
mode_of (command ∷ subject ∷ []) = mode_of_one command subject
mode_of (command ∷ subject ∷ other ∷ []) = mode_of_two command subject other
mode_of _ = None

abbrev pub one : Fraction
one = record { num = 1; den = 1 }

abbrev pub usual_keep : Fraction
usual_keep = record { num = 7; den = 5 }

-- lambda is at least 1
abbrev pub lambda_of : List ℕ → Option Fraction
lambda_of text = fraction_of text >>= λ lambda. if is_at_most one lambda then Some lambda else None

-- keep is from 1 to lambda; where it isn't given it is the lesser of 7/5 and lambda
abbrev pub keep_of : Fraction → Option (List ℕ) → Option Fraction
keep_of lambda None = Some (lesser usual_keep lambda)
keep_of lambda (Some text) = fraction_of text >>= λ keep.
    if is_at_most one keep then (if is_at_most keep lambda then Some keep else None) else None

-- the weights are those of a file only where one is named
abbrev pub weights_named : Option (List ℕ) → Option (Option (List ℕ))
weights_named None = Some None
weights_named (Some name) = option_map Some (file_of name)

-- Lambda is 2, the budget 16 and the recosts 8 where they aren't given.
abbrev pub options_of : Given → Option Options
options_of given = do
  lambda ← lambda_of (unwrap_or given.lambda (codes "2"))
  keep ← keep_of lambda given.keep
  budget ← number_between 1 256 (unwrap_or given.budget (codes "16"))
  recosts ← number_between 0 64 (unwrap_or given.recosts (codes "8"))
  weights ← weights_named given.weights
  Some (record { lambda = lambda; keep = keep; budget = budget; recosts = recosts; weights = weights })

abbrev pub job_of : Given → Option Job
job_of given = do
  mode ← mode_of given.positionals
  options ← options_of given
  Some (record { mode = mode; options = options })

-- the job that the words ask for; they come without the program's own name
abbrev pub settings_of : List (List ℕ) → Option Job
settings_of words = items_of AnyWord words >>= given_of >>= job_of
