-- What a command line asks the program to do.
use Rattle.std.specs.Prelude.{ℕ, ◌*◌, ◌≤◌, List, Option}
use Rattle.fraction_math.specs.Fraction.{Fraction}

-- run a script; verify a report of a script; run the example of this number. Names of files are lists of bytes.
pub data Mode : Type 0 where
  Run : (script : List ℕ) → Mode
  Verify : (script report : List ℕ) → Mode
  Demo : (number : ℕ) → Mode

-- the bound on cost, and the one under which a plan is kept; how many plans a cache holds, and how many are costed
-- anew before one is searched for; the file of the weights, where one is named
pub record Options : Type 0 where
  pub lambda : Fraction
  pub keep : Fraction
  pub budget : ℕ
  pub recosts : ℕ
  pub weights : Option (List ℕ)

-- lambda is at least 1, keep lies between 1 and lambda, and the numbers are within their limits
pub record AreInBounds (options : Options) : Type 0 where
  pub lambda : options.lambda.den ≤ options.lambda.num
  pub keep : options.keep.den ≤ options.keep.num
  pub keep_within : options.keep.num * options.lambda.den ≤ options.lambda.num * options.keep.den
  pub some_plans : 1 ≤ options.budget
  pub few_plans : options.budget ≤ 256
  pub few_recosts : options.recosts ≤ 64

pub record Job : Type 0 where
  pub mode : Mode
  pub options : Options

-- an example has a number from 1 to 1000
abbrev pub IsNumbered : Mode → Type 0
IsNumbered (Run script) = Unit {0}
IsNumbered (Verify script report) = Unit {0}
IsNumbered (Demo number) = (1 ≤ number) × (number ≤ 1000)

-- what holds of every job that words ask for
pub record IsJob (job : Job) : Type 0 where
  pub mode : IsNumbered job.mode
  pub options : AreInBounds job.options
