-- What the calls of a shelf and of a sink promise, over plain values.
use Rattle.std.specs.Prelude.{ℕ, ◌≡◌, ◌≢◌, ◌+◌, ◌≤◌, min, List, [], ◌++◌, length, take, Option, Some, None}
use Rattle.outside_model.specs.Causes.{Rose, last_count}
use Rattle.outside_model.specs.Files.{Files, Told, up_to}
use Rattle.outside_io.specs.declared.Fetched.{Fetched}
use Rattle.outside_io.specs.declared.Fetched.TheVariants as fetched
use Rattle.outside_io.specs.declared.Put.{Put}
use Rattle.outside_io.specs.declared.Put.TheVariants as put

-- what is got of a name among these files: memory is asked for only once the file is known to be there
abbrev pub Gives : Files → List ℕ → ℕ → Fetched → List ℕ → Type 0
Gives files name limit fetched.Got into = (bytes : List ℕ) × (files name ≡ Some bytes) × (into ≡ up_to limit bytes)
Gives files name limit fetched.Missing into = files name ≡ None
Gives files name limit fetched.Failed into = Unit {0}
Gives files name limit fetched.Memory into = (bytes : List ℕ) × (files name ≡ Some bytes)

-- a fetch: the bytes of a file that is there, and each other answer with its cause
pub record Fetches (files : Option Files) (name : List ℕ) (limit : ℕ) (old_faults new_faults old_misses new_misses : ℕ)
    (result : Fetched) (into : List ℕ) : Type 0 where
  pub gives : Told files (λ told. Gives told name limit result into)
  pub long : length into ≤ limit + 1
  pub empty : result ≢ fetched.Got → into ≡ []
  pub faults : old_faults ≤ new_faults
  pub misses : old_misses ≤ new_misses
  pub failed : result ≡ fetched.Failed → Rose old_faults new_faults
  pub missing : result ≡ fetched.Missing → Rose old_misses new_misses

-- the count after one more, which stays at its end
abbrev pub one_more : ℕ → ℕ
one_more count = min (count + 1) last_count

-- the count of misses after a fetch that answered this
abbrev pub misses_after : ℕ → Fetched → ℕ
misses_after misses fetched.Got = misses
misses_after misses fetched.Missing = one_more misses
misses_after misses fetched.Failed = misses
misses_after misses fetched.Memory = misses

-- the count of faults after a fetch that answered this
abbrev pub faults_after : ℕ → Fetched → ℕ
faults_after faults fetched.Got = faults
faults_after faults fetched.Missing = faults
faults_after faults fetched.Failed = one_more faults
faults_after faults fetched.Memory = faults

-- what is taken after a put of these bytes
abbrev pub Takes : List ℕ → Put → List ℕ → List ℕ → Type 0
Takes old put.Whole bytes new = new ≡ old ++ bytes
Takes old put.Failed bytes new = (count : ℕ) × (new ≡ old ++ take count bytes)
Takes old put.Memory bytes new = new ≡ old

-- a put as far as what was taken is told; it is told then as before
abbrev pub TakesTold : Option (List ℕ) → Option (List ℕ) → Put → List ℕ → Type 0
TakesTold old_taken new_taken result bytes =
    Told old_taken (λ old. (new : List ℕ) × (new_taken ≡ Some new) × Takes old result bytes new)

-- the count of faults after a put that answered this
abbrev pub faults_after_put : ℕ → Put → ℕ
faults_after_put faults put.Whole = faults
faults_after_put faults put.Failed = one_more faults
faults_after_put faults put.Memory = faults

-- a put: the bytes behind those before, and a failure with its cause
pub record Puts (old_taken new_taken : Option (List ℕ)) (old_faults new_faults : ℕ) (result : Put)
    (bytes : List ℕ) : Type 0 where
  pub takes : TakesTold old_taken new_taken result bytes
  pub faults : old_faults ≤ new_faults
  pub failed : result ≡ put.Failed → Rose old_faults new_faults
