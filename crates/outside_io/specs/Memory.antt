-- Shelves and sinks in memory as plain values: the bytes under a name, the calls that fail, and what a call leaves.
use Rattle.std.specs.Prelude.{ℕ, ◌≡◌, ◌≢◌, ◌==◌, Bool, if◌then◌else◌, List, [], ◌∷◌, ◌++◌, take, Option, Some, None}
use Rattle.std.specs.List.{find, list_any}
use Rattle.std.specs.Option.{option_map}
use Rattle.std.specs.Str.{bytes_eq}
use Rattle.outside_io.specs.Calls.{one_more, faults_after, misses_after, faults_after_put}
use Rattle.outside_io.specs.declared.Fetched.{Fetched}
use Rattle.outside_io.specs.declared.memory.FailingPut.{FailingPut}
use Rattle.outside_io.specs.declared.Put.{Put}
use Rattle.outside_io.specs.declared.Put.TheVariants as put

-- a file and its name
pub record Named : Type 0 where
  pub name : List ℕ
  pub bytes : List ℕ

-- a shelf in memory
pub record ShelfInMemory : Type 0 where
  pub files : List Named
  pub failing : List ℕ
  pub calls : ℕ
  pub faults : ℕ
  pub misses : ℕ

-- a shelf in memory that never fails
pub record SureFiles : Type 0 where
  pub files : List Named
  pub misses : ℕ

-- a sink in memory
pub record SinkInMemory : Type 0 where
  pub taken : List ℕ
  pub failing : List FailingPut
  pub calls : ℕ
  pub faults : ℕ

-- whether a file has this name
abbrev pub has_name : List ℕ → Named → Bool
has_name name file = bytes_eq file.name name

-- the bytes that stand under a name
abbrev pub bytes_at : List Named → List ℕ → Option (List ℕ)
bytes_at files name = option_map (λ file. file.bytes) (find (has_name name) files)

-- each other name has the bytes that it had
abbrev pub KeepsOthers : List Named → List Named → List ℕ → Type 0
KeepsOthers old new name = (other : List ℕ) → other ≢ name → bytes_at new other ≡ bytes_at old other

-- whether this call is to fail
abbrev pub fails_at : List ℕ → ℕ → Bool
fails_at failing call = list_any (λ failing_call. failing_call == call) failing

-- a shelf after a fetch that answered this
abbrev pub after_fetch : ShelfInMemory → Fetched → ShelfInMemory
after_fetch shelf result = record shelf {
  calls = one_more shelf.calls;
  faults = faults_after shelf.faults result;
  misses = misses_after shelf.misses result;
}

-- how many bytes this put takes before it fails, where it is to fail: what was set last counts
abbrev pub takes_at : List FailingPut → ℕ → Option ℕ
takes_at [] call = None
takes_at (one ∷ earlier) call = if one.call == call then Some one.takes else takes_at earlier call

-- a put that takes this many bytes before it fails, or is not to fail, answers this and leaves these bytes
abbrev pub Ends : Option ℕ → List ℕ → List ℕ → Put → List ℕ → Type 0
Ends None old bytes put.Whole new = new ≡ old ++ bytes
Ends None old bytes put.Failed new = ⊥
Ends (Some count) old bytes put.Whole new = ⊥
Ends (Some count) old bytes put.Failed new = new ≡ old ++ take count bytes
Ends end old bytes put.Memory new = new ≡ old

-- a put into memory: it fails exactly where it is to fail, unless memory is short
pub record PutsInMemory (old new : SinkInMemory) (result : Put) (bytes : List ℕ) : Type 0 where
  pub ends : Ends (takes_at old.failing (one_more old.calls)) old.taken bytes result new.taken
  pub counted : new.calls ≡ one_more old.calls
  pub faults : new.faults ≡ faults_after_put old.faults result
  pub failing : new.failing ≡ old.failing
