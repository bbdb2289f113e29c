-- Texts: a script, and a report that is verified. Where a text isn't there or is none, the answer has its cause.
use Rattle.std.specs.Prelude.{ℕ, ◌≡◌, ◌≤◌, ◌<◌, ◌==◌, nat_lt, not, List, length, slice_index, drop}
use Rattle.std.specs.Prelude.{if◌then◌else◌, Option, Some, None}
use Rattle.std.specs.Str.{IsUtf8}
use Rattle.outside_model.specs.Causes.{Rose}
use Rattle.outside_model.specs.Files.{Files, Told}
use Rattle.outside_model.specs.Outside.{Outside}
use Rattle.instance_cli.specs.declared.outcome.Status.{Status}
use Rattle.instance_cli.specs.declared.outcome.Status.TheVariants as status

-- the bytes without the byte order mark EF BB BF in front
abbrev pub unmarked : List ℕ → List ℕ
unmarked bytes =
    if nat_lt (length bytes) 3 then bytes else
    if not (slice_index bytes 0 == 239) then bytes else
    if not (slice_index bytes 1 == 187) then bytes else
    if not (slice_index bytes 2 == 191) then bytes else drop 3 bytes

-- the bytes are within this limit, and a text
pub record IsText (limit : ℕ) (bytes : List ℕ) : Type 0 where
  pub short : length bytes ≤ limit
  pub utf8 : IsUtf8 (unmarked bytes)

-- the file of this name was read: it is what the files have, where they are told, and this holds of its bytes
abbrev pub OfFile : List ℕ → Option Files → (List ℕ → Type 0) → Type 0
OfFile name files P = (bytes : List ℕ) × Told files (λ told. told name ≡ Some bytes) × P bytes

-- the same of a file that may have been read in part alone, where the files are told
abbrev pub OfToldFile : List ℕ → Option Files → (List ℕ → Type 0) → Type 0
OfToldFile name files P = Told files (λ told. (bytes : List ℕ) × (told name ≡ Some bytes) × P bytes)

-- the file of this name was read, and is a text within this limit
abbrev pub OfText : ℕ → List ℕ → Option Files → (List ℕ → Type 0) → Type 0
OfText limit name files P = OfFile name files (λ bytes. IsText limit bytes × P (unmarked bytes))

-- what a job may end with that lacks a text
abbrev pub IsWithoutText : Status → Type 0
IsWithoutText status.Missing = Unit {0}
IsWithoutText status.ReadFault = Unit {0}
IsWithoutText status.Memory = Unit {0}
IsWithoutText status.TooLong = Unit {0}
IsWithoutText status.NotText = Unit {0}
IsWithoutText other = ⊥

-- the file of a text wasn't read, or is none: of the files, and the shelf's faults and misses before and after
pub record LacksText (limit : ℕ) (name : List ℕ) (files : Option Files) (faults faults' misses misses' : ℕ)
    (result : Status) : Type 0 where
  pub one_of : IsWithoutText result
  -- with status 3 it isn't there, and the shelf missed it; with status 4 the shelf failed
  pub missing : result ≡ status.Missing → Told files (λ told. told name ≡ None) × Rose misses misses'
  pub read_fault : result ≡ status.ReadFault → Rose faults faults'
  -- with status 7 it is above the limit, with status 8 it isn't, and is no text
  pub too_long : result ≡ status.TooLong → OfToldFile name files (λ bytes. limit < length bytes)
  pub not_text : result ≡ status.NotText →
      OfToldFile name files (λ bytes. (length bytes ≤ limit) × ¬ IsUtf8 (unmarked bytes))

-- then nothing was taken
abbrev pub EndsWithoutText : ℕ → List ℕ → Outside → Outside → Status → Type 0
EndsWithoutText limit name before after result =
    LacksText limit name before.files before.faults after.faults before.misses after.misses result
    × (after.taken ≡ before.taken)
