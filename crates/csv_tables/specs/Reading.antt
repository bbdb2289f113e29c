-- The records of a file, as the crate `csv` reads them.
use Rattle.std.specs.Prelude.{◌≡◌, ◌+◌, ℕ, Bool, false, List, [], length, Option, None, Some, if◌then◌else◌}
use Rattle.std.specs.Borrow.{Bor}
use Rattle.csv.specs.Machine.{ends_at_end}
use Rattle.csv.specs.Reading.{Ready, default_config, records, records_from, source_of, strip_bom}
use Rattle.csv.specs.declared.parser.State.{State}
use Rattle.csv.specs.declared.reader.Reader.{Reader}
use Rattle.csv.specs.declared.reader.Trim.TheVariants as trim

-- the records of a file: a byte order mark at its start is taken off, then `csv` reads with its defaults
abbrev pub records_of : List ℕ → List (List (List ℕ))
records_of bytes = records default_config (strip_bom bytes)

-- the bytes that a reader of bytes in memory has left, unless it has failed
abbrev pub bytes_left : Reader (Bor (List ℕ)) → Option (List ℕ)
bytes_left reader = source_of (λ bytes. Some bytes.now) reader

-- the records of the bytes that are left, if any are known
abbrev pub records_in : State → Option (List ℕ) → List (List (List ℕ))
records_in state None = []
records_in state (Some bytes) = records_from default_config (length bytes + 1) state bytes

-- the records that a reader still gives
abbrev pub records_left : Bool → Reader (Bor (List ℕ)) → List (List (List ℕ))
records_left ended reader = if ended then [] else records_in reader.state (bytes_left reader)

-- how a reader of records is set up, and that it stands between two of them, and what it reads next
pub record IsBetween (reader : Reader (Bor (List ℕ))) : Type 0 where
  pub config : reader.config ≡ default_config
  pub trim : reader.trim ≡ trim.None
  pub ready : Ready reader
  pub between : ends_at_end reader.state ≡ false
  pub bytes : List ℕ
  pub known : bytes_left reader ≡ Some bytes
