-- What a file of weights says.
use Rattle.std.specs.Prelude.{ℕ, ◌+◌, ◌==◌, ◌&&◌, nat_le, List, codes, Bool, false, Option, Some, None, if◌then◌else◌}
use Rattle.std.specs.Prelude.{option_and_then}
use Rattle.std.specs.Str.{is_utf8}
use Rattle.serde_json.specs.Data.{Data, Members, no_members, member}
use Rattle.serde_json.specs.Find.{as_number, as_object, as_u64, get}
use Rattle.serde_json.specs.Read.{read}
use Rattle.plan_trees.specs.Reading.{◌>>=◌}
use Rattle.plan_trees.specs.declared.statistics.Weights.{Weights}

-- the JSON value of the bytes, as serde_json reads it: of equal members the last counts
unfoldable pub json_of : List ℕ → Option Data
json_of bytes = if is_utf8 bytes then read bytes else None

abbrev pub count_members : Members → ℕ
count_members no_members = 0
count_members (member name json members) = count_members members + 1

-- an object of six members
abbrev pub has_six : Option Members → Bool
has_six None = false
has_six (Some members) = count_members members == 6

-- a weight is a whole number from 1 to 1000
abbrev pub weight_from : ℕ → Option ℕ
weight_from n = if nat_le 1 n && nat_le n 1000 then Some n else None

-- the weight that a member of this name is
abbrev pub weight_in : List ℕ → Data → Option ℕ
weight_in name json = option_and_then as_u64 (option_and_then as_number (get name json)) >>= weight_from

-- Each name stands once in an object, so six members among which these six are found are these and no others.
abbrev pub weights_in : Data → Option Weights
weights_in json = if has_six (as_object json) then (do
  row ← weight_in (codes "row") json
  fetch ← weight_in (codes "fetch") json
  probe ← weight_in (codes "probe") json
  hash ← weight_in (codes "hash") json
  sort ← weight_in (codes "sort") json
  out ← weight_in (codes "out") json
  Some (record { row = row; fetch = fetch; probe = probe; hash = hash; sort = sort; out = out })) else None

-- the weights that the bytes of a file say, if they say any
abbrev pub weights_of : List ℕ → Option Weights
weights_of bytes = json_of bytes >>= weights_in

-- the weights where no file is named: a fetch and a hash weigh twice what the other kinds of work do
abbrev pub default_weights : Weights
default_weights = record { row = 1; fetch = 2; probe = 1; hash = 2; sort = 1; out = 1 }
