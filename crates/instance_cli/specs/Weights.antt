-- What is answered to the bytes of a file that says no weights.
use Rattle.std.specs.Prelude.{ℕ, ◌≡◌, ◌≤◌, ◌<◌, List, length, None}
use Rattle.weights_file.specs.Files.{weights_of}
use Rattle.weights_file.specs.declared.TheConstants.{WEIGHTS_LIMIT}
use Rattle.instance_cli.specs.declared.outcome.Status.{Status}
use Rattle.instance_cli.specs.declared.outcome.Status.TheVariants as status

-- they are too many, or say none; or memory was short
abbrev pub SaysNone : List ℕ → Status → Type 0
SaysNone bytes status.TooLong = WEIGHTS_LIMIT < length bytes
SaysNone bytes status.BadWeights = (length bytes ≤ WEIGHTS_LIMIT) × (weights_of bytes ≡ None)
SaysNone bytes status.Memory = length bytes ≤ WEIGHTS_LIMIT
SaysNone bytes other = ⊥
