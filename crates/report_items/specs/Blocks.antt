-- Blocks: what is claimed between the head of an execution and the next head.
use Rattle.std.specs.Prelude.{ℕ, ◌||◌, List, [], ◌∷◌, codes, filter, Bool, Option, Some, None, is_some, if◌then◌else◌}
use Rattle.sql_parser.specs.Reading.{◌>>=◌}
use Rattle.report_items.specs.Heads.{behind, is_head}
use Rattle.report_items.specs.declared.blocks.Claim.{Claim}

-- the lines up to the next head
abbrev pub until_head : List (List ℕ) → List (List ℕ)
until_head [] = []
until_head (line ∷ lines) = if is_head line then [] else line ∷ until_head lines

-- whether a line tells a plan, a cost or a certificate
abbrev pub is_told : List ℕ → Bool
is_told line =
    is_some (behind (codes "plan ") line) || is_some (behind (codes "cost ") line)
    || is_some (behind (codes "cert ") line)

-- those that do, up to the next head
abbrev pub told_lines : List (List ℕ) → List (List ℕ)
told_lines lines = filter is_told (until_head lines)

-- `plan TEXT`, `cost TEXT` and `cert TEXT`
abbrev pub claim_of : List ℕ → List ℕ → List ℕ → Option Claim
claim_of first second third = do
  plan ← behind (codes "plan ") first
  cost ← behind (codes "cost ") second
  cert ← behind (codes "cert ") third
  Some (record { plan = plan; cost = cost; cert = cert })

-- three lines that tell a plan, a cost and a certificate, in this order
abbrev pub claim_told : List (List ℕ) → Option Claim
claim_told [] = None
claim_told (plan ∷ []) = None
claim_told (plan ∷ cost ∷ []) = None
claim_told (plan ∷ cost ∷ cert ∷ []) = claim_of plan cost cert
claim_told (plan ∷ cost ∷ cert ∷ more ∷ lines) = None

-- what is claimed up to the next head; none where there isn't just one line of each kind, in this order
unfoldable pub claim_in : List (List ℕ) → Option Claim
claim_in lines = claim_told (told_lines lines)
