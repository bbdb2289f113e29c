use Rattle.std.proofs.Common.{◌≡◌, drop}
use Rattle.row_values.specs.Plain.{are_name_bytes}
use Rattle.row_values.proofs.plain.all_name_bytes.Given as goal

-- the bytes that are left decide
abbrev pub invariant-loop-byte : goal.invariant-loop-byte
invariant-loop-byte l = are_name_bytes (drop l.byte-index l.name) ≡ are_name_bytes l.name
