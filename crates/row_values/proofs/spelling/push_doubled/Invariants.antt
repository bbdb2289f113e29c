use Rattle.std.proofs.Common.{◌≡◌, ◌++◌, string_bytes}
use Rattle.std.specs.List.{flat_map}
use Rattle.row_values.specs.Names.{letter_bytes}
use Rattle.row_values.proofs.spelling.push_doubled.Given as goal

abbrev pub invariant-loop-letter : goal.invariant-loop-letter
invariant-loop-letter l = string_bytes l.out ≡ string_bytes l.initial.out ++ flat_map letter_bytes l.yielded
