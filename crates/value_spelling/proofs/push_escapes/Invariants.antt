use Rattle.std.proofs.Common.{◌≡◌, ◌≤◌, ◌++◌, take, drop, string_bytes}
use Rattle.std.specs.List.{flat_map}
use Rattle.std.specs.Str.{IsCharBoundary}
use Rattle.statement_meaning.specs.Spelling.{escaped}
use Rattle.value_spelling.proofs.push_escapes.Given as goal

-- what is written, and the piece that waits to be copied
abbrev pub invariant-loop-i : goal.invariant-loop-i
invariant-loop-i l = record {
  behind : l.start ≤ l.i;
  cut : IsCharBoundary l.words l.start;
  so_far : string_bytes l.text ++ drop l.start (take l.i l.words) ≡ string_bytes l.fn.text
      ++ flat_map escaped (take l.i l.words);
}
