use Rattle.std.proofs.Common.{◌≡◌, drop}
use Rattle.std.specs.Str.{IsCharBoundary}
use Rattle.script_report.specs.Parts as parts
use Rattle.script_report.proofs.parts.skip_blanks.Given as goal

abbrev pub invariant-loop-i : goal.invariant-loop-i
invariant-loop-i l = record {
  same : parts.skip_blanks (drop l.i l.text) ≡ parts.skip_blanks l.text;
  cut : IsCharBoundary l.text l.i;
}
