use Rattle.std.proofs.Common.{◌≡◌, take}
use Rattle.std.specs.Str.{IsCharBoundary}
use Rattle.script_report.specs.Commands.{skip_end_blanks}
use Rattle.script_report.proofs.commands.skip_end_blanks.Given as goal

-- blanks alone were left off, and the text may be cut here
abbrev pub invariant-loop-end : goal.invariant-loop-end
invariant-loop-end l = record {
  same : skip_end_blanks (take l.end l.text) ≡ skip_end_blanks l.text;
  cut : IsCharBoundary l.text l.end;
}

abbrev pub decreases-loop-end : goal.decreases-loop-end
decreases-loop-end l = l.end
