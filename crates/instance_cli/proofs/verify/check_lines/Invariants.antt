use Rattle.std.proofs.Common.{◌≡◌, ◌≤◌, take, map}
use Rattle.report_verifier.specs.Verification.{Walks}
use Rattle.session_model.specs.Run.{spoken_from}
use Rattle.instance_cli.specs.Verify.{TakesLine}
use Rattle.instance_cli.proofs.verify.check_lines.Given as goal

-- the walk was made over the lines so far
abbrev pub invariant-loop-i : goal.invariant-loop-i
invariant-loop-i g l =
    let files = g.F.Shelf.files in
    let misses = g.F.Shelf.misses in
    record {
      same : files l.shelf ≡ files l.fn.shelf;
      made : l.verifier.catalog.versions ≤ l.i;
      failed : g.F.Shelf.faults l.fn.shelf ≤ g.F.Shelf.faults l.shelf;
      missed : misses l.fn.shelf ≤ misses l.shelf;
      walked : Walks (TakesLine (files l.fn.shelf) (misses l.fn.shelf) (misses l.shelf)) l.fn.verifier
          (spoken_from 1 (map (λ line. line.now) (take l.i l.lines))) l.verifier;
    }
