use Rattle.std.proofs.Common.{◌≡◌, drop}
use Rattle.row_tests.specs.Ready.{all_hold}
use Rattle.row_tests.proofs.predicate_tests.passes.Given as goal

-- the tests that are left decide
abbrev pub invariant-loop-one : goal.invariant-loop-one
invariant-loop-one l = all_hold l.args l.table (drop l.one-index l.ready) l.row ≡ all_hold l.args l.table l.ready l.row
