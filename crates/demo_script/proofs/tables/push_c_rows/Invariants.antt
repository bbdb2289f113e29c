use Rattle.std.proofs.Common.{◌≡◌, ◌*◌, ◌++◌, string_bytes}
use Rattle.demo_script.specs.Draws.{after}
use Rattle.demo_script.specs.Tables.{c_rows}
use Rattle.demo_script.proofs.tables.push_c_rows.Given as goal

-- the rows so far
abbrev pub invariant-loop-before : goal.invariant-loop-before
invariant-loop-before l = record {
  rows : string_bytes l.text ≡ string_bytes l.fn.text ++ c_rows l.before l.fn.draws;
  draws : l.draws ≡ after (2 * l.before) l.fn.draws;
}
