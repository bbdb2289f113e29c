use Rattle.std.proofs.Common.{◌≡◌, ◌++◌, drop, string_bytes}
use Rattle.csv_tables.specs.StatementTables.{rows_in, tables_in}
use Rattle.statement_meaning.specs.Spelling.{further_items}
use Rattle.result_shape.specs.Tallies.{tallies_shown}
use Rattle.result_shape.proofs.row_texts.push_further.Given as goal

-- the tallies that are left add the rest
abbrev pub invariant-loop-tally : goal.invariant-loop-tally
invariant-loop-tally l =
    string_bytes l.text
    ++ further_items (tallies_shown (rows_in (tables_in l.tables)) (drop l.tally-index l.tallies))
    ≡ string_bytes l.fn.text ++ further_items (tallies_shown (rows_in (tables_in l.tables)) l.tallies)
