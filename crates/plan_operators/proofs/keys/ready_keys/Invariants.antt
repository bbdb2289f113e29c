use Rattle.std.proofs.Common.{◌≡◌, ℕ, List, take}
use Rattle.csv_tables.specs.StatementTables.{rows_in, tables_in}
use Rattle.statement_meaning.specs.Meaning.{keys_order}
use Rattle.plan_operators.specs.Keys.{keys_rank}
use Rattle.plan_operators.proofs.keys.ready_keys.Given as goal

-- the keys so far
abbrev pub invariant-loop-key : goal.invariant-loop-key
invariant-loop-key l = (a b : List ℕ)
    → keys_rank l.ready.items a b ≡ keys_order (rows_in (tables_in l.tables)) (take l.key-index l.keys) a b
