use Rattle.std.proofs.Common.{◌≡◌, ◌+◌, [], drop, map, take}
use Rattle.csv.specs.Records.{fields_of}
use Rattle.csv_tables.specs.Headers.{bad_name, heading_of, name_of}
use Rattle.csv_tables.proofs.header.read_header.Given as goal

-- the names that are left decide
abbrev pub invariant-loop-column : goal.invariant-loop-column
invariant-loop-column l = record {
  read : l.headings.items ≡ map heading_of (take l.column (fields_of l.row));
  names : bad_name (l.column + 1) (map (λ heading. heading.name) l.headings.items)
      (map name_of (drop l.column (fields_of l.row)))
      ≡ bad_name 1 [] (map name_of (fields_of l.row));
}
