use Rattle.std.proofs.Common.{◌≡◌, drop}
use Rattle.std.specs.List.{flat_map}
use Rattle.row_values.specs.Names.{doubled}
use Rattle.plan_trees.specs.Reading as reads
use Rattle.plan_trees.proofs.reading.after_quoted.Given as goal

-- what is left of the name decides over what is left of the text
abbrev pub invariant-loop-byte : goal.invariant-loop-byte
invariant-loop-byte l = reads.after (flat_map doubled (drop l.byte-index l.name)) l.rest
    ≡ reads.after (flat_map doubled l.name) l.text
