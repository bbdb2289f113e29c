use Rattle.std.proofs.Common.{◌≡◌, drop}
use Rattle.plan_trees.specs.Reading as reads
use Rattle.plan_trees.proofs.reading.after.Given as goal

-- what is left of the word decides over what is left of the text
abbrev pub invariant-loop-byte : goal.invariant-loop-byte
invariant-loop-byte l = reads.after (drop l.byte-index l.word) l.rest ≡ reads.after l.word l.text
