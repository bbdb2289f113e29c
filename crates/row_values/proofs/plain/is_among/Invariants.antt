use Rattle.std.proofs.Common.{◌≡◌, drop, map}
use Rattle.row_values.specs.Plain.{is_word_in}
use Rattle.row_values.proofs.plain.is_among.Given as goal

-- the words that are left decide
abbrev pub invariant-loop-other : goal.invariant-loop-other
invariant-loop-other l = is_word_in l.word (map (λ other. other.now) (drop l.other-index l.words))
    ≡ is_word_in l.word (map (λ other. other.now) l.words)
