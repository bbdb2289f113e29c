use Rattle.std.proofs.Common.{◌≡◌, ◌<◌, ◌≤◌, ◌+◌, ◌++◌, ◌∷◌, [], ℕ, List, get_or}
use Rattle.row_values.specs.declared.values.Value.{Value}
use Rattle.result_shape.specs.Tallies.{IsReadyItem, IsTallyOf}
use Rattle.result_shape.specs.declared.tallies.ReadyItem.{ReadyItem}
use Rattle.result_shape.specs.declared.tallies.Tally.{Tally}
use Rattle.result_shape.proofs.numbered.add_member_at.Given as goal

-- the tallies before this item have taken the combination in, all others are as they were
abbrev pub invariant-loop-i : goal.invariant-loop-i
invariant-loop-i l = record {
  taken : (k : ℕ) (d : ReadyItem) (e : Tally) → k < l.i → (tables : List (List (List Value))) (first : List ℕ)
      (members : List (List ℕ)) → IsReadyItem tables (get_or l.items k d)
      → IsTallyOf tables first members (get_or l.items k d).item (get_or l.fn.tallies (l.start + k) e)
      → IsTallyOf tables first (members ++ l.c ∷ []) (get_or l.items k d).item (get_or l.tallies (l.start + k) e);
  left : (k : ℕ) (e : Tally) → l.start + l.i ≤ k → get_or l.tallies k e ≡ get_or l.fn.tallies k e;
  before : (k : ℕ) (e : Tally) → k < l.start → get_or l.tallies k e ≡ get_or l.fn.tallies k e;
}
