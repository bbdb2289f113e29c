use Rattle.std.proofs.Common.{ℕ, ◌≡◌, ◌<◌, ◌*◌, length, map, take, get_or}
use Rattle.result_shape.specs.declared.numbered.Placed.{Placed}
use Rattle.result_shape.proofs.numbered.NumberGroups.placed.Given as goal

-- the groups so far, and where the next begins
abbrev pub invariant-loop-first : goal.invariant-loop-first
invariant-loop-first l = record {
  count : length l.placed.items ≡ l.first-index;
  firsts : map (λ one. one.first) l.placed.items ≡ take l.first-index l.self.firsts.items;
  next : l.start ≡ l.first-index * l.fn.count;
  starts : (i : ℕ) (d : Placed) → i < length l.placed.items → (get_or l.placed.items i d).start ≡ i * l.fn.count;
}
