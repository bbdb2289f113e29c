use Rattle.std.proofs.Common.{◌≡◌, map, take, vec_capacity, vec_len}
use Rattle.anchor_cache.specs.Anchors.{held}
use Rattle.anchor_cache.specs.Window.{entry_of}
use Rattle.anchor_cache.proofs.window.put_in_order.Given as goal

-- the entries of the anchors so far, in their order
abbrev pub invariant-loop-anchor : goal.invariant-loop-anchor
invariant-loop-anchor l =
    record {
      entries : l.ordered.items ≡ map (λ anchor. entry_of (held anchor)) (take l.anchor-index l.anchors);
      count : vec_len l.ordered ≡ l.anchor-index;
      room : vec_capacity l.ordered ≡ vec_capacity l.initial.ordered;
    }
