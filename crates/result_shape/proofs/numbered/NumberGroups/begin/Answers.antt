use Rattle.std.proofs.Common.{ℕ, ℤ, ◌≡◌, length, ◌∙◌, subst}
use Rattle.std.specs.BTreeMap.{Updates}
use Rattle.std.specs.Option.{option_cmp}
use Rattle.std.specs.Ordering.{int_cmp}
use Rattle.std.specs.Prelude.{Option, Some}
use Rattle.result_shape.specs.Numbered.{number_seen}
use Rattle.result_shape.proofs.Numbering.{grown_whole, hints_stay, mapped_begins, numbered_begins}
use Rattle.result_shape.proofs.numbered.NumberGroups.begin.Goals as goal

pub returns-clause-begun : goal.returns-clause-begun
returns-clause-begun c =
    λ q tables h keys ready number a.
    let absent = rw c.requires.number at c.requires.absent in
    rw (c.in_ok-push.ensures.items, c.in_ok-extend_from_slice.ensures.items, c.deref.ensures.value)
    (numbered_begins q tables keys c.args.self.now.column ready.keys_are number c.args.self.now.positions
    c.args.self.now.firsts.items c.requires.whole.mapped c.args.c.now absent h c.args.self.now.tallies.items
    c.in_ok-made.made.items a
    (rw ready.items_are at (c.in_ok-made.ensures.tallies tables ready.columns)))

pub returns-clause-whole : goal.returns-clause-whole
returns-clause-whole c =
    let absent = rw c.requires.number at c.requires.absent in
    let position : c.len-position.result ≡ length c.args.self.now.firsts.items =
    c.len-position.ensures ∙ c.args.self.now.firsts.ok.0 in
    let updates = subst (λ (number : Option ℤ). Updates (option_cmp int_cmp) c.args.self.now.positions
    c.insert.new.self number (Some (length c.args.self.now.firsts.items))) c.requires.number
    (subst (λ (n : ℕ). Updates (option_cmp int_cmp) c.args.self.now.positions c.insert.new.self c.args.number (Some n))
    position c.in_ok-insert.ensures.updates) in
    record {
      mapped =
          rw c.in_ok-push.ensures.items
          (mapped_begins c.args.self.now.column c.args.self.now.positions c.insert.new.self
          c.args.self.now.firsts.items c.args.c.now c.requires.whole.mapped absent updates);
      whole =
          rw (c.in_ok-push.ensures.items, c.in_ok-extend_from_slice.ensures.items, c.deref.ensures.value)
          (grown_whole c.args.self.now.firsts.items c.args.c.now c.args.self.now.tallies.items c.in_ok-made.made.items
          (length c.args.items.now) c.requires.whole.whole c.in_ok-made.ensures.count);
      hinted =
          hints_stay c.args.self.now.positions c.insert.new.self (number_seen c.args.self.now.column c.args.c.now)
          (length c.args.self.now.firsts.items) c.args.self.now.hints c.requires.whole.hinted absent updates;
    }
