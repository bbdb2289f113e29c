use Rattle.std.proofs.Common.{ℕ, ◌≡◌, ◌<◌, ◌+◌, ◌*◌, ◌++◌, ◌∷◌, [], List, length, get_or, ap, sym, ◌∙◌, subst, arith}
use Rattle.std.proofs.lemmas.List.{length-map, with_items_is}
use Rattle.row_values.specs.declared.statement.Item.{Item}
use Rattle.result_shape.specs.Numbered.{AreNumbered}
use Rattle.result_shape.specs.Tallies.{IsTallyOf}
use Rattle.result_shape.specs.declared.tallies.ReadyItem.{ReadyItem}
use Rattle.result_shape.specs.declared.tallies.Tally.{Tally}
use Rattle.result_shape.proofs.Numbering.{each_item, numbered_grows, numbered_nothing, range_inside}
use Rattle.result_shape.proofs.Places.{on_err}
use Rattle.result_shape.proofs.numbered.NumberGroups.take_in.Goals as goal

pub overflow_mul-start : goal.overflow_mul-start
overflow_mul-start c =
    let found = sym c.position_of.ensures.value ∙ c.in-Some.is in
    let there = c.requires.whole.mapped.inside c.number-number.result c.in-Some.position found in
    let within = range_inside (length c.args.items.now) c.in-Some.position (length c.args.self.now.firsts.items) there
    in
    record { fits = omega (arith, within, c.requires.whole.whole, c.args.self.now.tallies.small) }

pub add_member_at-requires-clause-bound : goal.add_member_at-requires-clause-bound
add_member_at-requires-clause-bound c =
    let found = sym c.position_of.ensures.value ∙ c.in-Some.is in
    let there = c.requires.whole.mapped.inside c.number-number.result c.in-Some.position found in
    let within = range_inside (length c.args.items.now) c.in-Some.position (length c.args.self.now.firsts.items) there
    in
    let whole = ap length c.deref_mut.ensures.value ∙ c.requires.whole.whole in
    omega (arith, within, whole)

pub add_member_at-requires-clause-room : goal.add_member_at-requires-clause-room
add_member_at-requires-clause-room c =
    let found = sym c.position_of.ensures.value ∙ c.in-Some.is in
    let there = c.requires.whole.mapped.inside c.number-number.result c.in-Some.position found in
    rw c.deref_mut.ensures.value (λ k e l. c.requires.room c.in-Some.position k e there l)

pub returns-in-Some-clause-taken : goal.returns-in-Some-clause-taken
returns-in-Some-clause-taken c =
    λ q tables h keys ready number a.
    let found = rw c.number-number.ensures at (sym c.position_of.ensures.value ∙ c.in-Some.is) in
    let count : length c.args.items.now ≡ length q.items =
    sym (length-map c.args.items.now (λ (one : ReadyItem). one.item)) ∙ ap (λ (items : List Item). length items)
    ready.items_are in
    let taken : (k : ℕ) (item : Item) → k < length q.items → (e : Tally) (first : List ℕ) (members : List (List ℕ))
    → IsTallyOf tables first members (get_or q.items k item)
    (get_or c.deref_mut.result.now (c.in-Some.position * length c.args.items.now + k) e)
    → IsTallyOf tables first (members ++ c.args.c.now ∷ []) (get_or q.items k item)
    (get_or c.add_member_at.new.tallies (c.in-Some.position * length c.args.items.now + k) e) =
    rw ready.items_are at (each_item (λ k item. (e : Tally) (first : List ℕ) (members : List (List ℕ))
    → IsTallyOf tables first members item
    (get_or c.deref_mut.result.now (c.in-Some.position * length c.args.items.now + k) e)
    → IsTallyOf tables first (members ++ c.args.c.now ∷ []) item
    (get_or c.add_member_at.new.tallies (c.in-Some.position * length c.args.items.now + k) e)) c.args.items.now
    (λ k d l e first members. c.add_member_at.ensures.taken k d e l tables first members (ready.columns k d l))) in
    subst (AreNumbered q tables (h ++ c.args.c.now ∷ []) c.args.self.now.firsts.items)
    (sym (with_items_is c.args.self.now.tallies c.add_member_at.new.tallies
    (c.add_member_at.auto.tallies ∙ c.deref_mut.ensures.len)))
    (numbered_grows q tables keys c.args.self.now.column ready.keys_are number c.args.self.now.positions
    c.args.self.now.firsts.items c.requires.whole.mapped c.args.c.now c.in-Some.position found h
    c.args.self.now.tallies.items c.add_member_at.new.tallies a
    (c.add_member_at.ensures.length ∙ ap length c.deref_mut.ensures.value)
    (rw (count, c.deref_mut.ensures.value)
    at (λ (k : ℕ) (item : Item) (e : Tally) (l : k < length q.items) (first : List ℕ) (members : List (List ℕ)).
    taken k item l e first members))
    (rw (count, c.deref_mut.ensures.value) at c.add_member_at.ensures.others))

pub returns-in-None-clause-memory : goal.returns-in-None-clause-memory
returns-in-None-clause-memory c =
    λ q tables h keys ready number a.
    let absent = rw c.number-number.ensures at (sym c.position_of.ensures.value ∙ c.in-None.is) in
    on_err _ _ (numbered_nothing q tables keys c.args.self.now.column ready.keys_are number
    c.args.self.now.positions c.args.self.now.firsts.items c.requires.whole.mapped c.args.c.now absent h
    c.args.self.now.tallies.items a)
