use Rattle.std.proofs.Common.{◌++◌, ◌∷◌, [], List, map, rules, ap, sym, ◌∙◌, refl, subst}
use Rattle.std.specs.Vec.{with_items}
use Rattle.std.proofs.lemmas.List.{with_items_is}
use Rattle.std.proofs.lemmas.Fn.{always_returns_same}
use Rattle.plan_operators.specs.Keys.{keys_rank}
use Rattle.result_shape.specs.Groups.{IsBegun}
use Rattle.result_shape.specs.Tallies.{AreTalliesOf}
use Rattle.result_shape.specs.declared.groups.Group.{Group}
use Rattle.result_shape.specs.declared.tallies.Tally.{Tally}
use Rattle.result_shape.proofs.Places.{begun_at, grown_at, has_place, on_err, searchable}
use Rattle.result_shape.proofs.groups.take_in.Goals as goal

pub returns-in_err-group-in-Err-clause-memory : goal.returns-in_err-group-in-Err-clause-memory
returns-in_err-group-in-Err-clause-memory c =
    λ q tables ready strict.
    let found = c.in-Err.ensures.position (λ (group : Group). keys_rank c.args.keys.now group.first c.args.c.now)
    (always_returns_same _ _ _ (λ a r g h. (search rules, search rules))) in
    let bound = rw c.deref.ensures.value at c.in-Err.ensures.bound in
    on_err _ _ (has_place c.args.keys.now c.args.c.now c.args.groups.now.items c.in-Err.at bound
    (rw c.deref.ensures.value at found (searchable q tables c.args.keys.now c.args.items.now ready
    c.args.groups.now.items c.args.c.now strict)))

pub returns-in_err-insert-in-Err-clause-memory : goal.returns-in_err-insert-in-Err-clause-memory
returns-in_err-insert-in-Err-clause-memory c =
    λ q tables ready strict.
    let found = c.in-Err.ensures.position (λ (group : Group). keys_rank c.args.keys.now group.first c.args.c.now)
    (always_returns_same _ _ _ (λ a r g h. (search rules, search rules))) in
    let bound = rw c.deref.ensures.value at c.in-Err.ensures.bound in
    on_err _ _ (has_place c.args.keys.now c.args.c.now c.args.groups.now.items c.in-Err.at bound
    (rw c.deref.ensures.value at found (searchable q tables c.args.keys.now c.args.items.now ready
    c.args.groups.now.items c.args.c.now strict)))

pub returns-in-Ok-clause-taken : goal.returns-in-Ok-clause-taken
returns-in-Ok-clause-taken c =
    λ q tables ready strict.
    let found = c.in-Ok.ensures.position (λ (group : Group). keys_rank c.args.keys.now group.first c.args.c.now)
    (always_returns_same _ _ _ (λ a r g h. (search rules, search rules))) in
    let bound = rw c.deref.ensures.value at c.in-Ok.ensures.bound in
    let ties = rw c.deref.ensures.value at found in
    grown_at c.args.keys.now c.args.items.now c.args.c.now c.args.groups.now.items c.in-Ok.at c.index_mut.result.now
    record {
      first = c.index_mut.result.now.first;
      tallies = with_items c.index_mut.result.now.tallies c.add_member.new.tallies;
    }
    bound c.index_mut.ensures.value
    (ap (λ (group : Group). keys_rank c.args.keys.now group.first c.args.c.now) c.index_mut.ensures.value
    ∙ ties c.index_mut.result.now)
    refl
    (λ tables members columns old.
    subst (λ (tallies : List Tally). AreTalliesOf tables c.index_mut.result.now.first (members ++ c.args.c.now ∷ [])
    (map (λ one. one.item) c.args.items.now) tallies)
    (sym (with_items_is c.index_mut.result.now.tallies c.add_member.new.tallies
    (c.add_member.auto.tallies ∙ c.deref_mut.ensures.len)))
    (c.add_member.ensures tables c.index_mut.result.now.first members columns
    (subst (λ (tallies : List Tally). AreTalliesOf tables c.index_mut.result.now.first members
    (map (λ one. one.item) c.args.items.now) tallies) (sym c.deref_mut.ensures.value) old)))

pub returns-in_ok-insert-in-Err-clause-taken : goal.returns-in_ok-insert-in-Err-clause-taken
returns-in_ok-insert-in-Err-clause-taken c =
    λ q tables ready strict.
    let found = c.in-Err.ensures.position (λ (group : Group). keys_rank c.args.keys.now group.first c.args.c.now)
    (always_returns_same _ _ _ (λ a r g h. (search rules, search rules))) in
    let bound = rw c.deref.ensures.value at c.in-Err.ensures.bound in
    subst (IsBegun c.args.keys.now c.args.items.now c.args.c.now c.args.groups.now.items)
    (sym c.in_ok-insert-in-Err.ensures.items)
    (begun_at c.args.keys.now c.args.items.now c.args.c.now c.args.groups.now.items c.in-Err.at
    c.in_ok-group-in-Err.group bound
    (rw c.deref.ensures.value at found (searchable q tables c.args.keys.now c.args.items.now ready
    c.args.groups.now.items c.args.c.now strict))
    c.in_ok-group-in-Err.ensures.first c.in_ok-group-in-Err.ensures.tallies)
