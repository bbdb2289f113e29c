use Rattle.std.proofs.Common.{◌≡◌, ◌<◌, ◌∙◌, ◌++◌, ◌∷◌, [], List, length, suc, sym, subst}
use Rattle.std.specs.Prelude.{Vec}
use Rattle.std.specs.List.Sorted.{IsStrictlySortedBy}
use Rattle.std.specs.declared.alloc.Global.{Global}
use Rattle.statement_meaning.specs.Meaning.{group_keys, keys_order}
use Rattle.std.proofs.lemmas.List.Elements.{All-push}
use Rattle.result_shape.specs.Groups.{AreGroupsOf, AreRuns, IsRoomy, IsTakenIn, LiesBetween, firsts, groups_in}
use Rattle.result_shape.specs.declared.groups.Group.{Group}
use Rattle.result_shape.proofs.GrowingGroups.{no_groups}
use Rattle.result_shape.proofs.Places.{on_err}
use Rattle.result_shape.proofs.RunPlaces.{first_nothing_there, first_taken_in, no_runs, of_run, run_in_order}
use Rattle.result_shape.proofs.RunPlaces.{run_nothing_there, run_taken_in, runs_with}
use Rattle.result_shape.proofs.RunPlaces.{HasGroup}
use Rattle.result_shape.proofs.runs.gather.Goals as goal

pub returns-in_err-take_in-clause-memory : goal.returns-in_err-take_in-clause-memory
returns-in_err-take_in-clause-memory c =
    λ q tables h ready groups.
    on_err _ _ (first_nothing_there q tables c.args.keys.now c.args.items.now ready h c.args.c.now
    c.args.runs.now.items (no_runs c.args.runs.now (sym c.is_empty.ensures ∙ c.if-is_empty.true)) groups)

pub returns-in_err-push-clause-memory : goal.returns-in_err-push-clause-memory
returns-in_err-push-clause-memory c =
    λ q tables h ready groups.
    on_err _ _ (first_nothing_there q tables c.args.keys.now c.args.items.now ready h c.args.c.now
    c.args.runs.now.items (no_runs c.args.runs.now (sym c.is_empty.ensures ∙ c.if-is_empty.true)) groups)

pub returns-then-is_empty-clause-gathered : goal.returns-then-is_empty-clause-gathered
returns-then-is_empty-clause-gathered c =
    λ q tables h ready groups.
    let none : c.args.runs.now.items ≡ [] =
    no_runs c.args.runs.now (sym c.is_empty.ensures ∙ c.if-is_empty.true) in
    subst (λ (runs : List (Vec Group Global)). AreGroupsOf q tables (h ++ c.args.c.now ∷ []) (groups_in runs))
    (sym c.in_ok-push.ensures.items)
    (first_taken_in q tables c.args.keys.now c.args.items.now ready h c.args.c.now c.args.runs.now.items
    c.new-run.result c.take_in.new.groups c.in_ok-take_in.field-0 none c.new-run.ensures.items groups
    (c.in_ok-take_in.ensures.taken q tables ready
    (subst (λ (gs : List Group). IsStrictlySortedBy (keys_order tables (group_keys q.groups)) (firsts gs))
    (sym c.new-run.ensures.items) (no_groups tables q).in_order)))

pub returns-then-is_empty-clause-runs : goal.returns-then-is_empty-clause-runs
returns-then-is_empty-clause-runs c =
    subst AreRuns (sym c.in_ok-push.ensures.items)
    (All-push HasGroup c.args.runs.now.items c.take_in.new.groups c.requires.runs c.in_ok-take_in.ensures.some)

pub take_in-requires-2 : goal.take_in-requires-2
take_in-requires-2 c =
    of_run (IsRoomy (length c.args.items.now)) c.args.runs.now.items c.run_of-at.result c.index_mut.result.now
    (rw c.as_slice.ensures.value at c.run_of-at.ensures.bound) c.index_mut.ensures.value c.requires.roomy

pub returns-in_err-take_in-2-clause-memory : goal.returns-in_err-take_in-2-clause-memory
returns-in_err-take_in-2-clause-memory c =
    λ q tables h ready groups.
    let bound : c.run_of-at.result < length c.args.runs.now.items =
    rw c.as_slice.ensures.value at c.run_of-at.ensures.bound in
    let place : LiesBetween c.args.keys.now c.args.c.now c.args.runs.now.items c.run_of-at.result
    (suc c.run_of-at.result) = rw c.as_slice.ensures.value at c.run_of-at.ensures.place in
    on_err _ _ (run_nothing_there q tables c.args.keys.now c.args.items.now ready h c.args.c.now c.args.runs.now.items
    c.run_of-at.result c.index_mut.result.now bound c.index_mut.ensures.value place groups
    (c.in_err-take_in-2.ensures.memory q tables ready
    (run_in_order q tables c.args.keys.now c.args.items.now ready h c.args.c.now c.args.runs.now.items
    c.run_of-at.result c.index_mut.result.now bound c.index_mut.ensures.value place groups)))

pub cut_run-requires-clause-runs : goal.cut_run-requires-clause-runs
cut_run-requires-clause-runs c =
    runs_with c.args.runs.now.items c.run_of-at.result c.index_mut.result.now c.take_in-2.new.groups
    c.take_in-2.new.groups
    (rw c.as_slice.ensures.value at c.run_of-at.ensures.bound) c.requires.runs c.in_ok-take_in-2.ensures.some

pub returns-in_err-cut_run-clause-memory : goal.returns-in_err-cut_run-clause-memory
returns-in_err-cut_run-clause-memory c =
    λ q tables h ready groups.
    let bound : c.run_of-at.result < length c.args.runs.now.items =
    rw c.as_slice.ensures.value at c.run_of-at.ensures.bound in
    let place : LiesBetween c.args.keys.now c.args.c.now c.args.runs.now.items c.run_of-at.result
    (suc c.run_of-at.result) = rw c.as_slice.ensures.value at c.run_of-at.ensures.place in
    let taken = c.in_ok-take_in-2.ensures.taken q tables ready
    (run_in_order q tables c.args.keys.now c.args.items.now ready h c.args.c.now c.args.runs.now.items
    c.run_of-at.result c.index_mut.result.now bound c.index_mut.ensures.value place groups) in
    on_err _ _ (run_nothing_there q tables c.args.keys.now c.args.items.now ready h c.args.c.now c.args.runs.now.items
    c.run_of-at.result c.index_mut.result.now bound c.index_mut.ensures.value place groups
    (subst (IsTakenIn c.args.keys.now c.args.items.now c.args.c.now c.index_mut.result.now.items
    c.take_in-2.new.groups.items) c.if-branch.true taken).place)

pub returns-in_ok-cut_run-clause-gathered : goal.returns-in_ok-cut_run-clause-gathered
returns-in_ok-cut_run-clause-gathered c =
    λ q tables h ready groups.
    let bound : c.run_of-at.result < length c.args.runs.now.items =
    rw c.as_slice.ensures.value at c.run_of-at.ensures.bound in
    let place : LiesBetween c.args.keys.now c.args.c.now c.args.runs.now.items c.run_of-at.result
    (suc c.run_of-at.result) = rw c.as_slice.ensures.value at c.run_of-at.ensures.place in
    let taken = c.in_ok-take_in-2.ensures.taken q tables ready
    (run_in_order q tables c.args.keys.now c.args.items.now ready h c.args.c.now c.args.runs.now.items
    c.run_of-at.result c.index_mut.result.now bound c.index_mut.ensures.value place groups) in
    subst (AreGroupsOf q tables (h ++ c.args.c.now ∷ [])) (sym c.in_ok-cut_run.ensures.groups)
    (run_taken_in q tables c.args.keys.now c.args.items.now ready h c.args.c.now c.args.runs.now.items
    c.run_of-at.result c.index_mut.result.now bound c.index_mut.ensures.value place groups c.take_in-2.new.groups
    c.in_ok-take_in-2.field-0 taken)

pub returns-else-branch-clause-gathered : goal.returns-else-branch-clause-gathered
returns-else-branch-clause-gathered c =
    λ q tables h ready groups.
    let bound : c.run_of-at.result < length c.args.runs.now.items =
    rw c.as_slice.ensures.value at c.run_of-at.ensures.bound in
    let place : LiesBetween c.args.keys.now c.args.c.now c.args.runs.now.items c.run_of-at.result
    (suc c.run_of-at.result) = rw c.as_slice.ensures.value at c.run_of-at.ensures.place in
    let taken = c.in_ok-take_in-2.ensures.taken q tables ready
    (run_in_order q tables c.args.keys.now c.args.items.now ready h c.args.c.now c.args.runs.now.items
    c.run_of-at.result c.index_mut.result.now bound c.index_mut.ensures.value place groups) in
    run_taken_in q tables c.args.keys.now c.args.items.now ready h c.args.c.now c.args.runs.now.items
    c.run_of-at.result c.index_mut.result.now bound c.index_mut.ensures.value place groups c.take_in-2.new.groups
    c.in_ok-take_in-2.field-0 taken

pub returns-else-branch-clause-runs : goal.returns-else-branch-clause-runs
returns-else-branch-clause-runs c =
    runs_with c.args.runs.now.items c.run_of-at.result c.index_mut.result.now c.take_in-2.new.groups
    c.take_in-2.new.groups
    (rw c.as_slice.ensures.value at c.run_of-at.ensures.bound) c.requires.runs c.in_ok-take_in-2.ensures.some
