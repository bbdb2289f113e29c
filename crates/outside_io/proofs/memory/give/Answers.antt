use Rattle.std.proofs.Common.{◌≡◌, Some, None, sym, ◌∙◌, ap}
use Rattle.std.specs.List.{position}
use Rattle.outside_io.specs.Memory.{has_name}
use Rattle.outside_io.proofs.Lookup.{bytes_at-written, bytes_at-written_other, bytes_at-behind, bytes_at-behind_other}
use Rattle.outside_io.proofs.memory.give.Goals as goal

pub returns-in-Some-clause-given : goal.returns-in-Some-clause-given
returns-in-Some-clause-given c =
    let at : position (has_name c.args.name.now) c.args.files.now.items ≡ Some c.in-Some.place =
    rw (← c.as_slice.ensures.value) (sym c.position_of.ensures ∙ c.in-Some.is) in
    bytes_at-written _ _ _ _ at c.in_ok-from_str.ensures.ok ∙ ap Some c.in_ok-from_slice.ensures.items

pub returns-in-Some-clause-others : goal.returns-in-Some-clause-others
returns-in-Some-clause-others c =
    let at : position (has_name c.args.name.now) c.args.files.now.items ≡ Some c.in-Some.place =
    rw (← c.as_slice.ensures.value) (sym c.position_of.ensures ∙ c.in-Some.is) in
    bytes_at-written_other _ _ _ _ at c.in_ok-from_str.ensures.ok

pub returns-in_ok-push-in-None-clause-given : goal.returns-in_ok-push-in-None-clause-given
returns-in_ok-push-in-None-clause-given c =
    let none : position (has_name c.args.name.now) c.args.files.now.items ≡ None =
    rw (← c.as_slice.ensures.value) (sym c.position_of.ensures ∙ c.in-None.is) in
    rw c.in_ok-push-in-None.ensures.items
    (bytes_at-behind _ _ _ none c.in_ok-from_str.ensures.ok ∙ ap Some c.in_ok-from_slice.ensures.items)

pub returns-in_ok-push-in-None-clause-others : goal.returns-in_ok-push-in-None-clause-others
returns-in_ok-push-in-None-clause-others c =
    rw c.in_ok-push-in-None.ensures.items (bytes_at-behind_other _ _ _ c.in_ok-from_str.ensures.ok)
