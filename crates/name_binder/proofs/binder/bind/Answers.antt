use Rattle.name_binder.proofs.Exits.{by_names, by_shape, by_none, sound_by, handed_on}
use Rattle.name_binder.proofs.binder.bind.Goals as goal

pub returns-in_err-check_names : goal.returns-in_err-check_names
returns-in_err-check_names g c =
    let known = c.in_ok-places.ensures.ok in
    handed_on _ _ c.in_err-check_names.field-0.0 c.from_residual-in_err-check_names.ensures
    (by_names (g.S.Schemas.tables c.args.schemas.now) c.places.result.now c.in_ok-places.places.items c.deref.result.now
    c.args.s.now c.in_err-check_names.field-0.0
    c.places.ensures.value known.0 known.1 c.deref.ensures.value c.in_err-check_names.ensures)

pub returns-in_err-groups : goal.returns-in_err-groups
returns-in_err-groups g c =
    let known = c.in_ok-places.ensures.ok in
    handed_on _ _ c.in_err-groups.field-0.0 c.from_residual-in_err-groups.ensures
    (by_shape (g.S.Schemas.tables c.args.schemas.now) c.places.result.now c.in_ok-places.places.items c.deref.result.now
    c.deref-2.result.now c.args.s.now c.in_err-groups.field-0.0
    c.places.ensures.value known.0 known.1 c.deref.ensures.value c.deref-2.ensures.value c.in_ok-check_names.ensures
    c.in_err-groups.ensures.checked)

pub statement-requires-clause-sound : goal.statement-requires-clause-sound
statement-requires-clause-sound g c =
    let known = c.in_ok-places.ensures.ok in
    sound_by (g.S.Schemas.tables c.args.schemas.now) c.places.result.now c.in_ok-places.places.items c.deref.result.now
    c.deref-2.result.now c.args.s.now c.places.ensures.sound
    c.places.ensures.value known.1 c.deref.ensures.value c.deref-2.ensures.value c.in_ok-check_names.ensures
    c.in_ok-groups.ensures.checked

pub returns : goal.returns
returns g c =
    let known = c.in_ok-places.ensures.ok in
    by_none (g.S.Schemas.tables c.args.schemas.now) c.places.result.now c.in_ok-places.places.items c.deref.result.now
    c.deref-2.result.now c.args.s.now c.in_ok-statement.field-0
    c.places.ensures.value known.0 known.1 c.deref.ensures.value c.deref-2.ensures.value c.in_ok-check_names.ensures
    c.in_ok-groups.ensures.checked c.in_ok-statement.ensures
