use Rattle.std.proofs.Common.{refl}
use Rattle.session_store.specs.Kept.{put_held}
use Rattle.session_store.proofs.PresentTables.{more_held}
use Rattle.session_store.proofs.store.Store.held_with.Goals as goal

pub loop-place-preserved : goal.loop-place-preserved
loop-place-preserved c =
    more_held (put_held c.args.self.now.catalog.tables c.args.name.now c.args.new.now) c.args.places.now
    c.loop-place.held.items
    c.push.new.self.items c.in_ok-held_at.field-0 c.in_ok-held_at.field-0 c.loop-place.place-index c.place-item.result
    c.in_ok-push.ensures.items refl c.in_ok-held_at.ensures.content c.in_ok-held_at.ensures.flags
    c.in_ok-held_at.ensures.indexed c.place-item.is c.loop-place-test.true c.loop-place.invariant
