use Rattle.std.proofs.Common.{◌<◌, ap, arith, length}
use Rattle.session_store.specs.Kept.{StoreState}
use Rattle.session_store.proofs.Entries.{none_of}
use Rattle.session_store.proofs.Versions.{as_many, pushed_last, set_there}
use Rattle.session_store.proofs.store.Store.present_with.Goals as goal

pub returns-in_default : goal.returns-in_default
returns-in_default c =
    pushed_last c.self.inside.tables.entries c.args.self.now.catalog.tables c.args.name.now c.args.new.now
    c.in_ok-clone.field-0 c.in_ok-versions.versions.items c.push.new.self.items
    (ap (λ (k : StoreState). k.catalog.tables) c.self.view_is) (none_of _ c.in_default.ensures.found)
    c.in_ok-versions.ensures c.in_ok-push.ensures.items c.in_ok-clone.ensures.cases

pub index_mut-requires : goal.index_mut-requires
index_mut-requires c =
    let many = as_many c.self.inside.tables.entries c.args.self.now.catalog.tables c.in_ok-versions.versions.items
    (ap (λ (k : StoreState). k.catalog.tables) c.self.view_is) c.in_ok-versions.ensures in
    let within : c.in-Some.number < length c.self.inside.tables.entries = c.in-Some.ensures.within in
    omega (arith, many, within)

pub returns : goal.returns
returns c =
    set_there c.self.inside.tables.entries c.args.self.now.catalog.tables c.args.name.now c.args.new.now
    c.in_ok-versions-2.field-0 c.in_ok-versions.versions.items c.in-Some.number
    (ap (λ (k : StoreState). k.catalog.tables) c.self.view_is) c.in-Some.ensures.index c.in_ok-versions.ensures
    c.in_ok-versions-2.ensures.cases
