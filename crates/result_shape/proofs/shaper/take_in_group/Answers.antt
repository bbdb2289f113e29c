use Rattle.std.proofs.Common.{◌++◌, ◌∷◌, [], length, subst, sym}
use Rattle.result_shape.specs.Groups.{AreGroupsOf, AreRuns, groups_in}
use Rattle.result_shape.specs.Numbered.{AreNumbered, AreWhole, IsNumberOf}
use Rattle.result_shape.specs.Rows.{StandForGroups}
use Rattle.result_shape.specs.declared.numbered.NumberColumn.{NumberColumn}
use Rattle.result_shape.proofs.GrowingGroups.{roomy}
use Rattle.result_shape.proofs.Numbering.{number_room}
use Rattle.result_shape.proofs.Places.{on_ok_both}
use Rattle.result_shape.proofs.shaper.take_in_group.Goals as goal

pub take_in-requires-clause-room : goal.take_in-requires-clause-room
take_in-requires-clause-room c =
    let stands = subst (StandForGroups c.requires.0 c.requires.1.0 c.args.keys.now c.args.items.now c.requires.1.1.0)
    c.in-ByNumber.is c.requires.1.1.1.1.0 in
    number_room c.requires.0 c.requires.1.0 c.requires.1.1.0 c.in-ByNumber.groups.firsts.items
    c.in-ByNumber.groups.tallies.items c.args.items.now stands.numbered c.requires.1.1.1.0.items_are
    c.requires.1.1.1.1.1

pub gather-requires-clause-roomy : goal.gather-requires-clause-roomy
gather-requires-clause-roomy c =
    let stands = subst (StandForGroups c.requires.0 c.requires.1.0 c.args.keys.now c.args.items.now c.requires.1.1.0)
    c.in-ByKeys.is c.requires.1.1.1.1.0 in
    roomy c.requires.0 c.requires.1.0 c.requires.1.1.0 (groups_in c.in-ByKeys.runs.items) c.args.items.now stands.0
    c.requires.1.1.1.0.items_are c.requires.1.1.1.1.1

pub returns-in-ByNumber-clause-taken : goal.returns-in-ByNumber-clause-taken
returns-in-ByNumber-clause-taken c =
    λ q tables h ready s.
    let stands = subst (StandForGroups q tables c.args.keys.now c.args.items.now h) c.in-ByNumber.is s in
    on_ok_both c.take_in.result _ _ _
    (λ (numbered : AreNumbered q tables (h ++ c.args.c.now ∷ []) c.take_in.new.self.firsts.items
    c.take_in.new.self.tallies.items) (whole : AreWhole (length c.args.items.now) c.take_in.new.self). record {
      number = subst (λ (column : NumberColumn). IsNumberOf c.args.keys.now column) (sym c.take_in.ensures.column) stands.number;
      whole = whole;
      numbered = numbered;
    })
    (c.take_in.ensures.taken q tables h c.args.keys.now ready stands.number stands.numbered)
    c.take_in.ensures.whole

pub returns-in-ByNumber-clause-memory : goal.returns-in-ByNumber-clause-memory
returns-in-ByNumber-clause-memory c =
    λ q tables h ready s.
    let stands = subst (StandForGroups q tables c.args.keys.now c.args.items.now h) c.in-ByNumber.is s in
    c.take_in.ensures.memory q tables h c.args.keys.now ready stands.number stands.numbered

pub returns-in-ByKeys-clause-taken : goal.returns-in-ByKeys-clause-taken
returns-in-ByKeys-clause-taken c =
    λ q tables h ready s.
    let stands = subst (StandForGroups q tables c.args.keys.now c.args.items.now h) c.in-ByKeys.is s in
    on_ok_both c.gather.result _ _ _
    (λ (groups : AreGroupsOf q tables (h ++ c.args.c.now ∷ []) (groups_in c.gather.new.runs.items))
    (runs : AreRuns c.gather.new.runs.items). (groups, runs))
    (c.gather.ensures.gathered q tables h ready stands.0)
    c.gather.ensures.runs

pub returns-in-ByKeys-clause-memory : goal.returns-in-ByKeys-clause-memory
returns-in-ByKeys-clause-memory c =
    λ q tables h ready s.
    let stands = subst (StandForGroups q tables c.args.keys.now c.args.items.now h) c.in-ByKeys.is s in
    c.gather.ensures.memory q tables h ready stands.0
