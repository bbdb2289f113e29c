-- Before the first that isn't nearer: behind all of them where there is no room, in place of the last, or beside all.
use Rattle.std.proofs.Common.{◌≡◌, ◌≤◌, ◌<◌, ◌-◌, length, not, sym, ◌∙◌, ap, subst, arith}
use Rattle.std.specs.List.{insert, position}
use Rattle.std.proofs.lemmas.List.{length-take-le}
use Rattle.cache_model.specs.declared.limits.TheConstants.{RECOST_LIMIT}
use Rattle.cost_check.specs.declared.nearest.Near.{Near}
use Rattle.cost_check.specs.Nearest.{is_nearer}
use Rattle.cost_check.proofs.Putting.{place_is, place_of, place_within, put_full, put_last, put_room}
use Rattle.cost_check.proofs.nearest.put.Goals as goal
use Rattle.cost_check.proofs.nearest.put.Goals.{then-len-limit, else-len-limit}

pub returns-then-place-limit : goal.returns-then-place-limit
returns-then-place-limit c =
    let at : c.unwrap_or-place.result ≡ place_of c.args.new c.args.nearest.now.items =
    place_is c.args.new c.args.nearest.now.items c.first_no_nearer.result c.len.result c.unwrap_or-place.result
    (c.first_no_nearer.ensures
    ∙ ap (position (λ (near : Near). not (is_nearer near c.args.new))) c.as_slice.ensures.value)
    c.len.ensures.value c.unwrap_or-place.ensures in
    put_last c.args.new c.args.nearest.now.items c.unwrap_or-place.result c.args.limit at
    (place_within c.args.new c.args.nearest.now.items c.unwrap_or-place.result at) c.requires.few
    c.if-place-limit.true

pub insert-requires : goal.insert-requires
insert-requires c =
    let at : c.unwrap_or-place.result ≡ place_of c.args.new c.args.nearest.now.items =
    place_is c.args.new c.args.nearest.now.items c.first_no_nearer.result c.len.result c.unwrap_or-place.result
    (c.first_no_nearer.ensures
    ∙ ap (position (λ (near : Near). not (is_nearer near c.args.new))) c.as_slice.ensures.value)
    c.len.ensures.value c.unwrap_or-place.ensures in
    let inside = place_within c.args.new c.args.nearest.now.items c.unwrap_or-place.result at in
    let few = c.requires.few in
    let limit = c.requires.limit in
    let long = c.len-2.ensures.value in (
      omega arith,
      (
        elim c.if-len-limit.branch [
          | then-len-limit w ↦
              let rest = ap length w.pop.ensures.rest in
              let taken = length-take-le (length c.args.nearest.now.items - 1) c.args.nearest.now.items (omega arith) in
              subst (λ v. c.unwrap_or-place.result ≤ length v.items) (sym w.nearest-is) (omega arith)
          | else-len-limit w ↦
              subst (λ v. c.unwrap_or-place.result ≤ length v.items) (sym w.nearest-is) inside
        ],
        elim c.if-len-limit.branch [
          | then-len-limit w ↦
              let rest = ap length w.pop.ensures.rest in
              let taken = length-take-le (length c.args.nearest.now.items - 1) c.args.nearest.now.items (omega arith) in
              subst (λ v. length v.items < RECOST_LIMIT) (sym w.nearest-is) (omega arith)
          | else-len-limit w ↦
              subst (λ v. length v.items < RECOST_LIMIT) (sym w.nearest-is) (omega arith)
        ],
      ),
    )

pub returns : goal.returns
returns c =
    let at : c.unwrap_or-place.result ≡ place_of c.args.new c.args.nearest.now.items =
    place_is c.args.new c.args.nearest.now.items c.first_no_nearer.result c.len.result c.unwrap_or-place.result
    (c.first_no_nearer.ensures
    ∙ ap (position (λ (near : Near). not (is_nearer near c.args.new))) c.as_slice.ensures.value)
    c.len.ensures.value c.unwrap_or-place.ensures in
    let nears = c.args.nearest.now.items in
    let place = c.unwrap_or-place.result in
    let inside : place ≤ length nears = place_within c.args.new nears place at in
    let few = c.requires.few in
    let long = c.len-2.ensures.value in
    c.insert.ensures.items
    ∙ elim c.if-len-limit.branch [
      | then-len-limit w ↦
          ap (λ v. insert v.items place c.args.new) w.nearest-is
          ∙ ap (λ xs. insert xs place c.args.new) w.pop.ensures.rest
          ∙ put_full c.args.new nears place c.args.limit at inside (omega arith) (omega arith)
      | else-len-limit w ↦
          ap (λ v. insert v.items place c.args.new) w.nearest-is
          ∙ put_room c.args.new nears place c.args.limit at inside (omega arith)
    ]
