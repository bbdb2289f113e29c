use Rattle.std.proofs.Common.{◌+◌, ◌∙◌, ◌<◌, List, Ok, Err, ap, arith, length, option_map, refl, slice_get, subst}
use denote.Ref.{Bor}
use Rattle.row_values.specs.declared.text.Words.{Words}
use Rattle.report_items.specs.declared.items.ReportItem.{ReportItem}
use Rattle.report_verifier.specs.Findings.{Accepts, SaidTooLarge, TurnsDown}
use Rattle.report_verifier.specs.Kept.{walk_of}
use Rattle.report_verifier.specs.Walk.{ExecutionStep, Walk, cursors_after}
use Rattle.report_verifier.proofs.KeptWalks.{accepted_walk, found_step, found_true, item_there, kept_found}
use Rattle.report_verifier.proofs.KeptWalks.{too_large_walk, true_there}
use Rattle.report_verifier.proofs.verifier.Verifier.execute.Goals as goal

pub find-requires-clause-entries : goal.find-requires-clause-entries
find-requires-clause-entries c =
    true_there c.self.inside.store.catalog c.args.name.now c.args.args.now c.in-Ok.instance c.query.result.now
    c.self.inside.ledger c.in-Ok.ensures c.query.ensures.value c.self.invariant.truth

pub invariant_of-self : goal.invariant_of-self
invariant_of-self c =
    let v = c.self.inside in
    let truth = found_true v.store.catalog c.args.name.now c.args.args.now c.in-Ok.instance c.query.result.now v.ledger
    c.find.new.ledger c.in-Ok.ensures c.query.ensures.value
    (record { of_it = c.find.ensures.entries; of_others = c.find.ensures.others }) c.self.invariant.truth in
    kept_found v.store v.store v.statements v.ledger c.find.new.ledger v.executions v.too_large v.items.items v.position
    v.executions v.too_large v.position v.lambda refl c.self.invariant.done c.self.invariant.within truth
    c.self.invariant

pub invariant_of-self-in-TurnedDown : goal.invariant_of-self-in-TurnedDown
invariant_of-self-in-TurnedDown c =
    let v = c.self.inside in
    let truth = found_true v.store.catalog c.args.name.now c.args.args.now c.in-Ok.instance c.query.result.now v.ledger
    c.find.new.ledger c.in-Ok.ensures c.query.ensures.value
    (record { of_it = c.find.ensures.entries; of_others = c.find.ensures.others }) c.self.invariant.truth in
    kept_found v.store v.store v.statements v.ledger c.find.new.ledger v.executions v.too_large v.items.items v.position
    v.executions v.too_large v.position v.lambda refl c.self.invariant.done c.self.invariant.within truth
    c.self.invariant

pub returns-in-TurnedDown : goal.returns-in-TurnedDown
returns-in-TurnedDown c =
    let v = c.self.inside in
    let there = c.item_at.ensures ∙ ap (λ (xs : List ReportItem). slice_get xs v.position) c.as_slice.ensures.value in
    let found = rw c.in-TurnedDown.is at c.in_ok-outcome.ensures.found in
    subst (λ (w : Walk). ExecutionStep w c.args.line (option_map (λ (x : Bor Words). x.now) c.args.cursor)
    c.args.name.now
    c.args.args.now (Err c.in-TurnedDown.why)) c.self.view_is
    (found_step v.store v.ledger v.executions v.too_large v.items.items v.position v.lambda c.args.line
    (option_map (λ (x : Bor Words). x.now) c.args.cursor) c.args.name.now c.args.args.now c.in-Ok.instance
    c.query.result.now _
    (TurnsDown c.in-TurnedDown.why) (Err c.in-TurnedDown.why) c.in-Ok.ensures c.query.ensures.value there found
    refl)

pub invariant_of-self-in-TooLarge : goal.invariant_of-self-in-TooLarge
invariant_of-self-in-TooLarge c =
    let v = c.self.inside in
    let truth = found_true v.store.catalog c.args.name.now c.args.args.now c.in-Ok.instance c.query.result.now v.ledger
    c.find.new.ledger c.in-Ok.ensures c.query.ensures.value
    (record { of_it = c.find.ensures.entries; of_others = c.find.ensures.others }) c.self.invariant.truth in
    let there = c.item_at.ensures ∙ ap (λ (xs : List ReportItem). slice_get xs v.position) c.as_slice.ensures.value in
    let found = rw c.in-TooLarge.is at c.in_ok-outcome.ensures.found in
    let less : v.position < length v.items.items =
    item_there _ c.args.line c.args.name.now (v.executions + 1) v.items.items v.position _ _ there found (λ why e.
    cc) in
    let done = c.self.invariant.done in
    kept_found v.store v.store v.statements v.ledger c.find.new.ledger v.executions v.too_large v.items.items v.position
    v.executions (v.too_large + 1) (v.position + 1) v.lambda refl (omega (arith, done)) (omega (arith, less)) truth
    c.self.invariant

pub returns-in-TooLarge : goal.returns-in-TooLarge
returns-in-TooLarge c =
    let v = c.self.inside in
    let there = c.item_at.ensures ∙ ap (λ (xs : List ReportItem). slice_get xs v.position) c.as_slice.ensures.value in
    let found = rw c.in-TooLarge.is at c.in_ok-outcome.ensures.found in
    let unchanged = c.find.ensures.unchanged (c.in_ok-outcome.was ∙ ap (λ o. Ok o) c.in-TooLarge.is) in
    let cursors = cursors_after v.store.cursors v.store.catalog.tables
    (option_map (λ (x : Bor Words). x.now) c.args.cursor) c.query.result.now in
    let next = too_large_walk v.store v.ledger c.find.new.ledger v.executions v.too_large v.items.items v.position
    v.lambda
    cursors unchanged in
    subst (λ (w : Walk). ExecutionStep w c.args.line (option_map (λ (x : Bor Words). x.now) c.args.cursor)
    c.args.name.now
    c.args.args.now (Ok (walk_of v.store c.find.new.ledger v.executions (v.too_large + 1) v.items.items (v.position + 1)
    v.lambda))) c.self.view_is
    (found_step v.store v.ledger v.executions v.too_large v.items.items v.position v.lambda c.args.line
    (option_map (λ (x : Bor Words). x.now) c.args.cursor) c.args.name.now c.args.args.now c.in-Ok.instance
    c.query.result.now _
    SaidTooLarge (Ok (walk_of v.store c.find.new.ledger v.executions (v.too_large + 1) v.items.items (v.position + 1)
    v.lambda)) c.in-Ok.ensures c.query.ensures.value there found
    next)

pub invariant_of-self-in_err-hold-in-Accepted : goal.invariant_of-self-in_err-hold-in-Accepted
invariant_of-self-in_err-hold-in-Accepted c =
    let v = c.self.inside in
    let truth = found_true v.store.catalog c.args.name.now c.args.args.now c.in-Ok.instance c.query.result.now v.ledger
    c.find.new.ledger c.in-Ok.ensures c.query.ensures.value
    (record { of_it = c.find.ensures.entries; of_others = c.find.ensures.others }) c.self.invariant.truth in
    kept_found v.store c.hold.new.store v.statements v.ledger c.find.new.ledger v.executions v.too_large
    v.items.items v.position
    v.executions v.too_large v.position v.lambda c.hold.ensures.catalog c.self.invariant.done
    c.self.invariant.within truth
    c.self.invariant

pub invariant_of-self-in-Accepted : goal.invariant_of-self-in-Accepted
invariant_of-self-in-Accepted c =
    let v = c.self.inside in
    let truth = found_true v.store.catalog c.args.name.now c.args.args.now c.in-Ok.instance c.query.result.now v.ledger
    c.find.new.ledger c.in-Ok.ensures c.query.ensures.value
    (record { of_it = c.find.ensures.entries; of_others = c.find.ensures.others }) c.self.invariant.truth in
    let there = c.item_at.ensures ∙ ap (λ (xs : List ReportItem). slice_get xs v.position) c.as_slice.ensures.value in
    let found = rw c.in-Accepted.is at c.in_ok-outcome.ensures.found in
    let less : v.position < length v.items.items =
    item_there _ c.args.line c.args.name.now (v.executions + 1) v.items.items v.position _ _ there found (λ why e.
    cc) in
    let done = c.self.invariant.done in
    kept_found v.store c.hold.new.store v.statements v.ledger c.find.new.ledger v.executions v.too_large v.items.items
    v.position (v.executions + 1) v.too_large (v.position + 1) v.lambda c.hold.ensures.catalog (omega (arith, done))
    (omega (arith, less)) truth c.self.invariant

pub returns : goal.returns
returns c =
    let v = c.self.inside in
    let there = c.item_at.ensures ∙ ap (λ (xs : List ReportItem). slice_get xs v.position) c.as_slice.ensures.value in
    let found = rw c.in-Accepted.is at c.in_ok-outcome.ensures.found in
    let next = accepted_walk v.store c.hold.new.store v.ledger c.find.new.ledger v.executions v.too_large v.items.items
    v.position v.lambda _ c.hold.ensures.catalog
    (c.in_ok-hold-in-Accepted.ensures.held c.query.result.now c.query.ensures.value) in
    subst (λ (w : Walk). ExecutionStep w c.args.line (option_map (λ (x : Bor Words). x.now) c.args.cursor)
    c.args.name.now
    c.args.args.now (Ok (walk_of c.hold.new.store c.find.new.ledger (v.executions + 1) v.too_large v.items.items
    (v.position + 1) v.lambda))) c.self.view_is
    (found_step v.store v.ledger v.executions v.too_large v.items.items v.position v.lambda c.args.line
    (option_map (λ (x : Bor Words). x.now) c.args.cursor) c.args.name.now c.args.args.now c.in-Ok.instance
    c.query.result.now _
    (Accepts c.find.new.ledger) (Ok (walk_of c.hold.new.store c.find.new.ledger (v.executions + 1) v.too_large
    v.items.items
    (v.position + 1) v.lambda)) c.in-Ok.ensures c.query.ensures.value there found
    next)
