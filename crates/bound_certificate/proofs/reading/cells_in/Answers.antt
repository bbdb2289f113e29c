use Rattle.std.proofs.Common.{◌≡◌, [], ◌∷◌, ◌++◌, All, Some, ap, sym}
use Rattle.std.proofs.Common.{◌∙◌, subst, arith}
use Rattle.std.proofs.lemmas.List.{take_all}
use Rattle.std.proofs.lemmas.List.Elements.{All-push}
use Rattle.bound_certificate.specs.Certificates.{IsCell}
use Rattle.bound_certificate.proofs.Cells.{cell_found, cells_pushed, no_cell, one_each}
use Rattle.bound_certificate.proofs.reading.cells_in.Goals as goal

pub returns-in_default-clause-found : goal.returns-in_default-clause-found
returns-in_default-clause-found c = λ set cells all e.
    absurd (c.in_default.not-Some _
    (cell_found c.args.values.now set cells c.loop-value.value-index c.value-item.result no_cell
    c.cell_in.result all e c.loop-value-test.true c.value-item.is c.cell_in.ensures.found))

pub loop-value-preserved : goal.loop-value-preserved
loop-value-preserved c =
    let pushed : c.push.new.self.items ≡ c.loop-value.list.items ++ c.in-Some.cell ∷ [] = c.in_ok-push.ensures.items in
    record {
      fits = subst (All IsCell) (sym pushed)
          (All-push IsCell c.loop-value.list.items c.in-Some.cell c.loop-value.invariant.fits c.in-Some.ensures.fits);
      found = λ set cells all e. pushed
          ∙ cells_pushed c.args.values.now set cells c.loop-value.list.items c.loop-value.value-index
          c.value-item.result c.in-Some.cell all e c.loop-value-test.true c.value-item.is
          (c.loop-value.invariant.found set cells all e) c.in-Some.ensures.found;
    }

pub returns-clause-fits : goal.returns-clause-fits
returns-clause-fits c = c.loop-value.invariant.fits

pub returns-clause-found : goal.returns-clause-found
returns-clause-found c = λ set cells all e.
    let same = one_each c.args.values.now set cells e in
    ap Some (c.loop-value.invariant.found set cells all e
    ∙ take_all c.loop-value.value-index cells (omega arith))
