use Rattle.std.proofs.Common.{ℕ, ◌≡◌, ◌∙◌, ◌++◌, ◌∷◌, [], List, ap₂, arith, drop, sym, take}
use Rattle.row_values.specs.Statements.{Statement}
use Rattle.statement_meaning.specs.Spelling.{row_line}
use Rattle.result_shape.specs.Rows.{rows_seen}
use Rattle.session_engine.specs.Cursors.{lines_of}
use Rattle.result_shape.specs.declared.rows.Rows.{Rows}
use Rattle.session_engine.proofs.FetchedRows.{ends, rows_next}
use Rattle.session_engine.proofs.waiting.lines_between.Goals as goal

pub loop-i-preserved : goal.loop-i-preserved
loop-i-preserved c =
    let before = c.loop-i.auto.i in
    let less = c.loop-i-test.true in
    let end = c.requires in (
      c.in_ok-push.ensures.ok
          ∙ (ap₂ (λ (lines : List (List ℕ)) (line : List ℕ). lines ++ line ∷ []) c.loop-i.invariant.0
          c.in_ok-row_text.ensures
          ∙ sym (rows_next row_line (rows_seen c.args.q.now c.args.rows.now) c.args.first c.loop-i.i before
          (omega (arith, less, end)))),
      λ none. absurd (omega (arith, before, less, none)),
    )

pub returns : goal.returns
returns c =
    ends c.args.first c.args.end c.loop-i.i c.loop-i-test.false c.loop-i.auto.i-end c.loop-i.invariant.1
    (take_at c.args.q.now c.args.rows.now c.args.first c.loop-i.lines) c.loop-i.invariant.0
  where
    take_at : Statement → Rows → ℕ → List (List ℕ) → ℕ → Type 0
    take_at q rows first lines n = lines ≡ take n (drop first (lines_of q rows))
