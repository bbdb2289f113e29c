use Rattle.std.proofs.Common.{◌≤◌, ◌∙◌, length, ap, sym, arith}
use Rattle.session_store.specs.Kept.{StoreState, statements_in}
use Rattle.session_store.proofs.Entries.{length-statements_in}
use Rattle.session_store.proofs.store.Store.count.Goals as goal

pub overflow_cast-result : goal.overflow_cast-result
overflow_cast-result c =
    let l = length-statements_in c.self.inside.statements.entries in
    let n = c.len.ensures.len in
    let few : length (statements_in c.self.inside.statements.entries) ≤ 256 = c.self.invariant.sound.few_statements in
    omega arith

pub returns : goal.returns
returns c =
    c.len.ensures.len ∙ (sym (length-statements_in c.self.inside.statements.entries)
    ∙ ap (λ (k : StoreState). length k.catalog.statements) c.self.view_is)
