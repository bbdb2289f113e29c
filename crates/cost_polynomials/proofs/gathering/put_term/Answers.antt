-- A sum that does not fit is the coefficient at the set's position.
use Rattle.std.proofs.Common.{◌≡◌, arith, ◌+◌, ◌<◌, ◌≤◌, ℕ, subst, sym, ap, ◌∙◌, set, get_or}
use Rattle.std.proofs.lemmas.List.{get_or_default}
use Rattle.cost_polynomials.specs.Polynomial.{Term, HasLarge}
use Rattle.cost_polynomials.proofs.Terms.{large_at}
use Rattle.cost_polynomials.proofs.gathering.put_term.Goals as goal

not_below : (a b : ℕ) → (a < b → ⊥) → b ≤ a
not_below a b h = omega arith

pub returns-in-None-clause-large : goal.returns-in-None-clause-large
returns-in-None-clause-large c = λ _.
    let items = c.args.terms.now.items in
    let i = c.in-Ok.i in
    let place = rw c.deref.ensures.value at c.in-Ok.ensures.found in
    let read : c.index.result.now ≡ get_or items i (0, 0) = c.index.ensures
    ∙ get_or_default items i _ (0, 0) place.within in
    let sum : c.args.coefficient + c.index.result.now.1 ≡ c.args.coefficient + (get_or items i (0, 0)).1 =
    ap (λ (t : Term). c.args.coefficient + t.1) read in
    subst HasLarge (ap (λ n. set items i (c.args.mask, n)) sum ∙ sym (place.more c.args.coefficient))
    (large_at items i (c.args.mask, c.args.coefficient + c.index.result.now.1) place.within
    (not_below _ _ c.in-None.ensures))
