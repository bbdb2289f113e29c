use Rattle.std.proofs.Common.{◌≡◌, ◌++◌, List, ℤ, ap, ◌∙◌, sym}
use Rattle.std.proofs.lemmas.Cmp.{eq_by_cmp_equiv}
use Rattle.std.specs.Cmp.{int_cmp_total}
use Rattle.std.specs.Ordering.{int_cmp, is_eq}
use Rattle.table_index.specs.Distinct.{distinct_count}
use Rattle.table_index.proofs.SameHeads.{heads_of_permutation}
use Rattle.table_index.proofs.distinct.distinct_numbers.Goals as goal

pub returns : goal.returns
returns c =
    let copied : c.extend_from_slice.new.self.items ≡ c.args.numbers.now =
    c.in_ok-extend_from_slice.ensures.items
    ∙ ap (λ (front : List ℤ). front ++ c.args.numbers.now) c.in_ok-sorted.ensures.items in
    let same = heads_of_permutation (λ a b. is_eq (int_cmp a b)) (eq_by_cmp_equiv int_cmp_total)
    c.extend_from_slice.new.self.items c.sort_unstable.new.self.items
    c.sort_unstable.ensures.permutation in
    rw (c.distinct_sorted.ensures, c.as_slice.ensures.value)
    (sym same ∙ ap (distinct_count (λ a b. is_eq (int_cmp a b))) copied)
