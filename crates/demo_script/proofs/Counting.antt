-- One reply more in the counts, and the lines of counts one behind the other.
use Rattle.std.proofs.Common.{ℕ, ◌≡◌, ◌+◌, ◌∙◌, Bool, List, [], ◌∷◌, ◌++◌, Option, None, ap, sym, arith}
use Rattle.demo_script.specs.Summary.{Counts, all_rows, counts_of, executed, executions, one_for, rows_of}
use Rattle.demo_script.specs.Summary.{in_any_way, is_by_cost, is_by_selectivity, is_optimum, with_execution}
use Rattle.script_report.specs.declared.replies.By.{By}
use Rattle.script_report.specs.declared.replies.Reply.{Reply}

abbrev counts_with : ℕ → ℕ → ℕ → ℕ → ℕ → Counts
counts_with all optimised by_selectivity by_cost rows = record {
  executions = all;
  optimised = optimised;
  by_selectivity = by_selectivity;
  by_cost = by_cost;
  rows = rows;
}

executions_more : (such : By → Bool) (before : List Reply) (reply : Reply)
    → executions such (before ++ reply ∷ []) ≡ executions such before + one_for such (executed reply)
executions_more such [] reply = omega arith
executions_more such (first ∷ before) reply =
    let more = executions_more such before reply in omega (arith, more)

rows_more : (before : List Reply) (reply : Reply)
    → all_rows (before ++ reply ∷ []) ≡ all_rows before + rows_of (executed reply)
rows_more [] reply = omega arith
rows_more (first ∷ before) reply = let more = rows_more before reply in omega (arith, more)

counts_more : (before : List Reply) (reply : Reply)
    → counts_of (before ++ reply ∷ []) ≡ with_execution (counts_of before) (executed reply)
counts_more before reply =
    let all = executions_more in_any_way before reply in
    let optimised = executions_more is_optimum before reply in
    let by_selectivity = executions_more is_by_selectivity before reply in
    let by_cost = executions_more is_by_cost before reply in
    let rows = rows_more before reply in
    cc

same_counts : {a b c d e v w x y z : ℕ} → a ≡ v → b ≡ w → c ≡ x → d ≡ y → e ≡ z →
    counts_with a b c d e ≡ counts_with v w x y z
same_counts executions optimised by_selectivity by_cost rows = cc

with_none : (counts : Counts) → counts ≡ with_execution counts None
with_none counts =
    let executions : counts.executions ≡ counts.executions + 0 = omega arith in
    let optimised : counts.optimised ≡ counts.optimised + 0 = omega arith in
    let by_selectivity : counts.by_selectivity ≡ counts.by_selectivity + 0 = omega arith in
    let by_cost : counts.by_cost ≡ counts.by_cost + 0 = omega arith in
    let rows : counts.rows ≡ counts.rows + 0 = omega arith in
    same_counts executions optimised by_selectivity by_cost rows

-- what stood for some replies stands for one more
pub counts_on : (old new : Counts) (execution : Option (By × ℕ)) (before : List Reply) (reply : Reply)
    → execution ≡ executed reply → new ≡ with_execution old execution → old ≡ counts_of before
    → new ≡ counts_of (before ++ reply ∷ [])
counts_on old new execution before reply is made same =
    made
    ∙ (ap (λ counts. with_execution counts execution) same
    ∙ (ap (with_execution (counts_of before)) is ∙ sym (counts_more before reply)))

pub counts_stay : (old : Counts) (before : List Reply) (reply : Reply) → None ≡ executed reply
    → old ≡ counts_of before → old ≡ counts_of (before ++ reply ∷ [])
counts_stay old before reply is same = counts_on old old None before reply is (with_none old) same

-- four texts, one behind the other
pub four_lines : (start first second third fourth a b c d : List ℕ) → start ≡ [] → first ≡ start ++ a
    → second ≡ first ++ b → third ≡ second ++ c → fourth ≡ third ++ d → fourth ≡ a ++ b ++ c ++ d
four_lines start first second third fourth a b c d empty one two three four = cc
