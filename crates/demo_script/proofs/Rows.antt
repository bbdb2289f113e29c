-- Draws, rows and runs, one more at a time.
use Rattle.std.proofs.Common.{ℕ, zero, suc, ◌≡◌, ◌+◌, ◌*◌, ◌∙◌, List, [], ◌∷◌, ◌++◌}
use Rattle.std.proofs.Common.{append_assoc, length, length-append, ap, sym, subst, refl, arith}
use Rattle.demo_script.specs.Draws.{next, below, after}
use Rattle.demo_script.specs.Script.{demo_script, drawn_run, run_lines, setup_lines}
use Rattle.demo_script.specs.Tables.{behind_c, a_rows, b_rows, c_rows, two_cells, three_cells}

pub after_none : (x : ℕ) → after 0 x ≡ x
unfolding after
after_none x = refl

pub after_one : (n x : ℕ) → after (n + 1) x ≡ next (after n x)
unfolding after
after_one n x = let e : n + 1 ≡ suc n = omega arith in ap (λ k. after k x) e

pub after_two : (n x : ℕ) → after (2 * (n + 1)) x ≡ next (next (after (2 * n) x))
after_two n x =
    let e : 2 * (n + 1) ≡ (2 * n + 1) + 1 = omega arith in
    ap (λ k. after k x) e ∙ (after_one (2 * n + 1) x ∙ ap next (after_one (2 * n) x))

pub a_rows_none : (x : ℕ) → a_rows 0 x ≡ []
unfolding a_rows
a_rows_none x = refl

pub b_rows_none : (x : ℕ) → b_rows 0 x ≡ []
unfolding b_rows
b_rows_none x = refl

pub c_rows_none : (x : ℕ) → c_rows 0 x ≡ []
unfolding c_rows
c_rows_none x = refl

pub a_rows_one : (n x : ℕ) → a_rows (n + 1) x ≡ a_rows n x ++ two_cells (n + 1) (below 10 (next (after n x)))
unfolding a_rows
a_rows_one n x =
    let e : n + 1 ≡ suc n = omega arith in
    let P : ℕ → Type 0 = λ k. a_rows k x ≡ a_rows n x ++ two_cells k (below 10 (next (after n x))) in
    subst P (sym e) refl

pub b_rows_one : (n x : ℕ) → b_rows (n + 1) x
    ≡ b_rows n x ++ three_cells (n + 1) (1 + below 500 (next (after (2 * n) x)))
    (below 1000 (next (next (after (2 * n) x))))
unfolding b_rows
b_rows_one n x =
    let e : n + 1 ≡ suc n = omega arith in
    let aid : ℕ = next (after (2 * n) x) in
    let P : ℕ → Type 0 = λ k. b_rows k x ≡ b_rows n x ++ three_cells k (1 + below 500 aid) (below 1000 (next aid)) in
    subst P (sym e) refl

pub c_rows_one : (n x : ℕ) → c_rows (n + 1) x
    ≡ c_rows n x ++ two_cells (1 + below 5000 (next (after (2 * n) x))) (below 100 (next (next (after (2 * n) x))))
unfolding c_rows
c_rows_one n x =
    let e : n + 1 ≡ suc n = omega arith in
    let bid : ℕ = next (after (2 * n) x) in
    let P : ℕ → Type 0 =
    λ k. c_rows k x ≡ c_rows n x ++ two_cells (1 + below 5000 bid) (below 100 (next bid)) in
    subst P (sym e) refl

-- What a loop has after one row more, whose cells were drawn one after the other.

pub a_goes_on : (t new old : List ℕ) (n x d zone cell : ℕ) → zone ≡ next d → cell ≡ below 10 zone
    → new ≡ t ++ two_cells (n + 1) cell → t ≡ old ++ a_rows n x → d ≡ after n x → new ≡ old ++ a_rows (n + 1) x
a_goes_on t new old n x d zone cell z e made rows draws =
    let row = a_rows_one n x in
    let split = append_assoc old (a_rows n x) (two_cells (n + 1) (below 10 (next (after n x)))) in
    cc

pub b_goes_on : (t new old : List ℕ) (n x d aid day first second : ℕ) → aid ≡ next d → first ≡ below 500 aid
    → day ≡ next aid → second ≡ below 1000 day → new ≡ t ++ three_cells (n + 1) (1 + first) second
    → t ≡ old ++ b_rows n x → d ≡ after (2 * n) x → new ≡ old ++ b_rows (n + 1) x
b_goes_on t new old n x d aid day first second a e b f made rows draws =
    let aid' : ℕ = next (after (2 * n) x) in
    let row = b_rows_one n x in
    let split = append_assoc old (b_rows n x) (three_cells (n + 1) (1 + below 500 aid') (below 1000 (next aid'))) in
    cc

pub c_goes_on : (t new old : List ℕ) (n x d bid qty first second : ℕ) → bid ≡ next d → first ≡ below 5000 bid
    → qty ≡ next bid → second ≡ below 100 qty → new ≡ t ++ two_cells (1 + first) second
    → t ≡ old ++ c_rows n x → d ≡ after (2 * n) x → new ≡ old ++ c_rows (n + 1) x
c_goes_on t new old n x d bid qty first second a e b f made rows draws =
    let bid' : ℕ = next (after (2 * n) x) in
    let row = c_rows_one n x in
    let split = append_assoc old (c_rows n x) (two_cells (1 + below 5000 bid') (below 100 (next bid'))) in
    cc

-- two draws more
pub two_draws : (n x d first second : ℕ) → first ≡ next d → second ≡ next first → d ≡ after (2 * n) x
    → second ≡ after (2 * (n + 1)) x
two_draws n x d first second a b e = let more = after_two n x in cc

-- Runs.

pub run_lines_none : (x : ℕ) → run_lines 0 x ≡ []
unfolding run_lines
run_lines_none x = refl

pub run_lines_one : (n x : ℕ) → run_lines (n + 1) x ≡ run_lines n x ++ drawn_run (after (3 * n) x) ∷ []
unfolding run_lines
run_lines_one n x = let e : n + 1 ≡ suc n = omega arith in ap (λ k. run_lines k x) e

pub after_three : (n x : ℕ) → after (3 * (n + 1)) x ≡ next (next (next (after (3 * n) x)))
after_three n x =
    let e : 3 * (n + 1) ≡ ((3 * n + 1) + 1) + 1 = omega arith in
    ap (λ k. after k x) e
    ∙ (after_one ((3 * n + 1) + 1) x
    ∙ ap next (after_one (3 * n + 1) x ∙ ap next (after_one (3 * n) x)))

pub runs_go_on : (lines new old : List (List ℕ)) (n x d : ℕ) (line : List ℕ) → line ≡ drawn_run d
    → new ≡ lines ++ line ∷ [] → lines ≡ old ++ run_lines n x → d ≡ after (3 * n) x → new ≡ old ++ run_lines (n + 1) x
runs_go_on lines new old n x d line e made runs draws =
    let one = run_lines_one n x in
    let split = append_assoc old (run_lines n x) (drawn_run (after (3 * n) x) ∷ []) in
    cc

run_lines_length : (n x : ℕ) → length (run_lines n x) ≡ n
unfolding run_lines
run_lines_length zero x = refl
run_lines_length (suc n) x =
    let before = run_lines_length n x in
    let one : length (run_lines n x ++ drawn_run (after (3 * n) x) ∷ []) ≡ length (run_lines n x) + 1 =
    length-append (run_lines n x) (drawn_run (after (3 * n) x) ∷ []) in
    omega (arith, one, before)

pub script_length : (runs : ℕ) → length (demo_script runs) ≡ runs + 8
script_length runs =
    let all : length (demo_script runs) ≡ 8 + length (run_lines runs behind_c) =
    length-append setup_lines (run_lines runs behind_c) in
    let count = run_lines_length runs behind_c in
    omega (arith, all, count)
