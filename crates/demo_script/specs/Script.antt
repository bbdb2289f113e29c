-- The script of the demo: its tables, their indexes and its statement, then runs with drawn arguments.
use Rattle.std.specs.Prelude.{ℕ, zero, suc, ◌+◌, ◌*◌, min, max, List, [], ◌∷◌, ◌++◌, codes}
use Rattle.std.specs.Fmt.{decimal}
use Rattle.demo_script.specs.Draws.{next, below, after}
use Rattle.demo_script.specs.Tables.{behind_c}

-- the statement: of each zone, how many rows of `c` are joined to it, and the sum of their quantities
abbrev pub statement_text : List ℕ
statement_text =
    codes "SELECT a.zone, COUNT(*), SUM(c.qty) FROM a, b, c"
    ++ codes " WHERE a.id = b.aid AND b.id = c.bid AND b.day BETWEEN ? AND ? AND c.qty < ?"
    ++ codes " GROUP BY a.zone ORDER BY a.zone"

-- what stands before the runs
abbrev pub setup_lines : List (List ℕ)
setup_lines =
    codes "load a a.csv"
    ∷ codes "load b b.csv"
    ∷ codes "load c c.csv"
    ∷ codes "index b day"
    ∷ codes "index b id"
    ∷ codes "index c bid"
    ∷ codes "index c qty"
    ∷ (codes "prepare q " ++ statement_text)
    ∷ []

-- a run over the days from the first to the last, and quantities below a limit
abbrev pub run_text : ℕ → ℕ → ℕ → List ℕ
run_text first last limit =
    codes "run q " ++ (decimal first ++ (codes " " ++ (decimal last ++ (codes " " ++ decimal limit))))

-- the run drawn behind x: two days below 1000, the lesser first, and one more than a quantity below 100
abbrev pub drawn_run : ℕ → List ℕ
drawn_run x =
    let y = next x in
    let z = next y in
    let w = next z in
    run_text (min (below 1000 y) (below 1000 z)) (max (below 1000 y) (below 1000 z)) (below 100 w + 1)

-- the first runs, drawn behind x
unfoldable pub run_lines : (count x : ℕ) → List (List ℕ)
run_lines zero x = []
run_lines (suc count) x = run_lines count x ++ drawn_run (after (3 * count) x) ∷ []

-- the lines of the demo with so many runs
abbrev pub demo_script : ℕ → List (List ℕ)
demo_script runs = setup_lines ++ run_lines runs behind_c

-- the line behind them, whose reply shows what the cache holds at the end; it is no line of the script
abbrev pub show_line : List ℕ
show_line = codes "show q"
