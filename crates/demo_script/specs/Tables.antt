-- The tables of the demo as CSV files: a header of bare columns, then rows, each ended by LF.
--
-- Cells are drawn row by row, and in a row from left to right.
use Rattle.std.specs.Prelude.{ℕ, zero, suc, ◌+◌, ◌*◌, List, [], ◌++◌, codes, Some, None, if◌then◌else◌}
use Rattle.std.specs.Fmt.{decimal}
use Rattle.std.specs.Str.{bytes_eq}
use Rattle.outside_model.specs.Files.{Files}
use Rattle.demo_script.specs.Draws.{start, next, below, after}

-- a row of two cells, and one of three

abbrev pub two_cells : ℕ → ℕ → List ℕ
two_cells first second = decimal first ++ (codes "," ++ (decimal second ++ codes "\n"))

abbrev pub three_cells : ℕ → ℕ → ℕ → List ℕ
three_cells first second third =
    decimal first ++ (codes "," ++ (decimal second ++ (codes "," ++ (decimal third ++ codes "\n"))))

-- The first rows of each table, drawn behind x.

-- `a`: ids from 1, each with a zone below 10
unfoldable pub a_rows : (count x : ℕ) → List ℕ
a_rows zero x = []
a_rows (suc count) x =
    let zone = next (after count x) in
    a_rows count x ++ two_cells (suc count) (below 10 zone)

-- `b`: ids from 1, each with an id of `a` and a day below 1000
unfoldable pub b_rows : (count x : ℕ) → List ℕ
b_rows zero x = []
b_rows (suc count) x =
    let aid = next (after (2 * count) x) in
    let day = next aid in
    b_rows count x ++ three_cells (suc count) (1 + below 500 aid) (below 1000 day)

-- `c`: an id of `b` and a quantity below 100
unfoldable pub c_rows : (count x : ℕ) → List ℕ
c_rows zero x = []
c_rows (suc count) x =
    let bid = next (after (2 * count) x) in
    let qty = next bid in
    c_rows count x ++ two_cells (1 + below 5000 bid) (below 100 qty)

-- The whole tables: `a` is drawn first, then `b`, then `c`.

abbrev pub a_table : ℕ → List ℕ
a_table x = codes "id,zone\n" ++ a_rows 500 x

abbrev pub b_table : ℕ → List ℕ
b_table x = codes "id,aid,day\n" ++ b_rows 5000 x

abbrev pub c_table : ℕ → List ℕ
c_table x = codes "bid,qty\n" ++ c_rows 20000 x

-- the number at which each table and the runs begin

abbrev pub behind_a : ℕ
behind_a = after 500 start

abbrev pub behind_b : ℕ
behind_b = after (2 * 5000) behind_a

abbrev pub behind_c : ℕ
behind_c = after (2 * 20000) behind_b

-- the files that the script loads
abbrev pub demo_files : Files
demo_files name =
    if bytes_eq name (codes "a.csv") then Some (a_table start) else
    if bytes_eq name (codes "b.csv") then Some (b_table behind_a) else
    if bytes_eq name (codes "c.csv") then Some (c_table behind_b) else None
