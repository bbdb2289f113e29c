-- How a combination is held in place: its row numbers, and zeros behind them.
use Rattle.std.specs.Prelude.{ℕ, ◌≡◌, List, length, take}
use Rattle.std.proofs.Common.{ap}
use Rattle.plan_trees.specs.Padded.{IsPadded, indexed_back, indexed_inside, padded}
use Rattle.plan_trees.specs.declared.statistics.Indexed.TheInside as indexed
use Rattle.plan_operators.specs.declared.combos.Combo.TheInside as combo

abbrev pub combo_inside : List ℕ → ℕ → combo.Inside
combo_inside rows count = record { rows = rows; count = count }

abbrev pub IsCombo : combo.Inside → Type 0
IsCombo c = IsPadded 5 c.rows c.count

pub combo_back : (c : combo.Inside) → IsCombo c
    → combo_inside (padded 5 (take c.count c.rows)) (length (take c.count c.rows)) ≡ c
combo_back c h =
    ap (λ (ix : indexed.Inside). combo_inside ix.masks ix.count) (indexed_back (indexed_inside c.rows c.count) h)
