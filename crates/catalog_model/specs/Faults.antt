-- What the refusals of a file and of a statement say.
use Rattle.std.specs.Prelude.{ℕ, List, [], ◌++◌, codes}
use Rattle.std.specs.Fmt.{decimal}
use Rattle.row_values.specs.Refusals as refused
use Rattle.row_values.specs.declared.refusals.Refusal.{Refusal}
use Rattle.csv_tables.specs.declared.faults.TableFault.{TableFault}
use Rattle.csv_tables.specs.declared.faults.TableFault.TheVariants.{Columns, BadHeader, Rows, Cells, NotCsv, BadCell, Memory}
use Rattle.name_binder.specs.declared.faults.BindFault.{BindFault}
use Rattle.name_binder.specs.declared.faults.BindFault.TheVariants as bind

-- what the refusal of a file that is no table shows; a table is never said to want memory
abbrev pub fault_text : TableFault → List ℕ
fault_text Columns = codes "columns"
fault_text (BadHeader column) = codes "bad header " ++ decimal column
fault_text Rows = codes "rows"
fault_text Cells = codes "cells"
fault_text (NotCsv row) = codes "not csv " ++ decimal row
fault_text (BadCell row column) = codes "bad cell " ++ (decimal row ++ (codes " " ++ decimal column))
fault_text Memory = []

-- the refusal of a statement that can't be bound; a binding is never said to want memory
abbrev pub bind_refusal : BindFault → Refusal
bind_refusal (bind.UnknownTable shown) = refused.unknown_table shown
bind_refusal (bind.AliasTwice shown) = refused.name_taken shown
bind_refusal (bind.UnknownColumn shown) = refused.unknown_column shown
bind_refusal (bind.Ambiguous shown) = refused.ambiguous shown
bind_refusal (bind.Misfit shown) = refused.misfit shown
bind_refusal (bind.TooMany shown) = refused.too_many shown
bind_refusal (bind.NotGrouped shown) = refused.not_grouped shown
bind_refusal (bind.SumOfText shown) = refused.misfit shown
bind_refusal bind.Memory = refused.syntax
