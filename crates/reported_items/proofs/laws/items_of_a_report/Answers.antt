use Rattle.reported_items.proofs.Reports.{items_each}
use Rattle.reported_items.proofs.laws.items_of_a_report.Goals as goal

pub returns : goal.returns
returns c = λ lines replies numbered. items_each lines replies numbered
