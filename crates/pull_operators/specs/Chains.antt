-- What a chain promises of the combinations that are still to come.
use Rattle.std.specs.Prelude.{IsTrue}
use Rattle.row_values.specs.Sorting.{Rises}
use Rattle.plan_trees.specs.PlaceSets.{has}
use Rattle.plan_trees.specs.PlanSpace.{has_all_keys, wanted_order}
use Rattle.statement_meaning.specs.Meaning.{is_before}
use Rattle.statement_meaning.specs.PartialCombinations.{Once}
use Rattle.plan_operators.specs.Sources.{rows_read, world_read}
use Rattle.plan_operators.specs.declared.source.Source.{Source}
use Rattle.pull_operators.specs.StillToCome.{chain_to_come}
use Rattle.pull_operators.specs.declared.chain.Chain.{Chain}

-- each combination over its places is still to come once, and no other
abbrev pub GivesEachOnce : Source → Chain → Type 0
GivesEachOnce source chain = Once (world_read source) (has chain.places) (chain_to_come chain)

-- it has the places of all wanted keys
abbrev pub SeesWantedPlaces : Source → Chain → Type 0
SeesWantedPlaces source chain = IsTrue (has_all_keys chain.places (wanted_order source.q.now))

-- they come in the wanted order
abbrev pub GivesInOrder : Source → Chain → Type 0
GivesInOrder source chain = Rises (is_before (rows_read source) (wanted_order source.q.now)) (chain_to_come chain)
