-- How an instance gets its plan, as the model says it.
use Rattle.cache_model.specs.Choices as model
use Rattle.session_engine.specs.declared.choosing.Choice.{Choice}
use Rattle.session_engine.specs.declared.choosing.Choice.TheVariants.{ByCost, ByOptimum, BySelectivity}

abbrev pub chosen : Choice → model.Choice
chosen (BySelectivity place) = model.BySelectivity place
chosen (ByCost place tried) = model.ByCost place tried
chosen (ByOptimum tried) = model.ByOptimum tried
