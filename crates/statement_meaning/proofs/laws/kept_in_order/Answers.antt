use Rattle.statement_meaning.specs.Combinations.{world_of}
use Rattle.statement_meaning.proofs.KeptOrder.{in_order-kept}
use Rattle.statement_meaning.proofs.laws.kept_in_order.Goals as goal

pub returns : goal.returns
returns c = λ q tables args. in_order-kept (world_of q tables args)
