use Rattle.std.specs.Prelude.{IfSome, None, Option}
use Rattle.std.proofs.lemmas.List.Elements.{All-replicate}
use Rattle.result_shape.specs.Hints.{IsHintAt}
use Rattle.result_shape.specs.declared.hints.Hint.{Hint}
use Rattle.result_shape.proofs.hints.Hints.new.Goals as goal

pub returns : goal.returns
returns c = λ positions. All-replicate (λ (slot : Option Hint). IfSome slot (IsHintAt positions)) 64 None tt
