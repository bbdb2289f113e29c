use Rattle.statement_meaning.specs.Combinations.{world_of}
use Rattle.statement_meaning.proofs.Keeping.{sound_edges, once_is_kept, kept_is_once, once_means}
use Rattle.statement_meaning.proofs.laws.each_kept_once.Goals as goal

pub returns-clause-kept : goal.returns-clause-kept
returns-clause-kept c = λ q tables args cs s o. once_is_kept (world_of q tables args) (sound_edges q tables args s) cs o

pub returns-clause-each_once : goal.returns-clause-each_once
returns-clause-each_once c =
    λ q tables args cs s e. kept_is_once (world_of q tables args) (sound_edges q tables args s) cs e

pub returns-clause-meant : goal.returns-clause-meant
returns-clause-meant c = λ q tables args cs s o. once_means q tables args s cs o
