use Rattle.statement_meaning.proofs.JoinOrder.{joined_rises, joined_rows_rises}
use Rattle.statement_meaning.proofs.laws.join_keeps_order.Goals as goal

pub returns-clause-sides : goal.returns-clause-sides
returns-clause-sides c =
    λ world left right tables keys offered cs k o h r. joined_rises world left right tables keys k offered cs h o.only r

pub returns-clause-by_place : goal.returns-clause-by_place
returns-clause-by_place c =
    λ world left place tables keys offered cs k out r. joined_rows_rises world left place out tables keys k offered cs r
