use Rattle.worked_tables.proofs.statement.WorkedStatement.vector.Goals as goal

pub vector-requires-clause-built : goal.vector-requires-clause-built
vector-requires-clause-built c = rw (c.deref.ensures.value, c.deref-2.ensures.value) c.self.invariant.built.built
