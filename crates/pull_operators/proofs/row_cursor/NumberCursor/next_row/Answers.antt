use Rattle.pull_operators.proofs.Numbers.{first_left, none_left}
use Rattle.pull_operators.proofs.row_cursor.NumberCursor.next_row.Goals as goal

pub returns-then-self-clause-none : goal.returns-then-self-clause-none
returns-then-self-clause-none c = none_left c.args.self.now.end c.args.self.now.next c.if-self.true

pub returns-clause-given : goal.returns-clause-given
returns-clause-given c = first_left c.args.self.now.end c.args.self.now.next c.if-self.false
