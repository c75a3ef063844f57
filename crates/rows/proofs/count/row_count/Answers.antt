use Rattle.rows.proofs.Counting.{rows_counted}
use Rattle.rows.proofs.count.row_count.Goals as goal

pub returns-in_err-order-clause-length : goal.returns-in_err-order-clause-length
returns-in_err-order-clause-length c = rows_counted c.args.op c.args.o

pub returns-then-size-gt32768-clause-length : goal.returns-then-size-gt32768-clause-length
returns-then-size-gt32768-clause-length c = rows_counted c.args.op c.args.o

pub returns-else-has_and-clause-length : goal.returns-else-has_and-clause-length
returns-else-has_and-clause-length c = rows_counted c.args.op c.args.o
