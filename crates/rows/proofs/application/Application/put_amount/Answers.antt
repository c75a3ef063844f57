use Rattle.rows.proofs.Shifting.{amount_laid}
use Rattle.rows.proofs.application.Application.put_amount.Goals as goal

pub returns-clause-table : goal.returns-clause-table
returns-clause-table g c =
    amount_laid (g.M.Move.moved_by c.args.how.now) c.args.self.o.b c.args.by.exponent c.args.former c.args.at c.put_moved-next.result
    c.args.rows.now c.put.new.rows c.put_moved-next.new.rows c.put-2.new.rows
    (rw c.from.ensures at c.put.ensures.table) c.put_moved-next.ensures.table c.put_moved-next.ensures.next c.put-2.ensures.table c.requires
