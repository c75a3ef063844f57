use Rattle.std.proofs.Common.{sym, arith, length-append}
use Rattle.target.proofs.Laying.{then_laid}
use Rattle.rows.proofs.put.put_unless.Goals as goal

pub returns-clause-table : goal.returns-clause-table
returns-clause-table c =
    let room = rw c.if-spared.false at c.requires in
    rw c.if-spared.false
    (then_laid c.args.rows.now c.put-next.new.rows c.put.new.rows c.args.at c.put-next.result c.args.first.now c.args.rest.now
    c.put-next.ensures.table c.put.ensures.table (sym c.put-next.ensures.next) (omega (arith, room, length-append c.args.first.now c.args.rest.now)))
