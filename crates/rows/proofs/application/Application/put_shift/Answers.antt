use Rattle.std.proofs.Common.{◌-◌, arith}
use Rattle.rows.proofs.Shifting.{rest_room, rest_more, rest_none}
use Rattle.rows.proofs.application.Application.put_shift.Goals as goal

pub put_amount-next-requires : goal.put_amount-next-requires
put_amount-next-requires g c =
    rest_room (g.M.Move.moved_by c.args.how.now) c.args.self.o.b _ _ c.loop-i.rows c.loop-i.i (c.loop-i.i - 1) c.loop-i.former c.loop-i.next (omega arith) c.loop-i.invariant (omega arith)

pub loop-i-preserved : goal.loop-i-preserved
loop-i-preserved g c =
    rest_more (g.M.Move.moved_by c.args.how.now) c.args.self.o.b _ _ c.loop-i.rows c.loop-i.i (c.loop-i.i - 1) c.loop-i.former c.loop-i.next (omega arith) c.loop-i.invariant (omega arith)
    c.put_amount-next.new.rows c.put_amount-next.result c.put_amount-next.ensures.table c.put_amount-next.ensures.next

pub returns : goal.returns
returns g c =
    let d = rest_none (g.M.Move.moved_by c.args.how.now) c.args.self.o.b _ _ c.loop-i.rows c.loop-i.i c.loop-i.former c.loop-i.next (omega arith) c.loop-i.invariant in
    record { table = d.0; next = d.1 }
