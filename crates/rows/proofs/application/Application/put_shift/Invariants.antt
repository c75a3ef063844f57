use Rattle.std.proofs.Common.{◌+◌, length}
use Rattle.target.specs.Tables.{laid}
use Rattle.rows.specs.Rows.{shift_rows}
use Rattle.rows.proofs.Shifting.{Rest}
use Rattle.rows.proofs.application.Application.put_shift.Given as goal

abbrev pub invariant-loop-i : goal.invariant-loop-i
invariant-loop-i g l =
    let all = shift_rows (g.M.Move.moved_by l.how) l.self.o.b l.self.o.k l.first l.at in
    Rest (g.M.Move.moved_by l.how) l.self.o.b (laid l.initial.rows l.at all) (l.at + length all) l.rows l.i l.former l.next
