use Rattle.std.proofs.Common.{sym, ◌∙◌, arith}
use Rattle.std.proofs.lemmas.Bool.{leb-true}
use Rattle.rows.proofs.Usables.{usable_width}
use Rattle.rows.proofs.OrderLaw.{laid_means}
use Rattle.rows.proofs.order.append.Goals as goal

pub returns-clause-law : goal.returns-clause-law
returns-clause-law c = λ some.
    let is = c.in_ok-order.ensures in
    let room = leb-true _ _ (sym c.has_room.ensures ∙ c.if-not-has_room.false) in
    laid_means c.args.op c.args.o c.args.rows.now c.put.new.rows c.args.at (usable_width c.args.op c.args.o is.0).0 (rw (← is.1, ← is.2) (omega (arith, room, c.count.ensures.0))) (rw (is.1, is.2) at c.put.ensures.table)
