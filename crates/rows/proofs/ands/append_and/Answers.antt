use Rattle.std.proofs.Common.{sym, ◌∙◌}
use Rattle.rows.proofs.AndCalls.{told_grants, told_appended}
use Rattle.rows.proofs.ands.append_and.Goals as goal

pub returns-in_err-answer : goal.returns-in_err-answer
returns-in_err-answer g c =
    let is = rw c.in_ok-order.ensures.ok_part at c.new.ensures in
    absurd (told_grants (g.S.Scheme.size c.args.scheme.now c.args.o.k) (g.S.Scheme.adds c.args.scheme.now) c.args.op c.args.o c.args.rows.now c.args.at
    (sym c.has_and.ensures ∙ c.if-not-has_and.false) is.0 c.size_at-size.result c.count.result c.size_at-size.ensures (rw (is.1, is.2) at c.count.ensures.0) c.in_ok-check.ensures.first
    c.write_register.new.rows (rw (c.size.ensures, is.2) at c.write_register.ensures.table) _ c.in_err-answer.ensures.0)

pub returns : goal.returns
returns g c =
    let is = rw c.in_ok-order.ensures.ok_part at c.new.ensures in
    told_appended (g.S.Scheme.size c.args.scheme.now c.args.o.k) (g.S.Scheme.adds c.args.scheme.now) c.args.op c.args.o c.args.rows.now c.args.at
    (sym c.has_and.ensures ∙ c.if-not-has_and.false) is.0 c.size_at-size.result c.count.result c.size_at-size.ensures (rw (is.1, is.2) at c.count.ensures.0) c.in_ok-check.ensures.first
    c.write_register.new.rows (rw (c.size.ensures, is.2) at c.write_register.ensures.table) c.state.new.rows c.in_ok-answer.answer c.in_ok-answer.ensures.1
    c.with_third.result.op c.with_third.result.o (c.with_third.ensures.op ∙ is.1) (rw is.2 at c.with_third.ensures.operands)
    c.put-image.new.rows c.put-image.result c.put-image.ensures.table c.put-image.ensures.last
