use Rattle.std.proofs.Common.{length, Err, sym, ap, arith, length-set}
use Rattle.std.proofs.lemmas.Bool.{leb-true, leb-false}
use Rattle.script.specs.Reading.{blank_order, blank_name}
use Rattle.script.specs.Filled.{room_of}
use Rattle.script.proofs.Turns.{same_push, room_push, no_open, no_word, no_finish, finished, no_register, no_order, goes_on, pushed, still_blank, left_at, refuses}
use Rattle.script.proofs.steps.Reader.commands.Goals as goal

pub returns-in_err-first : goal.returns-in_err-first
returns-in_err-first c =
    let f = refuses _ c.from_residual.result _ _ _ c.from_residual.ensures.1 (no_open c.loop-first.self c.loop-first.invariant.underway _ c.in_err-first.ensures.value) in
    record { answer = f.0; tables = f.1; orders = c.loop-first.invariant.orders_kept; names = c.loop-first.invariant.names_kept }

pub returns-in_err-command : goal.returns-in_err-command
returns-in_err-command c =
    let f = refuses _ c.from_residual-in_err-command.result _ _ _ c.from_residual-in_err-command.ensures.1
    (no_word c.loop-first.self c.loop-first.invariant.underway c.in_ok-first.first c.in_ok-first.ensures.value c.open.new.self c.in_ok-first.ensures.reader _ c.in_err-command.ensures.value) in
    record { answer = f.0; tables = f.1; orders = c.loop-first.invariant.orders_kept; names = c.loop-first.invariant.names_kept }

pub returns-in_err-finish-in-CheckSat : goal.returns-in_err-finish-in-CheckSat
returns-in_err-finish-in-CheckSat c =
    let f = refuses _ c.from_residual-in_err-finish-in-CheckSat.result _ _ _ c.from_residual-in_err-finish-in-CheckSat.ensures.1
    (no_finish c.loop-first.self c.loop-first.invariant.underway c.in_ok-first.first c.in_ok-first.ensures.value c.open.new.self c.in_ok-first.ensures.reader
    c.in_ok-command.command c.keyword.new.self c.in_ok-command.ensures.value c.in_ok-command.ensures.script c.in-CheckSat.is _ c.in_err-finish-in-CheckSat.ensures) in
    record { answer = f.0; tables = f.1; orders = c.loop-first.invariant.orders_kept; names = c.loop-first.invariant.names_kept }

pub returns-in_err-register-in-Declare : goal.returns-in_err-register-in-Declare
returns-in_err-register-in-Declare c =
    let f = refuses _ c.from_residual-in_err-register-in-Declare.result _ _ _ c.from_residual-in_err-register-in-Declare.ensures.1
    (no_register c.loop-first.self c.loop-first.invariant.underway c.in_ok-first.first c.in_ok-first.ensures.value c.open.new.self c.in_ok-first.ensures.reader
    c.in_ok-command.command c.keyword.new.self c.in_ok-command.ensures.value c.in_ok-command.ensures.script c.in-Declare.form c.in-Declare.is _ c.in_err-register-in-Declare.ensures.value) in
    record { answer = f.0; tables = f.1; orders = c.loop-first.invariant.orders_kept; names = c.loop-first.invariant.names_kept }

pub returns-then-is_full : goal.returns-then-is_full
returns-then-is_full c =
    let h = leb-true (room_of c.loop-first.orders) c.loop-first.orders.used (sym c.if-is_full.ensures) in
    let f = refuses _ (Err c.at.result) _ _ _ c.at.ensures
    (no_order c.loop-first.self c.loop-first.invariant.underway c.in_ok-first.first c.in_ok-first.ensures.value c.open.new.self c.in_ok-first.ensures.reader
    c.in_ok-command.command c.keyword.new.self c.in_ok-command.ensures.value c.in_ok-command.ensures.script c.in-Declare.form c.in-Declare.is
    c.in_ok-register-in-Declare.register c.in_ok-register-in-Declare.ensures.value h) in
    record { answer = f.0; tables = f.1; orders = c.loop-first.invariant.orders_kept; names = c.loop-first.invariant.names_kept }

pub returns-in-CheckSat : goal.returns-in-CheckSat
returns-in-CheckSat c =
    let f = left_at c.loop-first.orders c.loop-first.names _
    (finished c.loop-first.self c.loop-first.invariant.underway c.in_ok-first.first c.in_ok-first.ensures.value c.open.new.self c.in_ok-first.ensures.reader
    c.in_ok-command.command c.keyword.new.self c.in_ok-command.ensures.value c.in_ok-command.ensures.script c.in-CheckSat.is _ c.in_ok-finish-in-CheckSat.ensures)
    c.loop-first.invariant.orders_used c.loop-first.invariant.names_used c.loop-first.invariant.orders_left c.loop-first.invariant.names_left in
    record { answer = f.0; tables = f.1; orders = c.loop-first.invariant.orders_kept; names = c.loop-first.invariant.names_kept }

pub loop-first-preserved : goal.loop-first-preserved
loop-first-preserved c =
    let o = c.loop-first.orders in
    let n = c.loop-first.names in
    let i = c.loop-first.invariant in
    let p = c.push-in-Declare.ensures in
    let q = c.push.ensures in
    let h = leb-false (room_of o) o.used (sym c.if-is_full.ensures) in
    let l = c.in_ok-register-in-Declare.ensures.room in
    let e = pushed o c.push-in-Declare.new.self n c.push.new.self c.in_ok-first.first.place c.in_ok-register-in-Declare.register h l p.rows p.used q.rows q.used in
    let u = goes_on c.loop-first.self i.underway c.in_ok-first.first c.in_ok-first.ensures.value c.open.new.self c.in_ok-first.ensures.reader
    c.in_ok-command.command c.keyword.new.self c.in_ok-command.ensures.value c.in_ok-command.ensures.script c.in-Declare.form c.in-Declare.is
    c.in_ok-register-in-Declare.register c.in_ok-register-in-Declare.ensures.value c.declaration.new.self c.in_ok-register-in-Declare.ensures.reader _ h e in
    record {
      orders_kept = same_push c.args.orders.now o c.push-in-Declare.new.self _ i.orders_kept p.rows p.limit p.lent;
      names_kept = same_push c.args.names.now n c.push.new.self _ i.names_kept q.rows q.limit q.lent;
      orders_used = omega (arith, p.used, simp length-set at (ap length p.rows), h);
      names_used = omega (arith, q.used, simp length-set at (ap length q.rows), l);
      orders_left = still_blank o.rows.now o.used blank_order i.orders_left _ _ _ (omega (arith, h)) p.rows p.used;
      names_left = still_blank n.rows.now n.used blank_name i.names_left _ _ _ (omega (arith, l)) q.rows q.used;
      underway = rw (room_push n c.push.new.self _ q.rows q.limit, room_push o c.push-in-Declare.new.self _ p.rows p.limit) (rw (← p.used) at u);
    }
