use Rattle.std.proofs.Common.{◌≡◌, Err, sym, ap, refl, subst, arith}
use Rattle.script.specs.Reading.{answer_of}
use Rattle.script.specs.Filled.{room_of, Filled}
use Rattle.script.proofs.Turns.{refuses}
use Rattle.script.proofs.Whole.{too_long, no_prologue, from_commands}
use Rattle.script.proofs.read.attempt.Goals as goal

pub returns-then-script-gt-SCRIPT_LIMIT : goal.returns-then-script-gt-SCRIPT_LIMIT
returns-then-script-gt-SCRIPT_LIMIT c =
    let w = too_long (room_of c.args.orders.now) (room_of c.args.names.now) c.args.script.now (omega arith) in
    let f = refuses _ (Err c.at.result) _ c.args.orders.now.rows.now c.args.names.now.rows.now c.at.ensures w in
    record { answer = f.0; tables = f.1; orders = record { lent = refl; limit = refl; long = refl }; names = record { lent = refl; limit = refl; long = refl } }

pub returns-in_err-prologue : goal.returns-in_err-prologue
returns-in_err-prologue c =
    let w = no_prologue (room_of c.args.orders.now) (room_of c.args.names.now) c.args.script.now (omega arith) _ c.in_err-prologue.ensures.value in
    let f = refuses _ c.from_residual.result _ c.args.orders.now.rows.now c.args.names.now.rows.now c.from_residual.ensures.1 w in
    record { answer = f.0; tables = f.1; orders = record { lent = refl; limit = refl; long = refl }; names = record { lent = refl; limit = refl; long = refl } }

pub returns : goal.returns
returns c =
    let w = sym (from_commands (room_of c.args.orders.now) (room_of c.args.names.now) c.args.script.now (omega arith) c.prologue.new.self c.in_ok-prologue.ensures.value (ap (λ x. x.now) c.in_ok-prologue.ensures.script)) in
    record {
      answer = subst (λ x. c.commands.result ≡ answer_of x) w c.commands.ensures.answer;
      orders = c.commands.ensures.orders;
      names = c.commands.ensures.names;
      tables = subst (λ x. Filled x c.commands.new.orders.rows.now c.commands.new.names.rows.now) w c.commands.ensures.tables;
    }
