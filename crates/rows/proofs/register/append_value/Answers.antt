use Rattle.std.proofs.Common.{◌+◌, ◌≤◌, length, rules}
use Rattle.rows.proofs.RegisterLaw.{laid_value}
use Rattle.rows.proofs.register.append_value.Goals as goal

pub returns-clause-law : goal.returns-clause-law
returns-clause-law c = λ ok.
    let room : c.args.at + 1 ≤ length c.args.rows.now = search rules in
    let table = (c.lay.ensures.room room).1 in
    laid_value c.args.v c.args.rows.now c.lay.new.rows c.args.at room (cc)
