use Rattle.std.proofs.Common.{sym, ◌∙◌, ap}
use Rattle.std.proofs.lemmas.Bool.{leb-true}
use Rattle.target.specs.Tables.{laid}
use Rattle.rows.specs.Rows.{register_rows}
use Rattle.rows.proofs.RegisterLaw.{laid_register}
use Rattle.rows.proofs.register.append_register.Goals as goal

pub returns-clause-law : goal.returns-clause-law
returns-clause-law c = λ ok.
    laid_register c.args.k c.args.rows.now c.write_register.new.rows c.args.at (leb-true _ _ (sym c.has_room.ensures ∙ c.if-not-has_room.false))
    (c.write_register.ensures.table ∙ ap (λ k. laid c.args.rows.now c.args.at (register_rows k c.args.at)) (c.bits.ensures ∙ c.in_ok-width.ensures.1))
