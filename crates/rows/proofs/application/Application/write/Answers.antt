use Rattle.std.proofs.Common.{◌+◌, ◌^◌, [], ◌∷◌, ap, ◌∙◌}
use Rattle.target.specs.declared.row.Row.{Row}
use Rattle.target.specs.declared.row.Row.TheVariants.{Number, Sub, Rem}
use Rattle.target.specs.Tables.{laid}
use Rattle.rows.specs.Rows.{or_rows, shift_rows, right_rows, left_rows, rows_of}
use Rattle.rows.proofs.Parts.{laid_both}
use Rattle.rows.proofs.application.Application.write.Goals as goal

pub returns-in-BvXor-clause-table : goal.returns-in-BvXor-clause-table
returns-in-BvXor-clause-table c =
    let o = c.args.self.o in
    laid_both c.args.rows.now _ _ c.args.at _ (rows_of c.args.self.op o c.args.at) (or_rows o.k o.a o.b o.c c.args.at) (λ n. Sub (c.args.at + 4) o.c ∷ Rem (c.args.at + 5) (c.args.at + 1) ∷ [])
    (ap (λ op. rows_of op o c.args.at) c.in-BvXor.is) c.put_or-next.ensures.table c.put_or-next.ensures.next c.put-in-BvXor.ensures.table c.requires

pub returns-in-BvLshr-clause-table : goal.returns-in-BvLshr-clause-table
returns-in-BvLshr-clause-table c =
    let o = c.args.self.o in
    laid_both c.args.rows.now _ _ c.args.at _ (rows_of c.args.self.op o c.args.at) (Number 0 ∷ []) (shift_rows (right_rows o.a) o.b o.k c.args.at)
    (ap (λ op. rows_of op o c.args.at) c.in-BvLshr.is) c.put-next.ensures.table c.put-next.ensures.next c.put_shift.ensures.table c.requires

pub returns-in-BvShl-clause-table : goal.returns-in-BvShl-clause-table
returns-in-BvShl-clause-table c =
    let o = c.args.self.o in
    let size = c.row-in-BvShl.ensures ∙ ap (λ n. Number (2 ^ n)) c.size-size.ensures in
    laid_both c.args.rows.now _ _ c.args.at _ (rows_of c.args.self.op o c.args.at) (Number 0 ∷ Number (2 ^ o.k) ∷ []) (shift_rows (left_rows o.k o.left.most (c.args.at + 1) o.a) o.b o.k c.args.at)
    (ap (λ op. rows_of op o c.args.at) c.in-BvShl.is) (c.put-next-in-BvShl.ensures.table ∙ ap (λ (row : Row). laid c.args.rows.now c.args.at (Number 0 ∷ row ∷ [])) size)
    c.put-next-in-BvShl.ensures.next c.put_shift-in-BvShl.ensures.table c.requires
