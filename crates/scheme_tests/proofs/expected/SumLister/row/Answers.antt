use Rattle.std.proofs.Common.{sym, ◌∙◌}
use Rattle.scheme_tests.proofs.PlacedRows.{sum_inner}
use Rattle.scheme_tests.proofs.expected.SumLister.row.Goals as goal

pub returns : goal.returns
returns c =
    c.sum_row.ensures
    ∙ sum_inner c.args.f c.args.j c.total_before-former.result (sym c.is_small.ensures ∙ c.if-not-is_small.false) c.if-j-lt3.false c.if-i-f.false c.total_before-former.ensures
