use Rattle.std.proofs.Common.{◌+◌, [], ◌∷◌, refl, arith}
use Rattle.target.specs.declared.row.Row.TheVariants.{Times, Add}
use Rattle.target.proofs.Laying.{laid_three}
use Rattle.scheme.specs.Shared.{pair_rows, both_rows}
use Rattle.scheme.proofs.sum.SumTurn.put_turn.Goals as goal

pub returns : goal.returns
returns c =
    let at = c.args.at in
    let s = c.args.base in
    record {
      table = laid_three c.args.rows.now c.put_pair.new.rows c.put_both.new.rows c.put.new.rows at (at + 5) (at + 9)
          (pair_rows c.args.i s.lemma.a s.lemma.b s.two at) (both_rows (at + 2) (at + 4) s.zero s.one (at + 5)) (Times at (at + 8) ∷ Add c.args.former (at + 9) ∷ [])
          c.put_pair.ensures c.put_both.ensures c.put.ensures refl refl (omega arith);
      last = refl;
    }
