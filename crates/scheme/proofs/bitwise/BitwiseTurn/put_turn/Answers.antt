use Rattle.std.proofs.Common.{◌+◌, [], ◌∷◌, ◌++◌, refl, arith}
use Rattle.target.specs.declared.row.Row.TheVariants.{Equal, And}
use Rattle.target.proofs.Laying.{then_laid, laid_three}
use Rattle.scheme.specs.Shared.{digit_rows, pair_rows, both_rows}
use Rattle.scheme.proofs.bitwise.BitwiseTurn.put_turn.Goals as goal

pub returns : goal.returns
returns c =
    let at = c.args.at in
    let s = c.args.base in
    let pair = pair_rows c.args.i s.lemma.a s.lemma.b s.two at in
    let digit = digit_rows s.lemma.c at s.two (at + 5) in
    record {
      table = laid_three c.args.rows.now c.put_digit.new.rows c.put_both.new.rows c.put.new.rows at (at + 7) (at + 11)
          (pair ++ digit) (both_rows (at + 2) (at + 4) s.zero s.one (at + 7)) (Equal (at + 6) (at + 10) ∷ And c.args.former (at + 11) ∷ [])
          (then_laid c.args.rows.now c.put_pair.new.rows c.put_digit.new.rows at (at + 5) pair digit c.put_pair.ensures c.put_digit.ensures refl (omega arith))
          c.put_both.ensures c.put.ensures refl refl (omega arith);
      last = refl;
    }
