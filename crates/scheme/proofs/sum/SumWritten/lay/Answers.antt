use Rattle.std.proofs.Common.{ℕ, ◌+◌, ◌*◌, [], ◌∷◌, ◌++◌, refl, ap, ◌∙◌, arith}
use Rattle.target.specs.declared.row.Row.TheVariants.{Number, Equal}
use Rattle.target.specs.Tables.{laid}
use Rattle.target.proofs.Laying.{then_laid}
use Rattle.scheme.specs.Shared.{base_of, turns, last_of}
use Rattle.scheme.specs.SumRows.{sum_size, sum_rows, sum_turn}
use Rattle.scheme.proofs.Fits.{fit}
use Rattle.scheme.proofs.Owed.{listed_stated}
use Rattle.scheme.proofs.SumOwes.{sum_bits_length, sum_owes}
use Rattle.scheme.proofs.sum.SumWritten.lay.Goals as goal

pub returns : goal.returns
returns c =
    let count = c.args.count in
    let l = c.args.lemma in
    let bits = turns (sum_turn (base_of count l)) count (count + 3) l.k in
    let answer = count + (11 * l.k + 3) in
    listed_stated sum_size sum_rows c.args.rows.now c.put.new.rows count l answer answer c.requires (sum_owes count l) (omega arith)
    (then_laid c.args.rows.now c.put_digits-total.new.rows c.put.new.rows count answer
    ((Number 0 ∷ Number 1 ∷ Number 2 ∷ []) ++ bits) (Equal l.c (last_of count (count + 3) bits) ∷ []) c.put_digits-total.ensures.table
    (c.put.ensures ∙ ap (λ (t : ℕ). laid c.put_digits-total.new.rows answer (Equal l.c t ∷ [])) c.put_digits-total.ensures.last) (omega (arith, sum_bits_length count l)) (omega (arith, (fit (sum_size l.k) c.args.rows.now count l c.requires).room)))
    refl
