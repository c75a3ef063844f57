use Rattle.std.proofs.Common.{◌≡◌, ℕ, ◌+◌, ◌*◌, ◌%◌, ◌^◌, rules, [], ◌∷◌, refl, ap, ◌∙◌, arith}
use Rattle.target.specs.declared.row.Row.TheVariants.{Number}
use Rattle.target.specs.Tables.{laid}
use Rattle.target.proofs.Laying.{laid_three}
use Rattle.scheme.specs.Shared.{digit_rows}
use Rattle.scheme.proofs.put.put_pair.Goals as goal

pub returns : goal.returns
returns c =
    let at = c.args.at in
    let weight : 1 * 2 ^ c.args.i % 2 ^ 64 ≡ 2 ^ c.args.i = search rules in
    laid_three c.args.rows.now c.put.new.rows c.put_digit.new.rows c.put_digit-2.new.rows at (at + 1) (at + 3)
    (Number _ ∷ []) (digit_rows c.args.base.lemma.a at c.args.base.two (at + 1)) (digit_rows c.args.base.lemma.b at c.args.base.two (at + 3))
    (c.put.ensures ∙ ap (λ (w : ℕ). laid c.args.rows.now at (Number w ∷ [])) weight) c.put_digit.ensures c.put_digit-2.ensures refl refl (omega arith)
