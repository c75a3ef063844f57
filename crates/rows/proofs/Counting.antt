-- How long the rows of an order are.
use Rattle.std.proofs.Common.{◌≡◌, ℕ, zero, suc, ◌+◌, ◌-◌, ◌*◌, ◌^◌, Bool, true, false, cond, leb, List, [], ◌∷◌, length, sym, refl, ◌∙◌, arith, length-append}
use Rattle.std.proofs.lemmas.Bool.{cond-true, cond-false}
use Rattle.source.specs.declared.operator.Operator.{Operator}
use Rattle.source.specs.declared.operator.Operator.TheVariants.{BvNot, BvNeg, BvAdd, BvSub, BvMul, BvUdiv, BvUrem, Extract, Concat, BvAnd, BvOr, BvXor, BvLshr, BvShl, BvUlt, BvUle, BvUgt, BvUge, BvSlt, BvSle, BvSgt, BvSge, Equal, Not, And, Or, Ite, Implies}
use Rattle.target.specs.declared.row.Row.{Row}
use Rattle.target.specs.declared.row.Row.TheVariants.{Number, Rem}
use Rattle.rows.specs.Rows.{top, spared, unless, amount_rows, shift_rows, right_rows, left_rows, rows_of, and_rows}
use Rattle.rows.specs.Counts.{left_count, own_count, has_and, RowsCounted}
use Rattle.rows.specs.declared.operands.Operands.{Operands}
use Rattle.rows.specs.Operands.{with_third}
use Rattle.rows.proofs.Conds.{cond_of}
use Rattle.rows.proofs.Shifting.{length_amount}
use Rattle.rows.proofs.AndOps.{and_op}

pub length_right : (a b i former at : ℕ) → length (shift_rows (right_rows a) b i former at) ≡ 5 * i
length_right a b zero former at = refl
length_right a b (suc i) former at =
    omega (arith, length-append (amount_rows (right_rows a) b i former at) (shift_rows (right_rows a) b i (at + 4) (at + 5)), length_right a b i (at + 4) (at + 5))

-- rows, and more unless they are spared
after : (test : Bool) (n : ℕ) (rows : List Row) → n + length (unless test rows) ≡ cond test n (n + length rows)
after true n rows = omega arith
after false n rows = refl

pub length_left : (k most size a b i former at : ℕ) → length (shift_rows (left_rows k most size a) b i former at) ≡ left_count k most i
length_left k most size a b zero former at = refl
length_left k most size a b (suc i) former at =
    let n : ℕ = length (left_rows k most size a i (at + 2)) in
    omega (
      arith,
      length-append (amount_rows (left_rows k most size a) b i former at) (shift_rows (left_rows k most size a) b i (at + (2 + n)) (at + (3 + n))),
      length_left k most size a b i (at + (2 + n)) (at + (3 + n)),
      length_amount (left_rows k most size a) b i former at,
      after (leb (most * 2 ^ i) (top k)) 5 (Rem (at + 2 + 1) size ∷ []),
    )

pub own_length : (op : Operator) (o : Operands) (at : ℕ) → length (rows_of op o at) ≡ own_count op o
own_length BvNot o at = refl
own_length BvNeg o at = omega (arith, after (spared BvNeg o) 2 (Rem (at + 1) at ∷ []))
own_length BvAdd o at = omega (arith, after (spared BvAdd o) 1 (Number (2 ^ o.k) ∷ Rem at (at + 1) ∷ []))
own_length BvSub o at = omega (arith, after (spared BvSub o) 1 (Number (2 ^ o.k) ∷ Rem at (at + 1) ∷ []))
own_length BvMul o at = omega (arith, after (spared BvMul o) 1 (Number (2 ^ o.k) ∷ Rem at (at + 1) ∷ []))
own_length BvUdiv o at = sym (cond_of length (spared BvUdiv o) _ _)
own_length BvUrem o at = sym (cond_of length (spared BvUrem o) _ _)
own_length (Extract u l) o at = omega (arith, after (spared (Extract u l) o) 2 (Number (2 ^ (u - l + 1)) ∷ Rem (at + 1) (at + 2) ∷ []))
own_length Concat o at = refl
own_length BvAnd o at = refl
own_length BvOr o at = refl
own_length BvXor o at = refl
own_length BvLshr o at = omega (arith, length_right o.a o.b o.k at (at + 1))
own_length BvShl o at = omega (arith, length_left o.k o.left.most (at + 1) o.a o.b o.k at (at + 2))
own_length BvUlt o at = refl
own_length BvUle o at = refl
own_length BvUgt o at = refl
own_length BvUge o at = refl
own_length BvSlt o at = refl
own_length BvSle o at = refl
own_length BvSgt o at = refl
own_length BvSge o at = refl
own_length Equal o at = refl
own_length Not o at = refl
own_length And o at = refl
own_length Or o at = refl
own_length Ite o at = refl
own_length Implies o at = refl

-- the image of the third operand does not count
pub own_third : (o : Operands) (c : ℕ) (op : Operator) → has_and op ≡ true → own_count op (with_third o c) ≡ own_count op o
own_third o c = and_op (λ op. own_count op (with_third o c) ≡ own_count op o) refl refl refl

pub and_length : (op : Operator) (o : Operands) (at : ℕ) (new : List Row) → has_and op ≡ true → length (and_rows op o at new) ≡ 6 + length new + own_count op o
and_length op o at new has =
    let own : List Row = rows_of op (with_third o at) (at + (6 + length new)) in
    omega (arith, length-append new own, own_length op (with_third o at) (at + (6 + length new)), own_third o at op has)

pub rows_counted : (op : Operator) (o : Operands) (at : ℕ) (new : List Row) → RowsCounted op o at new
rows_counted op o at new = record {
  own = own_length op o at;
  all = λ e. and_length op o at new e ∙ sym (cond-true (has_and op) (6 + length new + own_count op o) (own_count op o) e);
  only = λ e. own_length op o at ∙ sym (cond-false (has_and op) (6 + length new + own_count op o) (own_count op o) e);
}
