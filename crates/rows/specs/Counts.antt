-- How many rows and assertions an order takes.
use Rattle.std.specs.Prelude.{◌≡◌, ℕ, zero, suc, ◌+◌, ◌*◌, ◌^◌, Bool, true, false, cond, List, length, nat_le}
use Rattle.target.specs.declared.row.Row.{Row}
use Rattle.source.specs.declared.operator.Operator.{Operator}
use Rattle.source.specs.declared.operator.Operator.TheVariants.{BvNot, BvNeg, BvAdd, BvSub, BvMul, BvUdiv, BvUrem, Extract, Concat, BvAnd, BvOr, BvXor, BvLshr, BvShl, BvUlt, BvUle, BvUgt, BvUge, BvSlt, BvSle, BvSgt, BvSge, Equal, Not, And, Or, Ite, Implies}
use Rattle.rows.specs.declared.operands.Operands.{Operands}
use Rattle.rows.specs.Rows.{top, spared, rows_of, and_rows}

-- the rows that move to the left by each of n amounts
abbrev pub left_count : ℕ → ℕ → ℕ → ℕ
left_count k most zero = 0
left_count k most (suc i) = left_count k most i + cond (nat_le (most * 2 ^ i) (top k)) 5 6

-- the rows of an operator, without those of an and-unknown and an and-scheme
abbrev pub own_count : Operator → Operands → ℕ
own_count BvNot o = 4
own_count BvNeg o = cond (spared BvNeg o) 2 3
own_count BvAdd o = cond (spared BvAdd o) 1 3
own_count BvSub o = cond (spared BvSub o) 1 3
own_count BvMul o = cond (spared BvMul o) 1 3
own_count BvUdiv o = cond (spared BvUdiv o) 1 5
own_count BvUrem o = cond (spared BvUrem o) 1 4
own_count (Extract u l) o = cond (spared (Extract u l) o) 2 4
own_count Concat o = 3
own_count BvAnd o = 0
own_count BvOr o = 5
own_count BvXor o = 7
own_count BvLshr o = 1 + 5 * o.k
own_count BvShl o = 2 + left_count o.k o.left.most o.k
own_count BvUlt o = 1
own_count BvUle o = 1
own_count BvUgt o = 1
own_count BvUge o = 1
own_count BvSlt o = 9
own_count BvSle o = 9
own_count BvSgt o = 9
own_count BvSge o = 9
own_count Equal o = 1
own_count Not o = 1
own_count And o = 1
own_count Or o = 1
own_count Ite o = 1
own_count Implies o = 2

-- whether an operator has an and-unknown
abbrev pub has_and : Operator → Bool
has_and BvAnd = true
has_and BvOr = true
has_and BvXor = true
has_and _ = false

-- all rows of an operator: those of an and-unknown and an and-scheme that adds `size` rows come first
abbrev pub row_count : Operator → Operands → ℕ → ℕ
row_count op o size = cond (has_and op) (6 + size + own_count op o) (own_count op o)

-- so many rows there are: of the operator from the index `at` on, and of it with the rows `new` of an and-scheme
pub record RowsCounted (op : Operator) (o : Operands) (at : ℕ) (new : List Row) : Type 0 where
  pub own : length (rows_of op o at) ≡ own_count op o
  pub all : has_and op ≡ true → length (and_rows op o at new) ≡ row_count op o (length new)
  pub only : has_and op ≡ false → length (rows_of op o at) ≡ row_count op o (length new)

-- the range of the and-unknown, and the scheme's answer
abbrev pub assertion_count : Operator → ℕ
assertion_count op = cond (has_and op) 2 0
