-- The target rows of every order.
--
-- An order's rows stand from the index `at` on. Of the operands `o`, the images are o.a, o.b and o.c, the width of
-- the first is o.k and that of the second o.j, and the numbers of both lie within o.left and o.right.
use Rattle.std.specs.Prelude.{ℕ, zero, suc, ◌+◌, ◌-◌, ◌*◌, ◌/◌, ◌^◌, Bool, false, cond, List, [], ◌∷◌, ◌++◌, length, nat_le, nat_lt}
use Rattle.source.specs.declared.operator.Operator as op
use Rattle.source.specs.declared.operator.Operator.{Operator}
use Rattle.source.specs.declared.operator.Operator.TheVariants.{BvNot, BvNeg, BvAdd, BvSub, BvMul, BvUdiv, BvUrem, Extract, Concat, BvAnd, BvOr, BvXor, BvLshr, BvShl, BvUlt, BvUle, BvUgt, BvUge, BvSlt, BvSle, BvSgt, BvSge, Ite, Implies}
use Rattle.source.specs.declared.value.Value as value
use Rattle.source.specs.declared.value.Value.{Value}
use Rattle.target.specs.declared.row.Sort as sort
use Rattle.target.specs.declared.row.Row.{Row}
use Rattle.target.specs.declared.row.Row.TheVariants.{Unknown, Number, Truth, Add, Sub, Times, Quot, Rem, Equal, Less, AtMost, Not, And, Or, Choose}
use Rattle.rows.specs.declared.operands.Operands.{Operands}
use Rattle.rows.specs.Operands.{with_third}

-- A register, or an and-unknown, of k bits: the unknown, and that it is from 0 to below 2 ^ k. The last row is
-- asserted, and the image is the unknown.
abbrev pub register_rows : ℕ → ℕ → List Row
register_rows k at =
    Unknown ∷ Number 0 ∷ Number (2 ^ k) ∷ AtMost (at + 1) at ∷ Less at (at + 2) ∷ And (at + 3) (at + 4) ∷ []

-- a constant or a truth value
abbrev pub value_row : Value → Row
value_row (value.TheVariants.Bool b) = Truth b
value_row (value.TheVariants.Bits k n) = Number n

-- the greatest number of k bits
abbrev pub top : ℕ → ℕ
top k = 2 ^ k - 1

-- rows that are left out where the test holds
abbrev pub unless : Bool → List Row → List Row
unless test rows = cond test [] rows

-- an operation, then 2 ^ k and the remainder by it, unless the operation stays within k bits
abbrev pub reduced : Row → Bool → ℕ → ℕ → List Row
reduced row within k at = row ∷ unless within (Number (2 ^ k) ∷ Rem at (at + 1) ∷ [])

-- A division; unless the divisor b cannot be 0, whether it is, and the choice of the row `other` where it is. The rows
-- `before` are those that `other` needs.
abbrev pub guarded_rows : Row → List Row → ℕ → ℕ → Bool → ℕ → List Row
guarded_rows division before other b above at =
    cond above (division ∷ [])
    (Number 0 ∷ Equal b at ∷ (before ++ (division ∷ Choose sort.TheVariants.Int (at + 1) other (at + (2 + length before)) ∷ [])))

-- 2 ^ l and the quotient by it, then 2 ^ n and the remainder by that, unless the quotient stays below it
abbrev pub extract_rows : ℕ → ℕ → Bool → ℕ → ℕ → List Row
extract_rows l n below a at = Number (2 ^ l) ∷ Quot a at ∷ unless below (Number (2 ^ n) ∷ Rem (at + 1) (at + 2) ∷ [])

-- the row by which a comparison, unsigned or signed, compares the rows a and b; other operators have none
abbrev pub compared : Operator → ℕ → ℕ → Row
compared BvUlt a b = Less a b
compared BvSlt a b = Less a b
compared BvUle a b = AtMost a b
compared BvSle a b = AtMost a b
compared BvUgt a b = Less b a
compared BvSgt a b = Less b a
compared _ a b = AtMost b a

-- 2 ^ (k − 1) and 2; then the signed number of a, at + 4, and that of b, at + 7: twice the remainder by 2 ^ (k − 1), minus the operand
abbrev pub signed_rows : ℕ → ℕ → ℕ → ℕ → List Row
signed_rows k a b at =
    Number (2 ^ (k - 1)) ∷ Number 2
    ∷ Rem a at ∷ Times (at + 1) (at + 2) ∷ Sub (at + 3) a
    ∷ Rem b at ∷ Times (at + 1) (at + 5) ∷ Sub (at + 6) b ∷ []

-- the sum of a and b, less their and c, rolling over at 2 ^ k, which is the row at + 1
abbrev pub or_rows : ℕ → ℕ → ℕ → ℕ → ℕ → List Row
or_rows k a b c at = Add a b ∷ Number (2 ^ k) ∷ Rem at (at + 1) ∷ Sub (at + 2) c ∷ Rem (at + 3) (at + 1) ∷ []

-- One shift amount i: i, whether b is i, the rows `moved i` that move the operand by i places, and the choice of the
-- last of them, or else of the former choice.
abbrev pub amount_rows : (ℕ → ℕ → List Row) → ℕ → ℕ → ℕ → ℕ → List Row
amount_rows moved b i former at =
    Number i ∷ Equal b at
    ∷ (moved i (at + 2) ++ (Choose sort.TheVariants.Int (at + 1) (at + (1 + length (moved i (at + 2)))) former ∷ []))

-- so for i = n − 1 down to 0
abbrev pub shift_rows : (ℕ → ℕ → List Row) → ℕ → ℕ → ℕ → ℕ → List Row
shift_rows moved b zero former at = []
shift_rows moved b (suc i) former at =
    amount_rows moved b i former at ++ shift_rows moved b i (at + (2 + length (moved i (at + 2)))) (at + (3 + length (moved i (at + 2))))

-- 2 ^ i, and the quotient by it
abbrev pub right_rows : ℕ → ℕ → ℕ → List Row
right_rows a i at = Number (2 ^ i) ∷ Quot a at ∷ []

-- 2 ^ i, and the product with it, then the remainder by 2 ^ k, which is the row `size`, unless the product stays within k bits
abbrev pub left_rows : ℕ → ℕ → ℕ → ℕ → ℕ → ℕ → List Row
left_rows k most size a i at = Number (2 ^ i) ∷ Times a at ∷ unless (nat_le (most * 2 ^ i) (top k)) (Rem (at + 1) size ∷ [])

-- Whether the bounds show that the rows which correct an operation would change nothing: it stays within its bits, or
-- the divisor is not 0. Other operators have no such rows.
abbrev pub spared : Operator → Operands → Bool
spared BvNeg o = nat_le 1 o.left.least
spared BvAdd o = nat_le (o.left.most + o.right.most) (top o.k)
spared BvSub o = nat_le o.right.most o.left.least
spared BvMul o = nat_le (o.left.most * o.right.most) (top o.k)
spared BvUdiv o = nat_le 1 o.right.least
spared BvUrem o = nat_le 1 o.right.least
spared (Extract u l) o = nat_lt (o.left.most / 2 ^ l) (2 ^ (u - l + 1))
spared _ o = false

-- The rows of an operator. Of bvand, bvor and bvxor they are those after the and-scheme's, and o.c is the and-unknown.
abbrev pub rows_of : Operator → Operands → ℕ → List Row
rows_of BvNot o at = Number 1 ∷ Add o.a at ∷ Number (2 ^ o.k) ∷ Sub (at + 2) (at + 1) ∷ []
rows_of BvNeg o at = Number (2 ^ o.k) ∷ Sub at o.a ∷ unless (spared BvNeg o) (Rem (at + 1) at ∷ [])
rows_of BvAdd o at = reduced (Add o.a o.b) (spared BvAdd o) o.k at
rows_of BvSub o at = reduced (Sub o.a o.b) (spared BvSub o) o.k at
rows_of BvMul o at = reduced (Times o.a o.b) (spared BvMul o) o.k at
rows_of BvUdiv o at = guarded_rows (Quot o.a o.b) (Number (top o.k) ∷ []) (at + 2) o.b (spared BvUdiv o) at
rows_of BvUrem o at = guarded_rows (Rem o.a o.b) [] o.a o.b (spared BvUrem o) at
rows_of (Extract u l) o at = extract_rows l (u - l + 1) (spared (Extract u l) o) o.a at
rows_of Concat o at = Number (2 ^ o.j) ∷ Times o.a at ∷ Add (at + 1) o.b ∷ []
rows_of BvAnd o at = []
rows_of BvOr o at = or_rows o.k o.a o.b o.c at
rows_of BvXor o at = or_rows o.k o.a o.b o.c at ++ (Sub (at + 4) o.c ∷ Rem (at + 5) (at + 1) ∷ [])
rows_of BvLshr o at = Number 0 ∷ shift_rows (right_rows o.a) o.b o.k at (at + 1)
rows_of BvShl o at = Number 0 ∷ Number (2 ^ o.k) ∷ shift_rows (left_rows o.k o.left.most (at + 1) o.a) o.b o.k at (at + 2)
rows_of BvUlt o at = compared BvUlt o.a o.b ∷ []
rows_of BvUle o at = compared BvUle o.a o.b ∷ []
rows_of BvUgt o at = compared BvUgt o.a o.b ∷ []
rows_of BvUge o at = compared BvUge o.a o.b ∷ []
rows_of BvSlt o at = signed_rows o.k o.a o.b at ++ (compared BvSlt (at + 4) (at + 7) ∷ [])
rows_of BvSle o at = signed_rows o.k o.a o.b at ++ (compared BvSle (at + 4) (at + 7) ∷ [])
rows_of BvSgt o at = signed_rows o.k o.a o.b at ++ (compared BvSgt (at + 4) (at + 7) ∷ [])
rows_of BvSge o at = signed_rows o.k o.a o.b at ++ (compared BvSge (at + 4) (at + 7) ∷ [])
rows_of op.TheVariants.Equal o at = Equal o.a o.b ∷ []
rows_of op.TheVariants.Not o at = Not o.a ∷ []
rows_of op.TheVariants.And o at = And o.a o.b ∷ []
rows_of op.TheVariants.Or o at = Or o.a o.b ∷ []
rows_of Ite o at = Choose o.sort o.a o.b o.c ∷ []
rows_of Implies o at = Not o.a ∷ Or at o.b ∷ []

-- the last of the rows from `at` on, or where there is none another one
abbrev pub last_or : ℕ → ℕ → List Row → ℕ
last_or other at [] = other
last_or other at (row ∷ []) = at
last_or other at (row ∷ next ∷ rows) = at + (1 + length rows)

-- the image of an operator: the last of its rows, and of bvand, which has none here, the and-unknown
abbrev pub image : Operator → Operands → ℕ → ℕ
image op o at = last_or o.c at (rows_of op o at)

-- all rows of bvand, bvor or bvxor: the and-unknown's, the rows `new` of an and-scheme, and those of the operator
abbrev pub and_rows : Operator → Operands → ℕ → List Row → List Row
and_rows op o at new = register_rows o.k at ++ (new ++ rows_of op (with_third o at) (at + (6 + length new)))
