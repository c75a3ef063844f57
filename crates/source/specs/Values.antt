-- The SMT-LIB value of every operator.
use Rattle.std.specs.Prelude.{ℕ, ◌+◌, ◌-◌, ◌^◌, Bool, true, false, cond, not, ◌&&◌, ◌||◌, ◌==◌, bit_and, bit_or, bit_xor, nat_le, nat_lt}
use Rattle.source.specs.Widths.{is_width}
use Rattle.source.specs.Numbers.{complement, negated, sum, difference, product, quotient, remainder, extracted, joined, shifted_right, shifted_left, signed_less, signed_at_most}
use Rattle.source.specs.Sorts.{shape_of, count_of, fits, in_bounds}
use Rattle.source.specs.declared.operator.Operator.{Operator}
use Rattle.source.specs.declared.operator.Operator.TheVariants.{BvNot, BvNeg, BvAdd, BvSub, BvMul, BvUdiv, BvUrem, Extract, Concat, BvAnd, BvOr, BvXor, BvLshr, BvShl, BvUlt, BvUle, BvUgt, BvUge, BvSlt, BvSle, BvSgt, BvSge, Equal, Not, And, Or, Ite, Implies}
use Rattle.source.specs.declared.order.Sort as sorts
use Rattle.source.specs.declared.order.Sort.{Sort}
use Rattle.source.specs.declared.value.Value as values
use Rattle.source.specs.declared.value.Value.{Value}

abbrev pub sort_of : Value → Sort
sort_of (values.TheVariants.Bool b) = sorts.TheVariants.Bool
sort_of (values.TheVariants.Bits k n) = sorts.TheVariants.Bits k

-- a number of its width, which is from 1 to 32
abbrev pub is_value : Value → Bool
is_value (values.TheVariants.Bool b) = true
is_value (values.TheVariants.Bits k n) = is_width k && nat_lt n (2 ^ k)

-- the number of a value, a truth value being 0 or 1, and its truth
abbrev pub number_of : Value → ℕ
number_of (values.TheVariants.Bool b) = cond b 1 0
number_of (values.TheVariants.Bits k n) = n

abbrev pub truth_of : Value → Bool
truth_of (values.TheVariants.Bool b) = b
truth_of (values.TheVariants.Bits k n) = false

-- the width of a value; a truth value counts as one bit wide
abbrev pub bits_of : Value → ℕ
bits_of (values.TheVariants.Bool b) = 1
bits_of (values.TheVariants.Bits k n) = k

-- what an operator gives for operands that it takes
abbrev pub given : Operator → Value → Value → Value → Value
given BvNot a b c = values.TheVariants.Bits (bits_of a) (complement (bits_of a) (number_of a))
given BvNeg a b c = values.TheVariants.Bits (bits_of a) (negated (bits_of a) (number_of a))
given BvAdd a b c = values.TheVariants.Bits (bits_of a) (sum (bits_of a) (number_of a) (number_of b))
given BvSub a b c = values.TheVariants.Bits (bits_of a) (difference (bits_of a) (number_of a) (number_of b))
given BvMul a b c = values.TheVariants.Bits (bits_of a) (product (bits_of a) (number_of a) (number_of b))
given BvUdiv a b c = values.TheVariants.Bits (bits_of a) (quotient (bits_of a) (number_of a) (number_of b))
given BvUrem a b c = values.TheVariants.Bits (bits_of a) (remainder (number_of a) (number_of b))
given (Extract upper lower) a b c = values.TheVariants.Bits (upper - lower + 1) (extracted upper lower (number_of a))
given Concat a b c = values.TheVariants.Bits (bits_of a + bits_of b) (joined (bits_of b) (number_of a) (number_of b))
given BvAnd a b c = values.TheVariants.Bits (bits_of a) (bit_and (number_of a) (number_of b))
given BvOr a b c = values.TheVariants.Bits (bits_of a) (bit_or (number_of a) (number_of b))
given BvXor a b c = values.TheVariants.Bits (bits_of a) (bit_xor (number_of a) (number_of b))
given BvLshr a b c = values.TheVariants.Bits (bits_of a) (shifted_right (number_of a) (number_of b))
given BvShl a b c = values.TheVariants.Bits (bits_of a) (shifted_left (bits_of a) (number_of a) (number_of b))
given BvUlt a b c = values.TheVariants.Bool (nat_lt (number_of a) (number_of b))
given BvUle a b c = values.TheVariants.Bool (nat_le (number_of a) (number_of b))
given BvUgt a b c = values.TheVariants.Bool (nat_lt (number_of b) (number_of a))
given BvUge a b c = values.TheVariants.Bool (nat_le (number_of b) (number_of a))
given BvSlt a b c = values.TheVariants.Bool (signed_less (bits_of a) (number_of a) (number_of b))
given BvSle a b c = values.TheVariants.Bool (signed_at_most (bits_of a) (number_of a) (number_of b))
given BvSgt a b c = values.TheVariants.Bool (signed_less (bits_of a) (number_of b) (number_of a))
given BvSge a b c = values.TheVariants.Bool (signed_at_most (bits_of a) (number_of b) (number_of a))
given Equal a b c = values.TheVariants.Bool (number_of a == number_of b)
given Not a b c = values.TheVariants.Bool (not (truth_of a))
given And a b c = values.TheVariants.Bool (truth_of a && truth_of b)
given Or a b c = values.TheVariants.Bool (truth_of a || truth_of b)
given Ite a b c = cond (truth_of a) b c
given Implies a b c = values.TheVariants.Bool (not (truth_of a) || truth_of b)

-- whether as many operands as there are, are values
abbrev pub are_values : ℕ → Value → Value → Value → Bool
are_values n a b c = is_value a && ((nat_le n 1 || is_value b) && (nat_le n 2 || is_value c))

-- operands that are values of the right sorts, within bounds
abbrev pub taken : Operator → Value → Value → Value → Bool
taken op a b c =
    are_values (count_of (shape_of op)) a b c && (fits (shape_of op) (sort_of a) (sort_of b) (sort_of c) && in_bounds op (sort_of a) (sort_of b))

-- the value of an operator. Operands that it does not take give false; no workbook enters such an order.
abbrev pub value_of : Operator → Value → Value → Value → Value
value_of op a b c = cond (taken op a b c) (given op a b c) (values.TheVariants.Bool false)
