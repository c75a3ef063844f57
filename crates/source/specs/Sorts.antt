-- Which operands an operator takes, and the sort of what it gives.
use Rattle.std.specs.Prelude.{ℕ, ◌+◌, ◌-◌, Bool, true, false, ◌&&◌, ◌==◌, nat_le, nat_lt}
use Rattle.source.specs.declared.operator.Operator.{Operator}
use Rattle.source.specs.declared.operator.Operator.TheVariants.{BvNot, BvNeg, BvAdd, BvSub, BvMul, BvUdiv, BvUrem, Extract, Concat, BvAnd, BvOr, BvXor, BvLshr, BvShl, BvUlt, BvUle, BvUgt, BvUge, BvSlt, BvSle, BvSgt, BvSge, Equal, Not, And, Or, Ite, Implies}
use Rattle.source.specs.declared.order.Sort as sorts
use Rattle.source.specs.declared.shape.Shape as shapes
use Rattle.source.specs.declared.order.Sort.{Sort}

-- what an operator asks of the sorts of its operands
abbrev pub Shape : Type 0
Shape = shapes.Shape

-- one of bits
pattern abbrev pub one_bits : Shape
one_bits = shapes.TheVariants.OneBits

-- two of bits, of one width
pattern abbrev pub two_bits : Shape
two_bits = shapes.TheVariants.TwoBits

-- two of bits, of any widths
pattern abbrev pub any_bits : Shape
any_bits = shapes.TheVariants.AnyBits

-- one truth value
pattern abbrev pub one_truth : Shape
one_truth = shapes.TheVariants.OneTruth

-- two truth values
pattern abbrev pub two_truths : Shape
two_truths = shapes.TheVariants.TwoTruths

-- two of one sort
pattern abbrev pub two_alike : Shape
two_alike = shapes.TheVariants.TwoAlike

-- a truth value, and two of one sort
pattern abbrev pub choice : Shape
choice = shapes.TheVariants.Choice

abbrev pub shape_of : Operator → Shape
shape_of BvNot = one_bits
shape_of BvNeg = one_bits
shape_of BvAdd = two_bits
shape_of BvSub = two_bits
shape_of BvMul = two_bits
shape_of BvUdiv = two_bits
shape_of BvUrem = two_bits
shape_of (Extract u l) = one_bits
shape_of Concat = any_bits
shape_of BvAnd = two_bits
shape_of BvOr = two_bits
shape_of BvXor = two_bits
shape_of BvLshr = two_bits
shape_of BvShl = two_bits
shape_of BvUlt = two_bits
shape_of BvUle = two_bits
shape_of BvUgt = two_bits
shape_of BvUge = two_bits
shape_of BvSlt = two_bits
shape_of BvSle = two_bits
shape_of BvSgt = two_bits
shape_of BvSge = two_bits
shape_of Equal = two_alike
shape_of Not = one_truth
shape_of And = two_truths
shape_of Or = two_truths
shape_of Ite = choice
shape_of Implies = two_truths

-- how many operands there are
abbrev pub count_of : Shape → ℕ
count_of one_bits = 1
count_of two_bits = 2
count_of any_bits = 2
count_of one_truth = 1
count_of two_truths = 2
count_of two_alike = 2
count_of choice = 3

abbrev pub is_bool : Sort → Bool
is_bool sorts.TheVariants.Bool = true
is_bool (sorts.TheVariants.Bits k) = false

abbrev pub is_bits : Sort → Bool
is_bits sorts.TheVariants.Bool = false
is_bits (sorts.TheVariants.Bits k) = true

-- the width of bits; a truth value counts as one bit wide
abbrev pub width_of : Sort → ℕ
width_of sorts.TheVariants.Bool = 1
width_of (sorts.TheVariants.Bits k) = k

abbrev pub alike : Sort → Sort → Bool
alike sorts.TheVariants.Bool sorts.TheVariants.Bool = true
alike sorts.TheVariants.Bool (sorts.TheVariants.Bits j) = false
alike (sorts.TheVariants.Bits k) sorts.TheVariants.Bool = false
alike (sorts.TheVariants.Bits k) (sorts.TheVariants.Bits j) = k == j

-- whether operands of these sorts are taken; an operand that there is not is not looked at
abbrev pub fits : Shape → Sort → Sort → Sort → Bool
fits one_bits a b c = is_bits a
fits two_bits a b c = is_bits a && alike a b
fits any_bits a b c = is_bits a && is_bits b
fits one_truth a b c = is_bool a
fits two_truths a b c = is_bool a && is_bool b
fits two_alike a b c = alike a b
fits choice a b c = is_bool a && alike b c

-- whether extract's bounds lie within its operand, and a concatenation within 32 bits
abbrev pub in_bounds : Operator → Sort → Sort → Bool
in_bounds (Extract upper lower) a b = nat_le lower upper && nat_lt upper (width_of a)
in_bounds Concat a b = nat_le (width_of a + width_of b) 32
in_bounds BvNot a b = true
in_bounds BvNeg a b = true
in_bounds BvAdd a b = true
in_bounds BvSub a b = true
in_bounds BvMul a b = true
in_bounds BvUdiv a b = true
in_bounds BvUrem a b = true
in_bounds BvAnd a b = true
in_bounds BvOr a b = true
in_bounds BvXor a b = true
in_bounds BvLshr a b = true
in_bounds BvShl a b = true
in_bounds BvUlt a b = true
in_bounds BvUle a b = true
in_bounds BvUgt a b = true
in_bounds BvUge a b = true
in_bounds BvSlt a b = true
in_bounds BvSle a b = true
in_bounds BvSgt a b = true
in_bounds BvSge a b = true
in_bounds Equal a b = true
in_bounds Not a b = true
in_bounds And a b = true
in_bounds Or a b = true
in_bounds Ite a b = true
in_bounds Implies a b = true

-- the sort of what an operator gives for operands that it takes
abbrev pub result_sort : Operator → Sort → Sort → Sort → Sort
result_sort BvNot a b c = a
result_sort BvNeg a b c = a
result_sort BvAdd a b c = a
result_sort BvSub a b c = a
result_sort BvMul a b c = a
result_sort BvUdiv a b c = a
result_sort BvUrem a b c = a
result_sort (Extract upper lower) a b c = sorts.TheVariants.Bits (upper - lower + 1)
result_sort Concat a b c = sorts.TheVariants.Bits (width_of a + width_of b)
result_sort BvAnd a b c = a
result_sort BvOr a b c = a
result_sort BvXor a b c = a
result_sort BvLshr a b c = a
result_sort BvShl a b c = a
result_sort BvUlt a b c = sorts.TheVariants.Bool
result_sort BvUle a b c = sorts.TheVariants.Bool
result_sort BvUgt a b c = sorts.TheVariants.Bool
result_sort BvUge a b c = sorts.TheVariants.Bool
result_sort BvSlt a b c = sorts.TheVariants.Bool
result_sort BvSle a b c = sorts.TheVariants.Bool
result_sort BvSgt a b c = sorts.TheVariants.Bool
result_sort BvSge a b c = sorts.TheVariants.Bool
result_sort Equal a b c = sorts.TheVariants.Bool
result_sort Not a b c = sorts.TheVariants.Bool
result_sort And a b c = sorts.TheVariants.Bool
result_sort Or a b c = sorts.TheVariants.Bool
result_sort Ite a b c = b
result_sort Implies a b c = sorts.TheVariants.Bool
