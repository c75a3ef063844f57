-- The bit-vector functions of SMT-LIB's theory FixedSizeBitVectors on numbers. A bit-vector of width k is the
-- number below 2 ^ k that its bits write; every definition here is the standard's, read as numbers.
use Rattle.std.specs.Prelude.{ℕ, ◌+◌, ◌-◌, ◌*◌, ◌/◌, ◌%◌, ◌^◌, Bool, cond, ℤ, pos, ◌-ℤ◌, ◌==◌, int_le, int_lt, nat_lt}

-- the bits turned over
abbrev pub complement : ℕ → ℕ → ℕ
complement k a = 2 ^ k - 1 - a

-- the number that gives 0 when a is added to it
abbrev pub negated : ℕ → ℕ → ℕ
negated k a = (2 ^ k - a) % 2 ^ k

-- sum, difference and product, rolling over at 2 ^ k
abbrev pub sum : ℕ → ℕ → ℕ → ℕ
sum k a b = (a + b) % 2 ^ k

abbrev pub difference : ℕ → ℕ → ℕ → ℕ
difference k a b = (2 ^ k + a - b) % 2 ^ k

abbrev pub product : ℕ → ℕ → ℕ → ℕ
product k a b = (a * b) % 2 ^ k

-- division by zero gives all ones, and the dividend as remainder
abbrev pub quotient : ℕ → ℕ → ℕ → ℕ
quotient k a b = cond (b == 0) (2 ^ k - 1) (a / b)

abbrev pub remainder : ℕ → ℕ → ℕ
remainder a b = cond (b == 0) a (a % b)

-- the bits from the upper one down to the lower one
abbrev pub extracted : ℕ → ℕ → ℕ → ℕ
extracted upper lower a = (a / 2 ^ lower) % 2 ^ (upper - lower + 1)

-- the bits of a, and after them those of b, which has width j
abbrev pub joined : ℕ → ℕ → ℕ → ℕ
joined j a b = a * 2 ^ j + b

-- shifts by b places; no bit is left after k places or more
abbrev pub shifted_right : ℕ → ℕ → ℕ
shifted_right a b = a / 2 ^ b

abbrev pub shifted_left : ℕ → ℕ → ℕ → ℕ
shifted_left k a b = (a * 2 ^ b) % 2 ^ k

-- the two's-complement number: the top bit counts as -2 ^ (k - 1)
abbrev pub signed : ℕ → ℕ → ℤ
signed k a = cond (nat_lt a (2 ^ (k - 1))) (pos a) (pos a -ℤ pos (2 ^ k))

abbrev pub signed_less : ℕ → ℕ → ℕ → Bool
signed_less k a b = int_lt (signed k a) (signed k b)

abbrev pub signed_at_most : ℕ → ℕ → ℕ → Bool
signed_at_most k a b = int_le (signed k a) (signed k b)
