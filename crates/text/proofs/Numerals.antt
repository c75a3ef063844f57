-- The digits of a number.
use Rattle.std.proofs.Common.{◌≡◌, ℕ, zero, suc, ◌+◌, ◌^◌, ◌<◌, ◌≤◌, map, length, sym, ◌∙◌, arith}
use Rattle.std.specs.Fmt.{decimal}
use Rattle.std.specs.Int.Digits.{digits_of}
use Rattle.std.proofs.lemmas.Bool.{ne_eqb}
use Rattle.std.proofs.lemmas.Fmt.{decimal_digit, decimal-digits_of, length-decimal-le}
use Rattle.text.specs.Numeral.{numeral}

pub numeral_some : (n : ℕ) → 0 < n → numeral n ≡ map (λ d. 48 + d) (digits_of 10 n)
unfolding numeral
numeral_some n h = rw (ne_eqb n 0 (omega arith))

-- it is what `{}` prints
pub numeral_decimal : (n : ℕ) → n < 2 ^ 64 → decimal n ≡ numeral n
unfolding numeral
numeral_decimal zero h = decimal_digit 0 (omega arith)
numeral_decimal (suc n) h = decimal-digits_of (suc n) (omega arith) h ∙ sym (numeral_some (suc n) (omega arith))

-- digits for each number below a power of ten
pub numeral_within : (k n : ℕ) → 0 < k → n < 10 ^ k → n < 2 ^ 64 → length (numeral n) ≤ k
numeral_within k n some below h = rw (← numeral_decimal n h) (length-decimal-le k n some below h)

pub numeral_short : (n : ℕ) → n < 2 ^ 64 → length (numeral n) ≤ 20
numeral_short n h = numeral_within 20 n (omega arith) (omega arith) h
