-- What the functions on numbers below 2 ^ k give lies below 2 ^ k again.
use Rattle.std.proofs.Common.{ℕ, ◌+◌, ◌-◌, ◌/◌, ◌%◌, ◌^◌, ◌<◌, eqb, mod-lt, div-le_self, arith, pow_pos, pow-add}
use native.Mathlib.Nat.{mod-le}
use lib.Arith.{digits_lt}
use lib.Pow.{ones_lt}
use Rattle.std.proofs.lemmas.Bool.{cond_both}
use Rattle.source.specs.Numbers.{quotient, remainder, joined}

pub rolled_lt : (k n : ℕ) → n % 2 ^ k < 2 ^ k
rolled_lt k n = mod-lt n (pow_pos k)

pub quotient_lt : (k a b : ℕ) → a < 2 ^ k → quotient k a b < 2 ^ k
quotient_lt k a b h = cond_both (eqb b 0) (2 ^ k - 1) (a / b) (λ n. n < 2 ^ k) (λ _. ones_lt k) (λ _. omega (arith, div-le_self a b))

pub remainder_lt : (k a b : ℕ) → a < 2 ^ k → remainder a b < 2 ^ k
remainder_lt k a b h = cond_both (eqb b 0) a (a % b) (λ n. n < 2 ^ k) (λ _. h) (λ _. omega (arith, mod-le a b))

pub joined_lt : (k j a b : ℕ) → a < 2 ^ k → b < 2 ^ j → joined j a b < 2 ^ (k + j)
joined_lt k j a b ha hb = rw pow-add (digits_lt ha hb)
