-- Bits of numbers, one by one.
use Rattle.std.proofs.Common.{◌≡◌, ℕ, zero, suc, ◌+◌, ◌-◌, ◌*◌, ◌/◌, ◌%◌, ◌^◌, ◌<◌, ◌≤◌, min, sym, ap, ◌∙◌, add-mul, add_comm, one-mul, arith, pow_pos, pow-add, shr-shr}
use lib.Arith.{digits_div}
use lib.Bits.{and_lt}
use Rattle.std.specs.Int.{bit_at}
use Rattle.std.proofs.Math.Pow.{ones_sub-lt}
use Rattle.std.proofs.lemmas.Nat.{or_lt, xor_lt, shr_split, div_below}
use Rattle.std.proofs.lemmas.Nat.Bits.{bit_at_and, bit_at_or, bit_at_xor, bit_at-lt, bit_at-zero, bit_at_above, bit_at_cat_low, bit_at_cat_high}
use Rattle.source.specs.Numbers.{complement}
use Rattle.source.specs.Laws.{Bitwise, Shifted, Part}
use Rattle.source.proofs.Bounds.{rolled_lt}
use Rattle.source.proofs.Shifting.{left_out, right_out}

-- of two bits, the lesser is the product
both_bits : (x y : ℕ) → x < 2 → y < 2 → min x y ≡ x * y
both_bits zero y hx hy = omega arith
both_bits (suc zero) y hx hy = omega arith
both_bits (suc (suc x)) y hx hy = absurd (omega arith)

-- bits below k stay where 2 ^ k is taken away
rolled_bit : (k n i : ℕ) → i < k → bit_at (n % 2 ^ k) i ≡ bit_at n i
rolled_bit k n i h = sym (bit_at_cat_low (n / 2 ^ k) k (n % 2 ^ k) i h) ∙ ap (λ m. bit_at m i) (shr_split n k)

complement_bit : (k a i : ℕ) → a < 2 ^ k → i < k → bit_at (complement k a) i ≡ 1 - bit_at a i
complement_bit k a i small h =
    let p : ℕ = 2 ^ i in
    let n : ℕ = 2 ^ (k - i - 1) in
    let q : ℕ = a / p in
    let t : ℕ = n * 2 - 1 - q in
    let whole : q * p + a % p ≡ a = shr_split a i in
    let rest : a % p < p = rolled_lt i a in
    let e : k ≡ (k - i - 1 + 1) + i = omega arith in
    let size : 2 ^ k ≡ (n * 2) * p = ap (λ m. 2 ^ m) e ∙ pow-add 2 (k - i - 1 + 1) i ∙ ap (λ m. m * p) (pow-add 2 (k - i - 1) 1) in
    let fewer : q < n * 2 = div_below a p (n * 2) (pow_pos i) (omega (arith, size)) in
    let sum : n * 2 ≡ t + 1 + q = omega arith in
    let split : (n * 2) * p ≡ t * p + p + q * p = ap (λ m. m * p) sum ∙ add-mul (t + 1) q p ∙ ap (λ m. m + q * p) (add-mul t 1 p ∙ ap (λ m. t * p + m) (one-mul p)) in
    let is : complement k a ≡ t * p + (p - 1 - a % p) = omega (arith, size, split) in
    let digit : complement k a / p ≡ t = ap (λ m. m / p) is ∙ digits_div t (omega arith) in
    ap (λ m. m % 2) digit ∙ omega arith

pub bitwise : (k a b : ℕ) → a < 2 ^ k → b < 2 ^ k → Bitwise k a b
bitwise k a b ha hb = record {
  both = λ i h. bit_at_and a b i ∙ both_bits (bit_at a i) (bit_at b i) (bit_at-lt a i) (bit_at-lt b i);
  one = λ i h. bit_at_or a b i;
  differ = λ i h. bit_at_xor a b i;
  turned = λ i h. complement_bit k a i ha h;
  within = (and_lt k a b ha hb, or_lt k a b ha hb, xor_lt k a b ha hb, ones_sub-lt k a);
}

-- bits that are shifted b places down
down : (a b i : ℕ) → bit_at (a / 2 ^ b) i ≡ bit_at a (i + b)
down a b i = ap (λ n. n % 2) (shr-shr a b i) ∙ ap (bit_at a) (add_comm b i)

-- bits that are shifted b places up, and zeros below them
up : (a b i : ℕ) → b ≤ i → bit_at (a * 2 ^ b) i ≡ bit_at a (i - b)
up a b i h = let e : a * 2 ^ b ≡ a * 2 ^ b + 0 = omega arith in ap (λ n. bit_at n i) e ∙ bit_at_cat_high a b 0 i (pow_pos b) h

below_up : (a b i : ℕ) → i < b → bit_at (a * 2 ^ b) i ≡ 0
below_up a b i h = let e : a * 2 ^ b ≡ a * 2 ^ b + 0 = omega arith in ap (λ n. bit_at n i) e ∙ bit_at_cat_low a b 0 i h ∙ bit_at-zero i

pub shifted : (k a b : ℕ) → a < 2 ^ k → Shifted k a b
shifted k a b ha = record {
  left = λ i h le. rolled_bit k (a * 2 ^ b) i h ∙ up a b i le;
  left_in = λ i h lt. rolled_bit k (a * 2 ^ b) i h ∙ below_up a b i lt;
  left_out = left_out k a b;
  right = λ i. down a b i;
  right_in = λ i h. down a b i ∙ bit_at_above a k (i + b) ha h;
  right_out = right_out k a b ha;
}

pub part : (upper lower a : ℕ) → Part upper lower a
part upper lower a = record {
  below = rolled_lt (upper - lower + 1) (a / 2 ^ lower);
  bits = λ i h. rolled_bit (upper - lower + 1) (a / 2 ^ lower) i (omega arith) ∙ down a lower i;
}
