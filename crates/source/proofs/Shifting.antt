-- Shifts by as many places as there are bits, or more.
use Rattle.std.proofs.Common.{◌≡◌, ℕ, ◌+◌, ◌-◌, ◌*◌, ◌%◌, ◌^◌, ◌<◌, ◌≤◌, min, sym, ap, ◌∙◌, inl, inr, mul_assoc, arith, pow_mono, pow-add}
use native.Mathlib.Nat.{mul-mod_left, div-eq_of_lt}
use Rattle.std.proofs.Math.Pow.{mod-mod-pow}
use Rattle.std.proofs.lemmas.Bool.{cases_lt}
use Rattle.source.specs.Numbers.{shifted_right, shifted_left}

pub left_out : (k a b : ℕ) → k ≤ b → shifted_left k a b ≡ 0
left_out k a b h =
    let e : b ≡ (b - k) + k = omega arith in
    ap (λ i. (a * 2 ^ i) % 2 ^ k) e
    ∙ ap (λ i. (a * i) % 2 ^ k) (pow-add 2 (b - k) k)
    ∙ ap (λ i. i % 2 ^ k) (sym (mul_assoc a (2 ^ (b - k)) (2 ^ k)))
    ∙ mul-mod_left (a * 2 ^ (b - k)) (2 ^ k)

pub right_out : (k a b : ℕ) → a < 2 ^ k → k ≤ b → shifted_right a b ≡ 0
right_out k a b small h = div-eq_of_lt (omega (arith, pow_mono h))

-- the first k of 64 bits
first_bits : (k n : ℕ) → k ≤ 64 → n % 2 ^ 64 % 2 ^ k ≡ n % 2 ^ k
first_bits k n h = let e : 64 ≡ (64 - k) + k = omega arith in ap (λ i. n % 2 ^ i % 2 ^ k) e ∙ mod-mod-pow n (64 - k) k

-- more places than there are bits make no difference
left_capped : (k a b : ℕ) → shifted_left k a (min b k) ≡ shifted_left k a b
left_capped k a b =
    elim (cases_lt b k) [
      | inl lt ↦ ap (shifted_left k a) (omega arith)
      | inr le ↦ left_out k a (min b k) (omega arith) ∙ sym (left_out k a b le)
    ]

pub left_in_64 : (k a b : ℕ) → k ≤ 64 → (a * 2 ^ min b k) % 2 ^ 64 % 2 ^ k ≡ shifted_left k a b
left_in_64 k a b h = first_bits k (a * 2 ^ min b k) h ∙ left_capped k a b

pub right_capped : (k a b : ℕ) → a < 2 ^ k → shifted_right a (min b k) ≡ shifted_right a b
right_capped k a b small =
    elim (cases_lt b k) [
      | inl lt ↦ ap (shifted_right a) (omega arith)
      | inr le ↦ right_out k a (min b k) small (omega arith) ∙ sym (right_out k a b small le)
    ]
