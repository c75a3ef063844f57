-- The signed order and the signed numbers.
use Rattle.std.proofs.Common.{◌≡◌, ℕ, suc, ◌+◌, ◌-◌, ◌*◌, ◌%◌, ◌^◌, ◌<◌, ◌≤◌, ltb, ◌⊎◌, pos, ◌+ℤ◌, ◌-ℤ◌, Decides, refl, ap, ◌∙◌, inl, inr, mod-eq_of_lt, arith, pow_pos}
use native.Mathlib.Nat.{two-pow-succ, div-eq_of_lt, div-eq-sub-div}
use Rattle.std.specs.Int.{bit_at, int_rem_euclid}
use Rattle.std.proofs.lemmas.Int.{ints, int_rem_euclid_is}
use Rattle.std.proofs.lemmas.Bool.{cases_lt, cond-true, cond-false, lt-ltb, le-ltb}
use Rattle.std.proofs.lemmas.Bool.Decides.{nat_tests}
use Rattle.source.specs.Numbers.{signed, signed_less, signed_at_most}
use Rattle.source.specs.Laws.{Before, Signed}

half : (k : ℕ) → 1 ≤ k → 2 ^ k ≡ 2 ^ (k - 1) + 2 ^ (k - 1)
half k h = let e : k ≡ suc (k - 1) = omega arith in ap (λ n. 2 ^ n) e ∙ two-pow-succ (k - 1)

-- a number and its sign: the top bit, and the signed number
record Low (k a : ℕ) : Type 0 where
  below : a < 2 ^ (k - 1)
  top : bit_at a (k - 1) ≡ 0
  is : signed k a ≡ pos a

record High (k a : ℕ) : Type 0 where
  above : 2 ^ (k - 1) ≤ a
  top : bit_at a (k - 1) ≡ 1
  is : signed k a ≡ pos a -ℤ pos (2 ^ k)

by_sign : (k a : ℕ) → 1 ≤ k → a < 2 ^ k → Low k a ⊎ High k a
by_sign k a hk ha =
    let d : ℕ = 2 ^ (k - 1) in
    let two : 2 ^ k ≡ d + d = half k hk in
    elim (cases_lt a d) [
      | inl lt ↦ inl (record { below = lt; top = ap (λ n. n % 2) (div-eq_of_lt lt); is = cond-true (ltb a d) (pos a) (pos a -ℤ pos (2 ^ k)) (lt-ltb a d lt) })
      | inr le ↦ inr (record { above = le; top = ap (λ n. n % 2) (div-eq-sub-div (pow_pos (k - 1)) le ∙ ap (λ n. n + 1) (div-eq_of_lt (omega arith))); is = cond-false (ltb a d) (pos a) (pos a -ℤ pos (2 ^ k)) (le-ltb a d le) })
    ]

pub ordered : (k a b : ℕ) → 1 ≤ k → a < 2 ^ k → b < 2 ^ k → Decides (signed_less k a b) (Before k a b (a < b)) × Decides (signed_at_most k a b) (Before k a b (a ≤ b))
ordered k a b hk ha hb =
    let p : Low k a ⊎ High k a = by_sign k a hk ha in
    let q : Low k b ⊎ High k b = by_sign k b hk hb in
    ((λ t. grind (arith, ints, nat_tests), λ t. grind (arith, ints, nat_tests)), (λ t. grind (arith, ints, nat_tests), λ t. grind (arith, ints, nat_tests)))

pub signed_number : (k a : ℕ) → 1 ≤ k → a < 2 ^ k → Signed k a
signed_number k a hk ha =
    let two : 2 ^ k ≡ 2 ^ (k - 1) + 2 ^ (k - 1) = half k hk in
    let some : 0 < 2 ^ (k - 1) = pow_pos (k - 1) in
    let p : Low k a ⊎ High k a = by_sign k a hk ha in
    let rest : (n : ℕ) → signed k a +ℤ pos (n * 2 ^ k) ≡ pos a → int_rem_euclid (signed k a) (pos (2 ^ k)) ≡ pos a =
    λ n e. int_rem_euclid_is (signed k a) (pos (2 ^ k)) (2 ^ k) n a (pow_pos k) refl e ∙ ap pos (mod-eq_of_lt ha) in
    record {
      least = grind (arith, ints);
      most = grind (arith, ints);
      same = elim p [ inl low ↦ rest 0 (omega (arith, ints, low.is)) | inr high ↦ rest 1 (omega (arith, ints, high.is)) ];
    }
