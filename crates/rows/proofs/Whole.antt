-- Whole numbers: the facts that the rows rest on.
use Rattle.std.proofs.Common.{◌≡◌, ℕ, suc, ◌+◌, ◌-◌, ◌*◌, ◌/◌, ◌%◌, ◌^◌, ◌<◌, ◌≤◌, Bool, true, false, cond, eqb, ltb, ℤ, pos, negsuc, ◌-ℤ◌, sym, refl, ap, ◌∙◌, mod-eq_of_lt, mul_assoc, div-mul-le_self, arith, pow_mono}
use native.Mathlib.Nat.{mod-add-mod, add-mod_right, mod-eq-sub-mod, div-eq_of_lt, two-pow-succ, mul-mod_left}
use lib.Bits.{bit_and, bit_or, bit_xor, and_lt, or_lt, or_add_and, xor_add_and}
use Rattle.std.specs.Int.{int_rem_euclid}
use Rattle.std.proofs.lemmas.Nat.{le-div, pow-add}
use Rattle.std.proofs.lemmas.Int.{ints, int_rem_euclid_is}
use Rattle.std.proofs.lemmas.Bool.{ne_eqb, cond_both, ltb-true, ltb-false}
use Rattle.source.specs.Numbers.{signed}
use Rattle.target.specs.Values.{int, Reading}
use Rattle.target.specs.Division.{quot, rem, quot_pos, rem_pos}

-- division by a number above 0 is the same under every reading
pub quot_is : (reading : Reading) (z : ℤ) (d : ℕ) → 0 < d → quot reading z (pos d) ≡ quot_pos z d
quot_is reading z d h = let nz : eqb d 0 ≡ false = ne_eqb d 0 (λ e. omega arith) in rw nz

pub rem_is : (reading : Reading) (z : ℤ) (d : ℕ) → 0 < d → rem reading z (pos d) ≡ rem_pos z d
rem_is reading z d h = let nz : eqb d 0 ≡ false = ne_eqb d 0 (λ e. omega arith) in rw nz

rem_euclid : (z : ℤ) (d : ℕ) → rem_pos z d ≡ int_rem_euclid z (pos d)
rem_euclid (pos n) d = refl
rem_euclid (negsuc n) d = refl

-- a difference that is brought up by one divisor
pub rem_sub : (m n d : ℕ) → 0 < d → n ≤ d → rem_pos (pos m -ℤ pos n) d ≡ pos ((d + m - n) % d)
rem_sub m n d h le = rem_euclid (pos m -ℤ pos n) d ∙ int_rem_euclid_is (pos m -ℤ pos n) (pos d) d 1 (d + m - n) h refl (omega (arith, ints))

-- a difference that is not below 0 stays as it is
pub wrap_down : (m n d : ℕ) → n ≤ m → m < d → (d + m - n) % d ≡ m - n
wrap_down m n d le lt =
    let e : d + m - n ≡ m - n + d = omega arith in
    ap (λ t. t % d) e ∙ add-mod_right (m - n) d ∙ mod-eq_of_lt (omega arith)

-- a quotient is at most that of a larger number
pub div_mono : (m n d : ℕ) → 0 < d → m ≤ n → m / d ≤ n / d
div_mono m n d h le = le-div (m / d) n d h (omega (arith, div-mul-le_self m d))

-- a choice that guards a division by 0, and a division that needs none
pub guarded : (q : Bool) (m n : ℕ) (z : ℤ) → cond q (int (pos m)) (int (cond q z (pos n))) ≡ int (pos (cond q m n))
guarded true m n z = refl
guarded false m n z = refl

pub unguarded : (q : Bool) (m n : ℕ) (z : ℤ) → q ≡ false → int (cond q z (pos n)) ≡ int (pos (cond q m n))
unguarded q m n z e = rw e

half : (k : ℕ) → 1 ≤ k → 2 ^ k ≡ 2 ^ (k - 1) + 2 ^ (k - 1)
half k h = let e : k ≡ suc (k - 1) = omega arith in ap (λ n. 2 ^ n) e ∙ two-pow-succ (k - 1)

-- the signed number of k bits: twice the bits below the top one, minus the number
pub sign : (k m : ℕ) → 1 ≤ k → m < 2 ^ k → pos (2 * (m % 2 ^ (k - 1))) -ℤ pos m ≡ signed k m
sign k m h lt =
    let d : ℕ = 2 ^ (k - 1) in
    cond_both (ltb m d) (pos m) (pos m -ℤ pos (2 ^ k)) (λ z. pos (2 * (m % d)) -ℤ pos m ≡ z)
    (λ t. let e : m % d ≡ m = mod-eq_of_lt (ltb-true m d t) in omega (arith, ints, e))
    (λ t.
    let le : d ≤ m = ltb-false m d t in
    let e : m % d ≡ m - d = mod-eq-sub-mod le ∙ mod-eq_of_lt (omega (arith, half k h)) in
    omega (arith, ints, e, half k h, le))

-- or as the sum minus the and, and xor as that minus the and again
pub or_is : (k m n : ℕ) → m < 2 ^ k → n < 2 ^ k → (2 ^ k + (m + n) % 2 ^ k - bit_and m n) % 2 ^ k ≡ bit_or m n
or_is k m n hm hn =
    let d : ℕ = 2 ^ k in
    let small : bit_and m n < d = and_lt k m n hm hn in
    let up : d + (m + n) % d - bit_and m n ≡ (m + n) % d + (d - bit_and m n) = omega arith in
    let e : m + n + (d - bit_and m n) ≡ bit_or m n + d = omega (arith, or_add_and m n) in
    ap (λ t. t % d) up ∙ mod-add-mod (m + n) d (d - bit_and m n) ∙ ap (λ t. t % d) e ∙ add-mod_right (bit_or m n) d ∙ mod-eq_of_lt (or_lt k m n hm hn)

pub xor_is : (m n : ℕ) → pos (bit_or m n) -ℤ pos (bit_and m n) ≡ pos (bit_xor m n)
xor_is m n = omega (arith, ints, or_add_and m n, xor_add_and m n)

-- no bit is left after k places or more
pub shr_is : (k m n : ℕ) → m < 2 ^ k → cond (ltb n k) (m / 2 ^ n) 0 ≡ m / 2 ^ n
shr_is k m n lt =
    cond_both (ltb n k) (m / 2 ^ n) 0 (λ t. t ≡ m / 2 ^ n) (λ t. refl)
    (λ t. let far : k ≤ n = ltb-false n k t in let more : 2 ^ k ≤ 2 ^ n = pow_mono far in sym (div-eq_of_lt (omega arith)))

pub shl_is : (k m n : ℕ) → cond (ltb n k) ((m * 2 ^ n) % 2 ^ k) 0 ≡ (m * 2 ^ n) % 2 ^ k
shl_is k m n =
    cond_both (ltb n k) ((m * 2 ^ n) % 2 ^ k) 0 (λ t. t ≡ (m * 2 ^ n) % 2 ^ k) (λ t. refl)
    (λ t.
    let le : k ≤ n = ltb-false n k t in
    let e : n ≡ (n - k) + k = omega arith in
    sym (ap (λ i. (m * 2 ^ i) % 2 ^ k) e ∙ ap (λ i. (m * i) % 2 ^ k) (pow-add 2 (n - k) k)
    ∙ ap (λ i. i % 2 ^ k) (sym (mul_assoc m (2 ^ (n - k)) (2 ^ k))) ∙ mul-mod_left (m * 2 ^ (n - k)) (2 ^ k)))
