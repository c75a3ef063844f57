-- The bits of a bitwise and.
use Rattle.std.proofs.Common.{◌≡◌, ℕ, suc, ◌+◌, ◌*◌, ◌/◌, ◌%◌, ◌^◌, ◌<◌, min, Bool, true, false, cond, ◌&&◌, eqb, sym, refl, ap, ◌∙◌, ⊎_elim, mod-eq_of_lt, mul_comm, one-add, arith, pow_pos}
use lib.Bits.{bit_and, and_step, and_shr, and_lt}
use Rattle.std.proofs.lemmas.Nat.{mod-pow-add, div-mul-add, mod-mul-add, mod_below}
use Rattle.std.proofs.lemmas.Bool.{eq-eqb, ne_eqb, cases_eq}

-- a number's lowest bits, one more of them
pub bits_more : (n i : ℕ) → n % 2 ^ suc i ≡ 2 ^ i * (n / 2 ^ i % 2) + n % 2 ^ i
bits_more n i =
    ap (λ m. n % 2 ^ m) (sym (one-add i)) ∙ mod-pow-add n 1 i ∙ ap (λ m. m + n % 2 ^ i) (mul_comm (n / 2 ^ i % 2) (2 ^ i))

-- the bit of an and is the lesser of two bits
pub and_bit : (x y i : ℕ) → bit_and x y / 2 ^ i % 2 ≡ min (x / 2 ^ i % 2) (y / 2 ^ i % 2)
and_bit x y i =
    let lowest : (m n : ℕ) → bit_and m n % 2 ≡ min (m % 2) (n % 2) = λ m n. omega (arith, and_step m n) in
    ap (λ n. n % 2) (and_shr x y i) ∙ lowest (x / 2 ^ i) (y / 2 ^ i)

-- an and of numbers below 2 ^ k has no bits from k on
pub and_whole : (k x y : ℕ) → x < 2 ^ k → y < 2 ^ k → bit_and x y % 2 ^ k ≡ bit_and x y
and_whole k x y hx hy = mod-eq_of_lt (and_lt k x y hx hy)

-- whether two bits are both 1, as a number
pub both_bits : (m n : ℕ) → m < 2 → n < 2 → cond (eqb m 1 && eqb n 1) 1 0 ≡ min m n
both_bits m n hm hn = grind arith

and_false : (b : Bool) → b && false ≡ false
and_false true = refl
and_false false = refl

-- two numbers of two digits each are equal exactly when both digits are
same_digits : (w p q m n : ℕ) → p < w → q < w → eqb p q && eqb m n ≡ eqb (w * m + p) (w * n + q)
same_digits w p q m n hp hq =
    let high : (a b : ℕ) → b < w → (w * a + b) / w ≡ a = λ a b h. ap (λ t. (t + b) / w) (mul_comm w a) ∙ div-mul-add a w b h in
    let low : (a b : ℕ) → b < w → (w * a + b) % w ≡ b = λ a b h. ap (λ t. (t + b) % w) (mul_comm w a) ∙ mod-mul-add a w b h in
    ⊎_elim
    (λ (e : w * m + p ≡ w * n + q).
    let ep : eqb p q ≡ true = eq-eqb p q (sym (low m p hp) ∙ ap (λ t. t % w) e ∙ low n q hq) in
    let em : eqb m n ≡ true = eq-eqb m n (sym (high m p hp) ∙ ap (λ t. t / w) e ∙ high n q hq) in
    let ee : eqb (w * m + p) (w * n + q) ≡ true = eq-eqb (w * m + p) (w * n + q) e in
    rw (ep, em, ee))
    (λ (ne : w * m + p ≡ w * n + q → ⊥).
    let ee : eqb (w * m + p) (w * n + q) ≡ false = ne_eqb (w * m + p) (w * n + q) ne in
    ⊎_elim
    (λ (ep : p ≡ q). let em : eqb m n ≡ false = ne_eqb m n (λ e. ne (ap (λ t. w * t + p) e ∙ ap (λ t. w * n + t) ep)) in rw (ee, em) (and_false (eqb p q)))
    (λ (np : p ≡ q → ⊥). let ep : eqb p q ≡ false = ne_eqb p q np in rw (ee, ep))
    (cases_eq p q))
    (cases_eq (w * m + p) (w * n + q))

-- numbers that agree in their lowest bits, and in one more
pub same_more : (m n i : ℕ) → eqb (m % 2 ^ i) (n % 2 ^ i) && eqb (m / 2 ^ i % 2) (n / 2 ^ i % 2) ≡ eqb (m % 2 ^ suc i) (n % 2 ^ suc i)
same_more m n i =
    rw (bits_more m i, bits_more n i)
    (same_digits (2 ^ i) (m % 2 ^ i) (n % 2 ^ i) (m / 2 ^ i % 2) (n / 2 ^ i % 2) (mod_below m (2 ^ i) (pow_pos i)) (mod_below n (2 ^ i) (pow_pos i)))
