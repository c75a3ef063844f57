-- Numbers that roll over at 2 ^ k: negatives, differences, quotients, and bits joined and taken out.
use Rattle.std.proofs.Common.{◌≡◌, ℕ, ◌+◌, ◌-◌, ◌*◌, ◌/◌, ◌%◌, ◌^◌, ◌<◌, ◌≤◌, true, false, eqb, ◌⊎◌, sym, ap, ◌∙◌, inl, inr, mod-lt, mod-eq_of_lt, div-one, arith}
use native.Mathlib.Nat.{mod_self, mod-eq-sub-mod, mod-add-mod, add-mod-mod, add-mod_right, div-add-mod}
use lib.Pow.{high, low, recompose}
use Rattle.std.proofs.lemmas.Bool.{cases_lt, eq-eqb, ne_eqb}
use Rattle.source.specs.Numbers.{negated, extracted, joined}
use Rattle.source.specs.Laws.{Negative, Difference, Divided, Joined}
use Rattle.source.proofs.Bounds.{rolled_lt, joined_lt}

-- what rolls over at most once
rolled : (n d : ℕ) → n < d + d → ((n < d) × (n % d ≡ n)) ⊎ ((d ≤ n) × (n % d ≡ n - d))
rolled n d h = elim (cases_lt n d) [ inl lt ↦ inl (lt, mod-eq_of_lt lt) | inr le ↦ inr (le, mod-eq-sub-mod le ∙ mod-eq_of_lt (omega arith)) ]

-- two numbers below d that give the same when a is added to them
cancelled : (d a m n : ℕ) → a < d → m < d → n < d → (a + m) % d ≡ (a + n) % d → m ≡ n
cancelled d a m n ha hm hn e =
    elim (rolled (a + m) d (omega arith)) [
      | inl p ↦ elim (rolled (a + n) d (omega arith)) [ inl q ↦ omega arith | inr q ↦ omega arith ]
      | inr p ↦ elim (rolled (a + n) d (omega arith)) [ inl q ↦ omega arith | inr q ↦ omega arith ]
    ]

pub negative : (k a : ℕ) → a < 2 ^ k → Negative k a
negative k a h =
    let d : ℕ = 2 ^ k in
    let all : a + (d - a) ≡ d = omega arith in
    let gone : (a + negated k a) % d ≡ 0 = add-mod-mod a (d - a) d ∙ ap (λ n. n % d) all ∙ mod_self d in
    record { zero = gone; below = rolled_lt k (d - a); only = λ n small e. cancelled d a n (negated k a) h small (rolled_lt k (d - a)) (e ∙ sym gone) }

pub subtracted : (k a b : ℕ) → a < 2 ^ k → b < 2 ^ k → Difference k a b
subtracted k a b ha hb =
    let d : ℕ = 2 ^ k in
    let back : d + a - b + b ≡ a + d = omega arith in
    let added : a + (d - b) ≡ d + a - b = omega arith in
    record {
      back = mod-add-mod (d + a - b) d b ∙ ap (λ n. n % d) back ∙ add-mod_right a d ∙ mod-eq_of_lt ha;
      added = add-mod-mod a (d - b) d ∙ ap (λ n. n % d) added;
    }

pub divided : (k a b : ℕ) → Divided k a b
divided k a b = record {
  whole = λ h. let no : eqb b 0 ≡ false = ne_eqb b 0 (λ e. omega arith) in rw no (sym (div-add-mod a b));
  less = λ h. let no : eqb b 0 ≡ false = ne_eqb b 0 (λ e. omega arith) in rw no (mod-lt a h);
  by_zero = λ e. let yes : eqb b 0 ≡ true = eq-eqb b 0 e in (rw yes, rw yes);
}

pub taken_out : (k j a b : ℕ) → 1 ≤ k → 1 ≤ j → a < 2 ^ k → b < 2 ^ j → Joined k j a b
taken_out k j a b hk hj ha hb =
    let upper : k + j - 1 - j + 1 ≡ k = omega arith in
    let lower : j - 1 - 0 + 1 ≡ j = omega arith in
    record {
      lower = ap (λ n. joined j a b / 2 ^ 0 % 2 ^ n) lower ∙ ap (λ n. n % 2 ^ j) (div-one (joined j a b)) ∙ low a j hb;
      upper = ap (λ n. joined j a b / 2 ^ j % 2 ^ n) upper ∙ ap (λ n. n % 2 ^ k) (high a j hb) ∙ mod-eq_of_lt ha;
      below = joined_lt k j a b ha hb;
    }

pub joined_again : (k l a : ℕ) → 1 ≤ l → l < k → a < 2 ^ k → joined l (extracted (k - 1) l a) (extracted (l - 1) 0 a) ≡ a
joined_again k l a hl hk ha =
    let upper : k - 1 - l + 1 ≡ k - l = omega arith in
    let lower : l - 1 - 0 + 1 ≡ l = omega arith in
    let size : k ≡ (k - l) + l = omega arith in
    let small : a < 2 ^ ((k - l) + l) = rw (sym size) ha in
    ap (λ n. (a / 2 ^ l % 2 ^ n) * 2 ^ l + extracted (l - 1) 0 a) upper
    ∙ ap (λ n. (a / 2 ^ l % 2 ^ (k - l)) * 2 ^ l + a / 2 ^ 0 % 2 ^ n) lower
    ∙ ap (λ n. (a / 2 ^ l % 2 ^ (k - l)) * 2 ^ l + n % 2 ^ l) (div-one a)
    ∙ recompose (k - l) l small
