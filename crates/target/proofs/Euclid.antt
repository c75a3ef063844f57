-- That the quotient and the remainder of the specification are the Euclidean ones.
use Rattle.std.proofs.Common.{◌≡◌, ℕ, zero, suc, ◌+◌, ◌-◌, ◌*◌, ◌/◌, ◌%◌, ◌<◌, false, eqb, ◌≢◌, ℤ, pos, negsuc, ◌+ℤ◌, ◌*ℤ◌, neg_ℤ, sym, refl, ap, ◌∙◌, mod-lt, mul-zero, mul-suc, add-one, arith}
use native.Mathlib.Nat.{div-add-mod}
use Rattle.std.proofs.lemmas.Int.{ints}
use Rattle.std.proofs.lemmas.Bool.{ne_eqb}
use Rattle.target.specs.Values.{Reading}
use Rattle.target.specs.Division.{quot, rem, quot_pos, rem_pos}
use Rattle.target.specs.Laws.{Euclidean}

at_pos : (n : ℤ) (d : ℕ) → 0 < d → Euclidean n (pos d) (quot_pos n d) (rem_pos n d)
at_pos (pos n) d h = record {
  splits = ap pos (sym (div-add-mod n d));
  size = n % d;
  nonneg = refl;
  below = mod-lt n h;
}
at_pos (negsuc m) d h =
    let e : d * (m / d) + m % d ≡ m = div-add-mod m d in
    let l : m % d < d = mod-lt m h in
    let s : d * suc (m / d) ≡ d * (m / d) + d = mul-suc d (m / d) in
    record { splits = omega (arith, ints, e, l, s); size = d - 1 - m % d; nonneg = refl; below = omega arith }

-- d * q = (-d) * (-q)
flip_signs : (d : ℕ) (q : ℤ) → pos (d + 1) *ℤ q ≡ negsuc d *ℤ neg_ℤ q
flip_signs d (pos zero) = rw (add-one, mul-zero) refl
flip_signs d (pos (suc n)) = rw add-one refl
flip_signs d (negsuc n) = rw add-one refl

at_neg : (n : ℤ) (d : ℕ) → Euclidean n (negsuc d) (neg_ℤ (quot_pos n (d + 1))) (rem_pos n (d + 1))
at_neg n d =
    let p = at_pos n (d + 1) (omega arith) in
    record { splits = p.splits ∙ ap (λ (z : ℤ). z +ℤ rem_pos n (d + 1)) (flip_signs d (quot_pos n (d + 1))); size = p.size; nonneg = p.nonneg; below = omega (arith, p.below) }

pub euclidean : (reading : Reading) (n d : ℤ) → d ≢ pos 0 → Euclidean n d (quot reading n d) (rem reading n d)
euclidean reading n (pos d) h =
    let ne : (d ≡ 0 → ⊥) = λ e. h (ap pos e) in
    let nz : eqb d 0 ≡ false = ne_eqb d 0 ne in
    rw nz (at_pos n d (omega (arith, ne)))
euclidean reading n (negsuc d) h = at_neg n d
