-- The records of the interval keeper.
use Rattle.std.specs.Prelude.{◌≡◌, ℕ, ◌-◌, ◌^◌, ◌<◌, ◌≤◌, Bool, true, false, cond, ◌&&◌, nat_le, refl}
use Rattle.std.proofs.Common.{zero-le, arith, leb-true, pow_pos}
use Rattle.std.proofs.lemmas.Bool.{and_parts}
use Rattle.keeper.specs.declared.record.IntervalRecord.{IntervalRecord}

pub below : (k : ℕ) → 2 ^ k - 1 < 2 ^ k
below k = omega (arith, pow_pos k)

-- all numbers of a width
abbrev pub whole_interval : ℕ → IntervalRecord
whole_interval k = record { width = k; lo = 0; hi = 2 ^ k - 1; ok = (zero-le, below k) }

-- whether there are numbers from lo to hi, all of width k
abbrev pub is_range : ℕ → ℕ → ℕ → Bool
is_range k lo hi = nat_le lo hi && nat_le hi (2 ^ k - 1)

pub range_parts : (k lo hi : ℕ) → is_range k lo hi ≡ true → (lo ≤ hi) × (hi < 2 ^ k)
range_parts k lo hi t =
    let h = and_parts (nat_le lo hi) (nat_le hi (2 ^ k - 1)) t in
    (leb-true lo hi h.0, omega (arith, leb-true hi (2 ^ k - 1) h.1, pow_pos k))

pub ends_ok : (k lo hi : ℕ) (t : Bool) → is_range k lo hi ≡ t →
    (cond t lo 0 ≤ cond t hi (2 ^ k - 1)) × (cond t hi (2 ^ k - 1) < 2 ^ k)
ends_ok k lo hi true e = range_parts k lo hi e
ends_ok k lo hi false e = (zero-le, below k)

-- the numbers from lo to hi where that is a range of the width, and all numbers of the width where it is not
abbrev pub between : ℕ → ℕ → ℕ → IntervalRecord
between k lo hi = record {
  width = k;
  lo = cond (is_range k lo hi) lo 0;
  hi = cond (is_range k lo hi) hi (2 ^ k - 1);
  ok = ends_ok k lo hi (is_range k lo hi) refl;
}
