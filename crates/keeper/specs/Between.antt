-- The record of the numbers between two ends.
use Rattle.std.specs.Prelude.{◌≡◌, ℕ, ◌-◌, ◌^◌, ◌<◌, ◌≤◌, Bool, true, false, cond, nat_le, refl}
use Rattle.std.proofs.Common.{sym, ap, subst, ◌∙◌, zero-le, arith, le-leb}
use Rattle.std.proofs.lemmas.Bool.{and_from, and_left, and_right, cond-true, cond-false, lt-leb}
use Rattle.keeper.specs.declared.record.IntervalRecord.{IntervalRecord}
use Rattle.keeper.specs.Intervals.{is_range, between, whole_interval}
use Rattle.keeper.specs.Ext.{interval_ext}

pub is_range_lem : (k lo hi : ℕ) → lo ≤ hi → hi < 2 ^ k → is_range k lo hi ≡ true
is_range_lem k lo hi p q = and_from (nat_le lo hi) (nat_le hi (2 ^ k - 1)) (le-leb lo hi p) (le-leb hi (2 ^ k - 1) (omega arith))

pub no_range_crossed : (k lo hi : ℕ) → hi < lo → is_range k lo hi ≡ false
no_range_crossed k lo hi h = and_left (nat_le lo hi) (nat_le hi (2 ^ k - 1)) (lt-leb lo hi h)

pub no_range_above : (k lo hi : ℕ) → 2 ^ k - 1 < hi → is_range k lo hi ≡ false
no_range_above k lo hi h = and_right (nat_le lo hi) (nat_le hi (2 ^ k - 1)) (lt-leb hi (2 ^ k - 1) h)

-- the ends of a range are the record's
pub between_ends : (k lo hi : ℕ) → lo ≤ hi → hi < 2 ^ k → ((between k lo hi).lo ≡ lo) × ((between k lo hi).hi ≡ hi)
between_ends k lo hi p q =
    let t = is_range_lem k lo hi p q in
    (cond-true (is_range k lo hi) lo 0 t, cond-true (is_range k lo hi) hi (2 ^ k - 1) t)

pub is_between : (r : IntervalRecord) (k lo hi : ℕ) → r.width ≡ k → r.lo ≡ lo → r.hi ≡ hi → lo ≤ hi → hi < 2 ^ k → r ≡ between k lo hi
is_between r k lo hi e f g p q =
    let h = between_ends k lo hi p q in
    interval_ext r (between k lo hi) e (f ∙ sym h.0) (g ∙ sym h.1)

pub is_whole : (k lo hi : ℕ) → is_range k lo hi ≡ false → whole_interval k ≡ between k lo hi
is_whole k lo hi t =
    interval_ext (whole_interval k) (between k lo hi) refl
    (sym (cond-false (is_range k lo hi) lo 0 t)) (sym (cond-false (is_range k lo hi) hi (2 ^ k - 1) t))

in_ends : (k lo hi n : ℕ) (t : Bool) → (t ≡ true → (lo ≤ n) × (n ≤ hi)) → n < 2 ^ k →
    (cond t lo 0 ≤ n) × (n ≤ cond t hi (2 ^ k - 1))
in_ends k lo hi n true h l = h refl
in_ends k lo hi n false h l = (zero-le, omega arith)

-- a number of the width is in the record if it lies between the ends wherever they are a range
pub in_between : (k lo hi n : ℕ) → (is_range k lo hi ≡ true → (lo ≤ n) × (n ≤ hi)) → n < 2 ^ k →
    ((between k lo hi).lo ≤ n) × (n ≤ (between k lo hi).hi)
in_between k lo hi n = in_ends k lo hi n (is_range k lo hi)

-- a record that is made of a range has its ends
pub ends_of : (r : IntervalRecord) (k lo hi : ℕ) → r ≡ between k lo hi → lo ≤ hi → hi < 2 ^ k → (r.lo ≡ lo) × (r.hi ≡ hi)
ends_of r k lo hi e p q =
    let h = between_ends k lo hi p q in
    (ap (λ (s : IntervalRecord). s.lo) e ∙ h.0, ap (λ (s : IntervalRecord). s.hi) e ∙ h.1)

-- a record has room in every width that is its own
pub in_width : (a : IntervalRecord) (k : ℕ) → a.width ≡ k → a.hi < 2 ^ k
in_width a k e = subst (λ (j : ℕ). a.hi < 2 ^ j) e a.ok.1
