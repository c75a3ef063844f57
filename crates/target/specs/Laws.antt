-- What holds of the meaning of a table.
use Rattle.std.specs.Prelude.{◌≡◌, ℕ, ◌<◌, ◌≢◌, List, ◌++◌, length, take, ℤ, pos, ◌+ℤ◌, ◌*ℤ◌, slice_index_or, unsigned_abs}
use Rattle.target.specs.declared.row.Row.{Row}
use Rattle.target.specs.declared.row.Row.TheVariants.{Unknown}
use Rattle.target.specs.Values.{Reading, kind, value_at}
use Rattle.target.specs.Division.{quot, rem}
use Rattle.target.specs.Meaning.{row_value, unknowns, values}
use Rattle.target.specs.Soundness.{sort_at, Sound}

-- q and r are the quotient and the remainder of n by d: n = d * q + r and 0 ≤ r < |d|
pub record Euclidean (n d q r : ℤ) : Type 0 where
  pub splits : n ≡ d *ℤ q +ℤ r
  pub size : ℕ
  pub nonneg : r ≡ pos size
  pub below : size < unsigned_abs d

-- there is a value for each row
abbrev pub OneEach : Type 0
OneEach = (reading : Reading) (numbers : ℕ → ℤ) (rows : List Row) → length (values reading numbers rows) ≡ length rows

-- appending rows changes no earlier value
abbrev pub AppendKeeps : Type 0
AppendKeeps =
    (reading : Reading) (numbers : ℕ → ℤ) (xs ys : List Row) →
    take (length xs) (values reading numbers (xs ++ ys)) ≡ values reading numbers xs

-- in a sound table the value of each row is its operation on the values of its operands, an unknown's the number of its ordinal
abbrev pub RowByRow : Type 0
RowByRow =
    (reading : Reading) (numbers : ℕ → ℤ) (rows : List Row) → Sound rows → (i : ℕ) → i < length rows →
    value_at (values reading numbers rows) i ≡ row_value reading numbers (values reading numbers rows) (unknowns (take i rows)) (slice_index_or rows i Unknown)

-- the quotient and the remainder are Euclid's, by every divisor but 0
abbrev pub Divides : Type 0
Divides = (reading : Reading) (n d : ℤ) → d ≢ pos 0 → Euclidean n d (quot reading n d) (rem reading n d)

-- in a sound table the value of a row is of the row's sort
abbrev pub KindsAreSorts : Type 0
KindsAreSorts =
    (reading : Reading) (numbers : ℕ → ℤ) (rows : List Row) → Sound rows → (i : ℕ) → i < length rows →
    kind (value_at (values reading numbers rows) i) ≡ sort_at rows i

-- the first rows of a sound table are a sound table
abbrev pub PrefixSound : Type 0
PrefixSound = (n : ℕ) (rows : List Row) → Sound rows → Sound (take n rows)
