-- What the rows of an order mean.
--
-- The rows in use before an order are `front`, as many as `at`; those in use after it are `all`.
use Rattle.std.specs.Prelude.{◌≡◌, ℕ, ◌+◌, ◌^◌, ◌<◌, ◌≤◌, Bool, true, false, List, length, ℤ, pos, negsuc, bit_and, nat_le, nat_lt}
use Rattle.source.specs.declared.operator.Operator.{Operator}
use Rattle.source.specs.declared.operator.Operator.TheVariants.{Ite}
use Rattle.source.specs.declared.order.Sort as source_sort
use Rattle.source.specs.declared.value.Value as values
use Rattle.source.specs.declared.value.Value.{Value}
use Rattle.source.specs.Sorts as source
use Rattle.source.specs.Values.{number_of, bits_of, taken, value_of}
use Rattle.target.specs.declared.row.Sort.{Sort}
use Rattle.target.specs.declared.row.Sort.TheVariants as sort
use Rattle.target.specs.declared.row.Row.{Row}
use Rattle.target.specs.Values.{Val, int, bool, Reading, value_at}
use Rattle.target.specs.Meaning as meaning
use Rattle.target.specs.Meaning.{unknowns}
use Rattle.target.specs.Soundness.{Takes, sort_at, Sound}
use Rattle.rows.specs.declared.operands.Range.{Range}
use Rattle.rows.specs.declared.operands.Operands.{Operands}
use Rattle.rows.specs.Operands.{with_third}
use Rattle.rows.specs.Rows.{image}
use Rattle.rows.specs.Counts.{has_and}

-- Rows appended to the rows in use: so many unknowns more, no earlier value changed, and a sound table still sound.
pub record Appends (front all : List Row) (more : ℕ) : Type 0 where
  pub fresh : unknowns all ≡ unknowns front + more
  pub keeps : (reading : Reading) (numbers : ℕ → ℤ) (i : ℕ) → i < length front →
      value_at (meaning.values reading numbers all) i ≡ value_at (meaning.values reading numbers front) i
  pub sound : Sound front → Sound all

-- whether a whole number is one of k bits: from 0 to below 2 ^ k
abbrev pub in_range : ℕ → ℤ → Bool
in_range k (pos n) = nat_lt n (2 ^ k)
in_range k (negsuc n) = false

-- An unknown of k bits: its value is the number of its ordinal, and the row at + 5 says whether that is one of k bits.
pub record RegisterMeans (k : ℕ) (front : List Row) (at : ℕ) (all : List Row) : Type 0 where
  pub appends : Appends front all 1
  pub sort_unknown : sort_at all at ≡ sort.Int
  pub sort_range : sort_at all (at + 5) ≡ sort.Bool
  pub value : (reading : Reading) (numbers : ℕ → ℤ) → value_at (meaning.values reading numbers all) at ≡ int (numbers (unknowns front))
  pub range : (reading : Reading) (numbers : ℕ → ℤ) → value_at (meaning.values reading numbers all) (at + 5) ≡ bool (in_range k (numbers (unknowns front)))

-- the target value of a source value, and its sort
abbrev pub shown : Value → Val
shown (values.TheVariants.Bool b) = bool b
shown (values.TheVariants.Bits k n) = int (pos n)

abbrev pub shown_sort : source_sort.Sort → Sort
shown_sort source_sort.TheVariants.Bool = sort.Bool
shown_sort (source_sort.TheVariants.Bits k) = sort.Int

-- A constant or a truth value: one row, of its value.
pub record ValueMeans (v : Value) (front : List Row) (at : ℕ) (all : List Row) : Type 0 where
  pub appends : Appends front all 0
  pub value : (reading : Reading) (numbers : ℕ → ℤ) → value_at (meaning.values reading numbers all) at ≡ shown v

-- the operands of a shape are earlier rows of the right sorts; `s` gives the sort of each row
abbrev pub Fitting : (ℕ → Sort) → ℕ → source.Shape → Operands → Type 0
Fitting s at source.one_bits o = Takes s at sort.Int o.a
Fitting s at source.two_bits o = Takes s at sort.Int o.a × Takes s at sort.Int o.b
Fitting s at source.any_bits o = Takes s at sort.Int o.a × Takes s at sort.Int o.b
Fitting s at source.one_truth o = Takes s at sort.Bool o.a
Fitting s at source.two_truths o = Takes s at sort.Bool o.a × Takes s at sort.Bool o.b
Fitting s at source.two_alike o = (o.a < at) × Takes s at (s o.a) o.b
Fitting s at source.choice o = Takes s at sort.Bool o.a × Takes s at o.sort o.b × Takes s at o.sort o.c

-- so are those of an operator, and its and-unknown if it has one
pub record Suited (s : ℕ → Sort) (at : ℕ) (op : Operator) (o : Operands) : Type 0 where
  pub operands : Fitting s at (source.shape_of op) o
  pub unknown : has_and op ≡ true → Takes s at sort.Int o.c

-- a number within bounds; they say nothing of a truth value
abbrev pub Within : Range → Value → Type 0
Within r (values.TheVariants.Bool b) = Unit {0}
Within r (values.TheVariants.Bits k n) = (r.least ≤ n) × (n ≤ r.most)

-- a row has the value v, and what was told of it is true
pub record Operand (vs : List Val) (row width : ℕ) (r : Range) (v : Value) : Type 0 where
  pub value : value_at vs row ≡ shown v
  pub wide : width ≡ bits_of v
  pub within : Within r v

-- as many operands as there are have the values va, vb and vc
pub record Given (vs : List Val) (op : Operator) (o : Operands) (va vb vc : Value) : Type 0 where
  pub first : Operand vs o.a o.k o.left va
  pub second : nat_le 2 (source.count_of (source.shape_of op)) ≡ true → Operand vs o.b o.j o.right vb
  pub third : nat_le 3 (source.count_of (source.shape_of op)) ≡ true → value_at vs o.c ≡ shown vc

-- the and-unknown of an operator that has one is the bitwise and of the operands
abbrev pub Anded : List Val → Operator → ℕ → Value → Value → Type 0
Anded vs op c va vb = has_and op ≡ true → value_at vs c ≡ int (pos (bit_and (number_of va) (number_of vb)))

-- The rows of an operator, or of bvand, bvor and bvxor those after the and-scheme's: where the operands have the values
-- va, vb and vc, which the operator takes, the image has the SMT-LIB value, under every reading and all numbers.
pub record OrderMeans (op : Operator) (o : Operands) (front : List Row) (at : ℕ) (all : List Row) : Type 0 where
  pub appends : Suited (sort_at front) at op o → Appends front all 0
  -- the image is of the target sort of the operator's result, where a, b and c are the operands' sorts
  pub sort_image : Suited (sort_at front) at op o → (a b c : source_sort.Sort) → source.fits (source.shape_of op) a b c ≡ true → (op ≡ Ite → o.sort ≡ shown_sort b) →
      sort_at all (image op o at) ≡ shown_sort (source.result_sort op a b c)
  pub value : Suited (sort_at front) at op o → (reading : Reading) (numbers : ℕ → ℤ) (va vb vc : Value) →
      taken op va vb vc ≡ true → Given (meaning.values reading numbers all) op o va vb vc → Anded (meaning.values reading numbers all) op o.c va vb →
      value_at (meaning.values reading numbers all) (image op o at) ≡ shown (value_of op va vb vc)

-- bvand, bvor or bvxor with the rows `new` of an and-scheme and its answer: the row at + 5 says whether the and-unknown
-- is a number of k bits, and the row `answer` then whether it is the and.
pub record AndMeans (op : Operator) (o : Operands) (front : List Row) (at : ℕ) (new all : List Row) (answer : ℕ) : Type 0 where
  pub appends : Appends front all 1
  pub sort_range : sort_at all (at + 5) ≡ sort.Bool
  pub sort_answer : sort_at all answer ≡ sort.Bool
  pub sort_image : sort_at all (image op (with_third o at) (at + (6 + length new))) ≡ sort.Int
  pub unknown : (reading : Reading) (numbers : ℕ → ℤ) → value_at (meaning.values reading numbers all) at ≡ int (numbers (unknowns front))
  pub range : (reading : Reading) (numbers : ℕ → ℤ) → value_at (meaning.values reading numbers all) (at + 5) ≡ bool (in_range o.k (numbers (unknowns front)))
  -- where both are true, the image has the SMT-LIB value
  pub value : (reading : Reading) (numbers : ℕ → ℤ) (va vb vc : Value) → taken op va vb vc ≡ true → Given (meaning.values reading numbers all) op o va vb vc →
      value_at (meaning.values reading numbers all) (at + 5) ≡ bool true → value_at (meaning.values reading numbers all) answer ≡ bool true →
      value_at (meaning.values reading numbers all) (image op (with_third o at) (at + (6 + length new))) ≡ shown (value_of op va vb vc)
  -- and where the and-unknown's number is the and, both are true
  pub met : (reading : Reading) (numbers : ℕ → ℤ) (va vb vc : Value) → taken op va vb vc ≡ true → Given (meaning.values reading numbers all) op o va vb vc →
      numbers (unknowns front) ≡ pos (bit_and (number_of va) (number_of vb)) →
      (value_at (meaning.values reading numbers all) (at + 5) ≡ bool true) × (value_at (meaning.values reading numbers all) answer ≡ bool true)
