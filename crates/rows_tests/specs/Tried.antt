-- The operands that every operator is tried with: the rows 1, 2 and 3, the first two of k bits.
use Rattle.std.specs.Prelude.{ℕ, ◌-◌, ◌^◌, ◌<◌, ◌≤◌, Bool, cond, ◌==◌, ◌||◌}
use Rattle.target.specs.declared.row.Sort.{Sort}
use Rattle.target.specs.declared.row.Sort.TheVariants as sort
use Rattle.rows.specs.declared.operands.Operands.{Operands}
use Rattle.rows.specs.declared.operands.Range.{Range}
use Rattle.rows_tests.specs.declared.cases.Known.{Known}
use Rattle.rows_tests.specs.declared.cases.Known.TheVariants.{Nothing, Ones, Largest, Zero}

-- the largest number of k bits; a width that is not tried is taken for 32
abbrev pub largest : ℕ → ℕ
largest k = cond (k == 1 || k == 4) (2 ^ k - 1) (2 ^ 32 - 1)

-- the widths that are tried
abbrev pub is_tried : ℕ → Bool
is_tried k = k == 1 || k == 4 || k == 32

-- bounds of k bits
abbrev pub Bounds : ℕ → Range → Type 0
Bounds k r = (r.least ≤ r.most) × (r.most < 2 ^ k)

abbrev pub between : ℕ → ℕ → Range
between least most = record { least = least; most = most }

-- four kinds of bounds: nothing is known; both are 1; the first is the largest number; the second is 0
abbrev pub left_tried : ℕ → Known → Range
left_tried most Nothing = between 0 most
left_tried most Ones = between 1 1
left_tried most Largest = between most most
left_tried most Zero = between 0 most

abbrev pub right_tried : ℕ → Known → Range
right_tried most Nothing = between 0 most
right_tried most Ones = between 1 1
right_tried most Largest = between 0 most
right_tried most Zero = between 0 0

-- the branches of ite are whole numbers with the first kind, truth values with the others
abbrev pub branches_tried : Known → Sort
branches_tried Nothing = sort.Int
branches_tried Ones = sort.Bool
branches_tried Largest = sort.Bool
branches_tried Zero = sort.Bool

abbrev pub tried : ℕ → Known → Operands
tried k known = record {
  a = 1;
  b = 2;
  c = 3;
  k = k;
  j = k;
  sort = branches_tried known;
  left = left_tried (largest k) known;
  right = right_tried (largest k) known;
}

-- the number under which a kind is printed
abbrev pub number_of : Known → ℕ
number_of Nothing = 0
number_of Ones = 1
number_of Largest = 2
number_of Zero = 3
