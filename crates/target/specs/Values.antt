-- The values that target rows have, and what is left open to whoever reads a target.
use Rattle.std.specs.Prelude.{ℕ, Bool, true, false, not, List, ℤ, pos, negsuc, ◌==◌, slice_index_or}
use Rattle.target.specs.declared.row.Sort as sort
use Rattle.target.specs.declared.row.Sort.{Sort}

-- a whole number or a truth value
pub data Val : Type 0 where
  int : ℤ → Val
  bool : Bool → Val

-- A *reading* says what is left open in the meaning of a target: the quotient and the remainder of each
-- whole number by 0. Solvers may take any two functions there, so what is promised holds under every reading.
pub record Reading : Type 0 where
  pub quot_by_zero : ℤ → ℤ
  pub rem_by_zero : ℤ → ℤ

-- the sort that a value is of
abbrev pub kind : Val → Sort
kind (int n) = sort.TheVariants.Int
kind (bool b) = sort.TheVariants.Bool

-- a value as a whole number: a truth value in its place counts as 0
abbrev pub whole : Val → ℤ
whole (int n) = n
whole (bool b) = pos 0

-- a value as a truth value: a whole number in its place counts as false
abbrev pub truth : Val → Bool
truth (int n) = false
truth (bool b) = b

abbrev pub same_number : ℤ → ℤ → Bool
same_number (pos m) (pos n) = m == n
same_number (pos m) (negsuc n) = false
same_number (negsuc m) (pos n) = false
same_number (negsuc m) (negsuc n) = m == n

abbrev pub same_truth : Bool → Bool → Bool
same_truth true b = b
same_truth false b = not b

-- whether two values are equal: two of different sorts never are
abbrev pub same : Val → Val → Bool
same (int m) (int n) = same_number m n
same (int m) (bool b) = false
same (bool a) (int n) = false
same (bool a) (bool b) = same_truth a b

-- the value at an index: a row that is missing counts as false, and so, as a whole number, as 0
abbrev pub value_at : List Val → ℕ → Val
value_at vs i = slice_index_or vs i (bool false)
