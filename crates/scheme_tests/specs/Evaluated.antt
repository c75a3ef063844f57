-- The values of a target's rows as numbers of the machine.
use Rattle.std.specs.Prelude.{◌≡◌, ℕ, ◌+◌, ◌-◌, ◌*◌, ◌/◌, ◌%◌, ◌^◌, ◌<◌, Bool, true, false, cond, List, ℤ, pos, negsuc, ◌==◌, nat_le, nat_lt, length, slice_index}
use Rattle.target.specs.declared.row.Row.{Row}
use Rattle.target.specs.declared.row.Row.TheVariants.{Unknown, Number, Truth, Add, Sub, Times, Quot, Rem, Equal, Less, AtMost, Not, And, Or, Choose}
use Rattle.target.specs.Values.{Val, int, bool, Reading, value_at}
use Rattle.target.specs.Meaning.{values}
use Rattle.target.specs.Soundness.{Sound}

-- a value as a number of 64 bits: truth values are 1 and 0
abbrev pub code : Val → ℕ
code (int (pos n)) = n
code (int (negsuc n)) = 0
code (bool b) = cond b 1 0

-- whether a value is a truth value, or a whole number that 64 bits have room for
abbrev pub has_code : Val → Bool
has_code (int (pos n)) = nat_lt n (2 ^ 64)
has_code (int (negsuc n)) = false
has_code (bool b) = true

-- quotients and remainders by 0 are 0
abbrev pub naught : Reading
naught = record { quot_by_zero = λ n. pos 0; rem_by_zero = λ n. pos 0 }

-- the n-th number of a list, and 0 past its end, for the n-th unknown
abbrev pub numbering : List ℕ → ℕ → ℤ
numbering numbers n = pos (slice_index numbers n)

abbrev pub meant : List ℕ → List Row → List Val
meant numbers rows = values naught (numbering numbers) rows

-- In a sound table whose rows all have codes, the codes of its rows stand at their indices.
abbrev pub Evaluates : List Row → List ℕ → List ℕ → Type 0
Evaluates rows numbers after =
    Sound rows → ((i : ℕ) → i < length rows → has_code (value_at (meant numbers rows) i) ≡ true) →
    (i : ℕ) → i < length rows → i < length after → slice_index after i ≡ code (value_at (meant numbers rows) i)

-- One row's number, from those of the rows before it: the machine's operation on them. n unknowns stand before it.
abbrev pub truth_code : Bool → ℕ
truth_code b = cond b 1 0

abbrev pub divided_code : ℕ → ℕ → ℕ
divided_code n d = cond (d == 0) 0 (n / d)

abbrev pub left_code : ℕ → ℕ → ℕ
left_code n d = cond (d == 0) 0 (n % d)

abbrev pub stepped : Row → List ℕ → ℕ → List ℕ → ℕ
stepped Unknown numbers n xs = slice_index numbers n
stepped (Number m) numbers n xs = m
stepped (Truth b) numbers n xs = truth_code b
stepped (Add i j) numbers n xs = (slice_index xs i + slice_index xs j) % 2 ^ 64
stepped (Sub i j) numbers n xs = (slice_index xs i + (2 ^ 64 - slice_index xs j)) % 2 ^ 64
stepped (Times i j) numbers n xs = slice_index xs i * slice_index xs j % 2 ^ 64
stepped (Quot i j) numbers n xs = divided_code (slice_index xs i) (slice_index xs j)
stepped (Rem i j) numbers n xs = left_code (slice_index xs i) (slice_index xs j)
stepped (Equal i j) numbers n xs = truth_code (slice_index xs i == slice_index xs j)
stepped (Less i j) numbers n xs = truth_code (nat_lt (slice_index xs i) (slice_index xs j))
stepped (AtMost i j) numbers n xs = truth_code (nat_le (slice_index xs i) (slice_index xs j))
stepped (Not i) numbers n xs = truth_code (slice_index xs i == 0)
stepped (And i j) numbers n xs = slice_index xs i * slice_index xs j % 2 ^ 64
stepped (Or i j) numbers n xs = truth_code (nat_lt 0 ((slice_index xs i + slice_index xs j) % 2 ^ 64))
stepped (Choose sort c i j) numbers n xs = cond (slice_index xs c == 1) (slice_index xs i) (slice_index xs j)
