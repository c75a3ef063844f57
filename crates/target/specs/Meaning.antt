-- What the rows of a table and its assertions mean, under a reading and a number for each unknown.
--
-- Numbers are given to the unknowns by *ordinal*: `numbers n` is that of the n-th unknown row of the table,
-- counted from 0, whatever its index. So a list of numbers means the same wherever other rows stand between.
use Rattle.std.specs.Prelude.{◌≡◌, ℕ, ◌+◌, true, cond, not, ◌&&◌, ◌||◌, List, [], ◌∷◌, ◌++◌, ℤ, pos, ◌+ℤ◌, ◌-ℤ◌, ◌*ℤ◌, int_le, int_lt}
use Rattle.target.specs.declared.assertion.Assertion.{Assertion}
use Rattle.target.specs.declared.row.Row.{Row}
use Rattle.target.specs.declared.row.Row.TheVariants.{Unknown, Number, Truth, Add, Sub, Times, Quot, Rem, Equal, Less, AtMost, Not, And, Or, Choose}
use Rattle.target.specs.Values.{Val, int, bool, Reading, whole, truth, same, value_at}
use Rattle.target.specs.Division.{quot, rem}

-- The value of a row that follows rows of the values `vs`, n unknowns among them. Where an operand is
-- missing or of the wrong sort, 0 or false stands for it.
unfoldable pub row_value : Reading → (ℕ → ℤ) → List Val → ℕ → Row → Val
row_value reading numbers vs n Unknown = int (numbers n)
row_value reading numbers vs n (Number m) = int (pos m)
row_value reading numbers vs n (Truth b) = bool b
row_value reading numbers vs n (Add i j) = int (whole (value_at vs i) +ℤ whole (value_at vs j))
row_value reading numbers vs n (Sub i j) = int (whole (value_at vs i) -ℤ whole (value_at vs j))
row_value reading numbers vs n (Times i j) = int (whole (value_at vs i) *ℤ whole (value_at vs j))
row_value reading numbers vs n (Quot i j) = int (quot reading (whole (value_at vs i)) (whole (value_at vs j)))
row_value reading numbers vs n (Rem i j) = int (rem reading (whole (value_at vs i)) (whole (value_at vs j)))
row_value reading numbers vs n (Equal i j) = bool (same (value_at vs i) (value_at vs j))
row_value reading numbers vs n (Less i j) = bool (int_lt (whole (value_at vs i)) (whole (value_at vs j)))
row_value reading numbers vs n (AtMost i j) = bool (int_le (whole (value_at vs i)) (whole (value_at vs j)))
row_value reading numbers vs n (Not i) = bool (not (truth (value_at vs i)))
row_value reading numbers vs n (And i j) = bool (truth (value_at vs i) && truth (value_at vs j))
row_value reading numbers vs n (Or i j) = bool (truth (value_at vs i) || truth (value_at vs j))
row_value reading numbers vs n (Choose sort c i j) = cond (truth (value_at vs c)) (value_at vs i) (value_at vs j)

-- how many unknowns a row is: 1 or 0
abbrev pub unknown : Row → ℕ
unknown Unknown = 1
unknown (Number m) = 0
unknown (Truth b) = 0
unknown (Add i j) = 0
unknown (Sub i j) = 0
unknown (Times i j) = 0
unknown (Quot i j) = 0
unknown (Rem i j) = 0
unknown (Equal i j) = 0
unknown (Less i j) = 0
unknown (AtMost i j) = 0
unknown (Not i) = 0
unknown (And i j) = 0
unknown (Or i j) = 0
unknown (Choose sort c i j) = 0

-- how many unknowns a table has
abbrev pub unknowns : List Row → ℕ
unknowns [] = 0
unknowns (row ∷ rows) = unknown row + unknowns rows

-- the values of `rows` that come after rows of the values `vs`, n unknowns among those
unfoldable pub later : Reading → (ℕ → ℤ) → List Val → ℕ → List Row → List Val
later reading numbers vs n [] = []
later reading numbers vs n (row ∷ rows) =
    let v = row_value reading numbers vs n row in
    v ∷ later reading numbers (vs ++ (v ∷ [])) (n + unknown row) rows

-- the values of a table's rows
unfoldable pub values : Reading → (ℕ → ℤ) → List Row → List Val
values reading numbers rows = later reading numbers [] 0 rows

-- every asserted row is true
abbrev pub Met : Reading → (ℕ → ℤ) → List Row → List Assertion → Type 0
Met reading numbers rows [] = Unit {0}
Met reading numbers rows (assertion ∷ assertions) =
    (value_at (values reading numbers rows) assertion.row ≡ bool true) × Met reading numbers rows assertions
