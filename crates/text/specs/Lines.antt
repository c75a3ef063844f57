-- The lines of the text that states a target.
use Rattle.std.specs.Prelude.{ℕ, ◌+◌, Bool, true, false, cond, List, [], ◌∷◌, ◌++◌, map, length, codes, slice_index_or}
use Rattle.std.specs.List.{range_with_len}
use Rattle.target.specs.declared.assertion.Assertion.{Assertion}
use Rattle.target.specs.declared.row.Row.{Row}
use Rattle.target.specs.declared.row.Row.TheVariants.{Unknown, Number, Truth, Add, Sub, Times, Quot, Rem, Equal, Less, AtMost, Not, And, Or, Choose}
use Rattle.target.specs.declared.row.Sort as sort
use Rattle.target.specs.declared.row.Sort.{Sort}
use Rattle.target.specs.Sorts.{sort_of}
use Rattle.text.specs.Numeral.{numeral}

-- operands, each a row by its index, up to the parenthesis behind them
abbrev pub operands_text : List ℕ → List ℕ
operands_text [] = codes ")"
operands_text (row ∷ rows) = codes " t" ++ (numeral row ++ operands_text rows)

-- an operation on rows, as (+ t3 t5)
abbrev pub call_text : List ℕ → List ℕ → List ℕ
call_text op operands = codes "(" ++ (op ++ operands_text operands)

-- a truth value
abbrev pub truth_text : Bool → List ℕ
truth_text true = codes "true"
truth_text false = codes "false"

-- what a row is defined as; an unknown has no definition
abbrev pub body_of : Row → List ℕ
body_of Unknown = []
body_of (Number n) = numeral n
body_of (Truth b) = truth_text b
body_of (Add a b) = call_text (codes "+") (a ∷ b ∷ [])
body_of (Sub a b) = call_text (codes "-") (a ∷ b ∷ [])
body_of (Times a b) = call_text (codes "*") (a ∷ b ∷ [])
body_of (Quot a b) = call_text (codes "div") (a ∷ b ∷ [])
body_of (Rem a b) = call_text (codes "mod") (a ∷ b ∷ [])
body_of (Equal a b) = call_text (codes "=") (a ∷ b ∷ [])
body_of (Less a b) = call_text (codes "<") (a ∷ b ∷ [])
body_of (AtMost a b) = call_text (codes "<=") (a ∷ b ∷ [])
body_of (Not a) = call_text (codes "not") (a ∷ [])
body_of (And a b) = call_text (codes "and") (a ∷ b ∷ [])
body_of (Or a b) = call_text (codes "or") (a ∷ b ∷ [])
body_of (Choose s c a b) = call_text (codes "ite") (c ∷ a ∷ b ∷ [])

-- whether a row is declared and not defined
abbrev pub unknown : Row → Bool
unknown Unknown = true
unknown (Number n) = false
unknown (Truth b) = false
unknown (Add a b) = false
unknown (Sub a b) = false
unknown (Times a b) = false
unknown (Quot a b) = false
unknown (Rem a b) = false
unknown (Equal a b) = false
unknown (Less a b) = false
unknown (AtMost a b) = false
unknown (Not a) = false
unknown (And a b) = false
unknown (Or a b) = false
unknown (Choose s c a b) = false

-- what stands between a defined row's name and its body
abbrev pub sort_text : Sort → List ℕ
sort_text sort.TheVariants.Int = codes " () Int "
sort_text sort.TheVariants.Bool = codes " () Bool "

-- the line of an unknown
abbrev pub declared_line : ℕ → List ℕ
declared_line i = codes "(declare-fun t" ++ (numeral i ++ codes " () Int)\n")

-- the line of any other row
abbrev pub defined_line : ℕ → Row → List ℕ
defined_line i row = codes "(define-fun t" ++ (numeral i ++ (sort_text (sort_of row) ++ (body_of row ++ codes ")\n")))

-- the line of the row with index i
abbrev pub line_for : ℕ → Row → List ℕ
line_for i row = cond (unknown row) (declared_line i) (defined_line i row)

-- the line of a table's row i
abbrev pub row_line : List Row → ℕ → List ℕ
row_line rows i = line_for i (slice_index_or rows i Unknown)

-- the lines of its rows, in their order
abbrev pub row_lines : List Row → List (List ℕ)
row_lines rows = map (row_line rows) (range_with_len 0 (length rows))

-- the rows that assertions name
abbrev pub named_by : List Assertion → List ℕ
named_by assertions = map (λ a. a.row) assertions

-- the line that asserts a row
abbrev pub assert_line : ℕ → List ℕ
assert_line row = codes "(assert t" ++ (numeral row ++ codes ")\n")

-- the first line and the last
abbrev pub logic_line : List ℕ
logic_line = codes "(set-logic QF_NIA)\n"

abbrev pub check_line : List ℕ
check_line = codes "(check-sat)\n"

-- the lines: the logic, the rows, the assertions, the question
unfoldable pub lines_of : List Row → List ℕ → List (List ℕ)
lines_of rows asserted = logic_line ∷ (row_lines rows ++ (map assert_line asserted ++ (check_line ∷ [])))

-- how many lines there are
abbrev pub line_count : List Row → List ℕ → ℕ
line_count rows asserted = length rows + length asserted + 2

-- line n, and no bytes where there is none
abbrev pub line_of : List Row → List ℕ → ℕ → List ℕ
line_of rows asserted n = slice_index_or (lines_of rows asserted) n []
