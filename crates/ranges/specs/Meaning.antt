-- The values of a table's rows.
use Rattle.std.specs.Prelude.{◌≡◌, ℕ, ◌+◌, ◌^◌, ◌<◌, ◌≤◌, true, false, List, [], ◌∷◌, slice_index_or}
use Rattle.source.specs.Sorts.{shape_of, count_of}
use Rattle.source.specs.Values.{is_value, bits_of, number_of, taken, value_of}
use Rattle.source.specs.declared.value.Value.{Value}
use Rattle.source.specs.declared.value.Value.TheVariants as values
use Rattle.ranges.specs.declared.entry.Entry.{Entry}
use Rattle.ranges.specs.declared.entry.Entry.TheVariants.{Any, Number, Applied}

abbrev pub value_at : List Value → ℕ → Value
value_at vs i = slice_index_or vs i (values.Bool false)

-- whether row i has a value that it can have: of a free row a value of its width, of a constant its number, and
-- of an operator what it gives for the values of its operands, which are taken and stand before it
abbrev pub Row : List Value → ℕ → Entry → Type 0
Row vs i (Any w) = (is_value (value_at vs i) ≡ true) × (bits_of (value_at vs i) ≡ w.bits)
Row vs i (Number w n) = (bits_of (value_at vs i) ≡ w.bits) × (number_of (value_at vs i) ≡ n) × (n < 2 ^ w.bits)
Row vs i (Applied op w a b c) =
    (taken op (value_at vs a) (value_at vs b) (value_at vs c) ≡ true)
    × (value_at vs i ≡ value_of op (value_at vs a) (value_at vs b) (value_at vs c))
    × (bits_of (value_at vs i) ≡ w.bits)
    × (a < i)
    × (2 ≤ count_of (shape_of op) → b < i)
    × (3 ≤ count_of (shape_of op) → c < i)

-- the same of every row from i on
abbrev pub Rows : List Value → ℕ → List Entry → Type 0
Rows vs i [] = Unit {0}
Rows vs i (e ∷ es) = Row vs i e × Rows vs (i + 1) es
