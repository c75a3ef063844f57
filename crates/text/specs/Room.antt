-- 64 bytes hold every line of a target within the limits.
use Rattle.std.specs.Prelude.{ℕ, ◌^◌, ◌<◌, ◌≤◌, List, length, slice_index, slice_index_or}
use Rattle.target.specs.declared.row.Row.{Row}
use Rattle.target.specs.declared.row.Row.TheVariants.{Unknown, Number, Truth, Add, Sub, Times, Quot, Rem, Equal, Less, AtMost, Not, And, Or, Choose}
use Rattle.text.specs.Lines.{line_of, line_count}

-- a row's operands are below 32,768, and its number is below 2^64
abbrev pub Small : Row → Type 0
Small Unknown = Unit {0}
Small (Number n) = n < 2 ^ 64
Small (Truth b) = Unit {0}
Small (Add a b) = (a < 32768) × (b < 32768)
Small (Sub a b) = (a < 32768) × (b < 32768)
Small (Times a b) = (a < 32768) × (b < 32768)
Small (Quot a b) = (a < 32768) × (b < 32768)
Small (Rem a b) = (a < 32768) × (b < 32768)
Small (Equal a b) = (a < 32768) × (b < 32768)
Small (Less a b) = (a < 32768) × (b < 32768)
Small (AtMost a b) = (a < 32768) × (b < 32768)
Small (Not a) = a < 32768
Small (And a b) = (a < 32768) × (b < 32768)
Small (Or a b) = (a < 32768) × (b < 32768)
Small (Choose s c a b) = (c < 32768) × (a < 32768) × (b < 32768)

-- each row is small, and each asserted row is one of the first 32,768
abbrev pub Limited : List Row → List ℕ → Type 0
Limited rows asserted = ((k : ℕ) → k < length rows → Small (slice_index_or rows k Unknown)) × ((k : ℕ) → k < length asserted → slice_index asserted k < 32768)

-- then 64 bytes hold each line
abbrev pub Room : Type 0
Room = (rows : List Row) (asserted : List ℕ) (n : ℕ) → n < line_count rows asserted → length rows ≤ 32768 → Limited rows asserted → length (line_of rows asserted n) ≤ 64
