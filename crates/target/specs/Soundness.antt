-- Sound tables: the operands of every row are earlier rows, of the sorts that it takes.
use Rattle.std.specs.Prelude.{◌≡◌, ℕ, ◌<◌, List, length, slice_index_or}
use Rattle.target.specs.declared.row.Sort.{Sort}
use Rattle.target.specs.declared.row.Sort.TheVariants.{Int, Bool}
use Rattle.target.specs.declared.row.Row.{Row}
use Rattle.target.specs.declared.row.Row.TheVariants.{Unknown, Number, Truth, Add, Sub, Times, Quot, Rem, Equal, Less, AtMost, Not, And, Or, Choose}
use Rattle.target.specs.Sorts.{sort_of}

-- the sort of the row at an index; what it says of a missing row is never used
abbrev pub sort_at : List Row → ℕ → Sort
sort_at rows i = sort_of (slice_index_or rows i Unknown)

-- `s` gives the sort of each row. The operand p of a row at the index i is earlier, and of the sort t.
abbrev pub Takes : (ℕ → Sort) → ℕ → Sort → ℕ → Type 0
Takes s i t p = (p < i) × (s p ≡ t)

-- the operands of a row at the index i are earlier, and of the right sorts
abbrev pub RowSound : (ℕ → Sort) → ℕ → Row → Type 0
RowSound s i Unknown = Unit {0}
RowSound s i (Number m) = Unit {0}
RowSound s i (Truth b) = Unit {0}
RowSound s i (Add p q) = Takes s i Int p × Takes s i Int q
RowSound s i (Sub p q) = Takes s i Int p × Takes s i Int q
RowSound s i (Times p q) = Takes s i Int p × Takes s i Int q
RowSound s i (Quot p q) = Takes s i Int p × Takes s i Int q
RowSound s i (Rem p q) = Takes s i Int p × Takes s i Int q
RowSound s i (Equal p q) = (p < i) × Takes s i (s p) q
RowSound s i (Less p q) = Takes s i Int p × Takes s i Int q
RowSound s i (AtMost p q) = Takes s i Int p × Takes s i Int q
RowSound s i (Not p) = Takes s i Bool p
RowSound s i (And p q) = Takes s i Bool p × Takes s i Bool q
RowSound s i (Or p q) = Takes s i Bool p × Takes s i Bool q
RowSound s i (Choose sort p q r) = Takes s i Bool p × Takes s i sort q × Takes s i sort r

abbrev pub Sound : List Row → Type 0
Sound rows = (i : ℕ) → i < length rows → RowSound (sort_at rows) i (slice_index_or rows i Unknown)
