-- The row at a place of a scheme's list.
use Rattle.std.specs.Prelude.{ℕ, Bool, cond, ◌&&◌, List, [], nat_le, nat_lt, slice_index_or}
use Rattle.target.specs.declared.row.Row.{Row}
use Rattle.target.specs.declared.row.Row.TheVariants.{Unknown}
use Rattle.scheme.specs.declared.lemma.Lemma.{Lemma}
use Rattle.scheme.specs.Shared.{Turns, base_of}
use Rattle.scheme.specs.SumRows.{sum_turn, sum_rows}
use Rattle.scheme.specs.BitwiseRows.{bitwise_turn, bitwise_rows}
use Rattle.scheme_tests.specs.declared.expected.Frame.{Frame}

-- widths up to 32, at the first 65,536 rows of a table
abbrev pub is_small : Frame → Bool
is_small f = nat_le f.lemma.k 32 && nat_lt f.count 65536

-- the rows of a digit of sum, and of bitwise
abbrev pub sums : Frame → Turns
sums f = sum_turn (base_of f.count f.lemma)

abbrev pub compares : Frame → Turns
compares f = bitwise_turn (base_of f.count f.lemma)

-- the row at the place j of a list; past its end, and of larger frames, an unknown
abbrev pub placed : (ℕ → Lemma → List Row) → Frame → ℕ → Row
placed list f j = slice_index_or (cond (is_small f) (list f.count f.lemma) []) j Unknown

abbrev pub sum_placed : Frame → ℕ → Row
sum_placed = placed sum_rows

abbrev pub bitwise_placed : Frame → ℕ → Row
bitwise_placed = placed bitwise_rows
