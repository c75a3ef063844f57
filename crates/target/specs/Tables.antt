-- Rows written into a table.
use Rattle.std.specs.Prelude.{ℕ, ◌+◌, cond, List, ◌++◌, length, take, drop, nat_le}
use Rattle.target.specs.declared.row.Row.{Row}

-- the table with `new` from the index `at` on, and everything else as it was
abbrev pub laid : List Row → ℕ → List Row → List Row
laid rows at new = take at rows ++ (new ++ drop (at + length new) rows)

-- the same if there is room for all of `new`, and the table as it was if not
abbrev pub laid_if_room : List Row → ℕ → List Row → List Row
laid_if_room rows at new = cond (nat_le (at + length new) (length rows)) (laid rows at new) rows
