-- The records of a table's rows, from what a keeper makes: `whole` of a width, `exact` of a width and a number,
-- `makes` of an operator, a width and three records.
use Rattle.std.specs.Prelude.{ℕ, ◌+◌, List, [], ◌∷◌, take, slice_index_or, slice_set}
use Rattle.source.specs.declared.operator.Operator.{Operator}
use Rattle.ranges.specs.declared.entry.Entry.{Entry}
use Rattle.ranges.specs.declared.entry.Entry.TheVariants.{Any, Number, Applied}

-- the record of an operand; a row that is not there may be anything
abbrev pub record_at : {R : Type 0} → (ℕ → R) → List R → ℕ → ℕ → R
record_at whole before k at = slice_index_or before at (whole k)

module _ {R : Type 0} (whole : ℕ → R) (exact : ℕ → ℕ → R) (makes : Operator → ℕ → R → R → R → R) where
  abbrev pub record_of : List R → Entry → R
  record_of before (Any w) = whole w.bits
  record_of before (Number w n) = exact w.bits n
  record_of before (Applied op w a b c) =
      makes op w.bits (record_at whole before w.bits a) (record_at whole before w.bits b) (record_at whole before w.bits c)

  -- the records from row i on, each from those before it
  abbrev pub filled : ℕ → List Entry → List R → List R
  filled i [] rs = rs
  filled i (e ∷ es) rs = filled (i + 1) es (slice_set rs i (record_of (take i rs) e))
