-- What the interval keeper knows of a result of width k, from what it knows of the operands. `between`
-- answers all numbers of the width where the ends are not both of it, as where a sum may roll over.
use Rattle.std.specs.Prelude.{ℕ, ◌+◌, ◌-◌, ◌/◌, ◌^◌, min, max, cond, nat_le}
use Rattle.source.specs.declared.operator.Operator.{Operator}
use Rattle.source.specs.declared.operator.Operator.TheVariants.{BvAdd, BvSub, BvUrem, Extract, BvAnd, BvLshr, Ite}
use Rattle.keeper.specs.Intervals.{between, whole_interval}
use Rattle.keeper.specs.declared.record.IntervalRecord.{IntervalRecord}

abbrev pub sum_of : ℕ → IntervalRecord → IntervalRecord → IntervalRecord
sum_of k a b = between k (a.lo + b.lo) (a.hi + b.hi)

-- nothing is known of a difference that may roll over
abbrev pub difference_of : ℕ → IntervalRecord → IntervalRecord → IntervalRecord
difference_of k a b = cond (nat_le b.hi a.lo) (between k (a.lo - b.hi) (a.hi - b.lo)) (whole_interval k)

abbrev pub common_of : ℕ → IntervalRecord → IntervalRecord → IntervalRecord
common_of k a b = between k 0 (min a.hi b.hi)

-- what a shift to the right or a remainder leaves of a
abbrev pub rest : ℕ → IntervalRecord → IntervalRecord
rest k a = between k 0 a.hi

-- the bits of a from the lower one up, where the bits cut off above are 0
abbrev pub part_of : ℕ → ℕ → IntervalRecord → IntervalRecord
part_of k lower a = between k (a.lo / 2 ^ lower) (a.hi / 2 ^ lower)

abbrev pub either_of : ℕ → IntervalRecord → IntervalRecord → IntervalRecord
either_of k b c = between k (min b.lo c.lo) (max b.hi c.hi)

abbrev pub interval_made : Operator → ℕ → IntervalRecord → IntervalRecord → IntervalRecord → IntervalRecord
interval_made BvAdd k a b c = sum_of k a b
interval_made BvSub k a b c = difference_of k a b
interval_made BvAnd k a b c = common_of k a b
interval_made BvLshr k a b c = rest k a
interval_made BvUrem k a b c = rest k a
interval_made (Extract upper lower) k a b c = part_of k lower a
interval_made Ite k a b c = either_of k b c
interval_made _ k a b c = whole_interval k
