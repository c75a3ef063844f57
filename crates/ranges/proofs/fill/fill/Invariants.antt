use Rattle.std.proofs.Common.{◌≡◌, drop}
use Rattle.ranges.specs.Filled.{filled}
use Rattle.ranges.proofs.fill.fill.Given as goal

-- the rest of the rows, from the records as they stand, gives what all rows give from the start
abbrev pub invariant-loop-i : goal.invariant-loop-i
invariant-loop-i g l =
    filled (g.K.Keeper.whole l.keeper) (g.K.Keeper.exact l.keeper) (g.K.Keeper.makes l.keeper) l.i (drop l.i l.entries) l.records
    ≡ filled (g.K.Keeper.whole l.keeper) (g.K.Keeper.exact l.keeper) (g.K.Keeper.makes l.keeper) 0 l.entries l.initial.records
