use Rattle.std.proofs.Common.{◌≡◌, drop}
use Rattle.workbook.specs.Pages.{pages_in}
use Rattle.workbook.specs.Held.{SameTables}
use Rattle.workbook.specs.Feed.{entered_all}
use Rattle.workbook.proofs.enter.enter_all.Given as goal

-- the rest of the list, from where the tables stand, gives what the whole list gives from the entry
abbrev pub invariant-loop-order : goal.invariant-loop-order
invariant-loop-order g l =
    (entered_all (g.K.Keeper.whole l.keeper) (drop l.order-index l.orders) (pages_in l.book l.t)
    ≡ entered_all (g.K.Keeper.whole l.keeper) l.orders (pages_in l.initial.book l.initial.t))
    × SameTables l.initial.t l.t
