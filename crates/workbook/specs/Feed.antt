-- A list of orders is entered.
use Rattle.std.specs.Prelude.{ℕ, List, [], ◌∷◌, Ok, Err}
use Rattle.source.specs.declared.order.Order.{Order}
use Rattle.workbook.specs.Pages.{Pages}
use Rattle.workbook.specs.Declare.{Outcome, unless_short, entered}

-- what follows an order: the rest of the list if it was granted, nothing if it was refused
abbrev pub followed : {R : Type 0} → Outcome R → (Pages R → Outcome R) → Outcome R
followed o rest = elim o.0 [ Ok count ↦ rest o.1 | Err e ↦ (Err e, o.1) ]

module _ {R : Type 0} (whole : ℕ → R) where
  -- the orders in turn, up to the first that is refused; its refusal tells its place
  abbrev pub entered_all : List Order → Pages R → Outcome R
  entered_all [] p = (Ok p.source_count, p)
  entered_all (o ∷ os) p = followed (entered whole o.place p o.act) (entered_all os)

  -- a call of feed: tables that are too short come before all else
  abbrev pub fed : Pages R → List Order → Outcome R
  fed p os = unless_short p (entered_all os p)
