-- A script translated: read, and its orders entered into an empty workbook.
use Rattle.std.specs.Prelude.{◌≡◌, ℕ, List, Ok, Err, Result}
use Rattle.refusal.specs.declared.Refusal.{Refusal}
use Rattle.script.specs.Reading.{Read, reading, order_room, name_room}
use Rattle.workbook.specs.Pages.{Pages, pages_at}
use Rattle.workbook.specs.Room.{Long}
use Rattle.workbook.specs.Declare.{Outcome}
use Rattle.workbook.specs.Feed.{fed}
use Rattle.workbook.specs.declared.book.Sealed.{Sealed}
use Rattle.workbook.specs.declared.counts.Counts.{Counts}
use Rattle.workbook.specs.declared.tables.Tables.{Tables}

-- a script read into tables of these lengths
abbrev pub read_for : ℕ → ℕ → List ℕ → Result Read Refusal
read_for orders names bytes = reading (order_room orders) (name_room names) bytes

-- the orders that were read, entered; or why the script was not read, with everything as it was
abbrev pub entered_from : {R : Type 0} → (ℕ → R) → Result Read Refusal → Pages R → Outcome R
entered_from whole (Ok read) p = fed whole p read.orders
entered_from whole (Err e) p = (Err e, p)

abbrev pub translation : {R : Type 0} → (ℕ → R) → ℕ → ℕ → List ℕ → Pages R → Outcome R
translation whole orders names bytes p = entered_from whole (read_for orders names bytes) p

-- an outcome as a call leaves it. Granted: the sealed workbook's counts and the tables are the outcome's, and
-- every table is as long as its count. Refused: the refusal is the outcome's, and so are the tables, which hold
-- what the orders before it made.
abbrev pub Left : {R : Type 0} → Outcome R → Result Sealed Refusal → Tables R → Type 0
Left o (Ok book) t = ((Ok book.counts.sources, pages_at book.counts t) ≡ o) × Long (pages_at book.counts t)
Left o (Err e) t = (counts : Counts) × ((Err e, pages_at counts t) ≡ o)
