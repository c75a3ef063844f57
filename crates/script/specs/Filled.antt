-- What the reader leaves in its two tables.
use Rattle.std.specs.Prelude.{◌≡◌, ℕ, min, List, length, take, replicate, Ok, Err, Result}
use Rattle.refusal.specs.declared.Refusal.{Refusal}
use Rattle.source.specs.declared.order.Order.{Order}
use Rattle.script.specs.declared.names.Name.{Name}
use Rattle.script.specs.declared.table.Table.{Table}
use Rattle.script.specs.Tokens.{token_at}
use Rattle.script.specs.Reading.{Read, nothing_read, commands_at, text_in, reading, order_room, name_room, blank_order, blank_name, padded}

-- the rows of a table that are used
abbrev pub filled : {T : Type 0} → Table T → List T
filled table = take table.used table.rows.now

-- how many rows of a table may be used: to its limit, or to its end
abbrev pub room_of : {T : Type 0} → Table T → ℕ
room_of table = min (length table.rows.now) table.limit

-- the reading of a script with these tables
abbrev pub reading_for : List Order → List Name → List ℕ → Result Read Refusal
reading_for orders names bytes = reading (order_room (length orders)) (name_room (length names)) bytes

-- the commands from a place on, read with these tables
abbrev pub commands_for : Table Order → Table Name → List ℕ → ℕ → Result Read Refusal
commands_for orders names bytes from = commands_at (token_at bytes) (text_in bytes) (room_of names) (room_of orders) nothing_read from

-- a table emptied: no row is used, and all are blank
pub record Empty {T : Type 0} (blank : T) (before after : Table T) : Type 0 where
  pub rows : after.rows.now ≡ replicate (length before.rows.now) blank
  pub used : after.used ≡ 0
  pub limit : after.limit ≡ before.limit
  pub lent : after.rows.ghost_name ≡ before.rows.ghost_name

-- a table on the very slice that was lent, as long as before
pub record Same {T : Type 0} (before after : Table T) : Type 0 where
  pub lent : after.rows.ghost_name ≡ before.rows.ghost_name
  pub limit : after.limit ≡ before.limit
  pub long : length after.rows.now ≡ length before.rows.now

-- tables that were blank hold what was read, and are blank after it; after a refusal nothing is said of them
abbrev pub Filled : Result Read Refusal → List Order → List Name → Type 0
Filled (Ok read) orders names =
    (orders ≡ padded (length orders) blank_order read.orders) × (names ≡ padded (length names) blank_name read.names)
Filled (Err e) orders names = Unit {0}
