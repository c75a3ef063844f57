-- Which tables are too short or full.
use Rattle.std.specs.Prelude.{ℕ, ◌+◌, ◌≤◌, min, cond, ◌||◌, length, Ok, Err, Result, nat_le, nat_lt}
use Rattle.refusal.specs.declared.Cause.{Cause}
use Rattle.refusal.specs.declared.Cause.TheVariants.{SourcesFull, TargetFull}
use Rattle.workbook.specs.Pages.{Pages}

-- every table is as long as its count
pub record Long {R : Type 0} (p : Pages R) : Type 0 where
  pub long_sources : p.source_count ≤ length p.sources
  pub long_records : p.source_count ≤ length p.records
  pub long_rows : p.row_count ≤ length p.rows
  pub long_assertions : p.assertion_count ≤ length p.assertions

module _ {R : Type 0} (p : Pages R) where
  -- whether every table is as long as its count, and if not, which kind is shorter
  abbrev pub long_enough : Result (Unit {0}) Cause
  long_enough =
      cond (nat_lt (length p.sources) p.source_count || nat_lt (length p.records) p.source_count) (Err SourcesFull)
      (cond (nat_lt (length p.rows) p.row_count || nat_lt (length p.assertions) p.assertion_count) (Err TargetFull)
      (Ok tt))

  -- a table is used to its end, or to its limit if it is longer
  abbrev pub source_room : ℕ
  source_room = min (min (length p.sources) (length p.records)) 1024

  abbrev pub row_room : ℕ
  row_room = min (length p.rows) 32768

  abbrev pub assertion_room : ℕ
  assertion_room = min (length p.assertions) 4096

  -- whether there is room for one source row with so many target rows and assertions, and if not, which kind is full
  abbrev pub room_for : ℕ → ℕ → Result (Unit {0}) Cause
  room_for rows assertions =
      cond (nat_le source_room p.source_count) (Err SourcesFull)
      (cond (nat_lt row_room (p.row_count + rows) || nat_lt assertion_room (p.assertion_count + assertions)) (Err TargetFull)
      (Ok tt))
