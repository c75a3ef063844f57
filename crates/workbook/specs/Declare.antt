-- A register is entered.
use Rattle.std.specs.Prelude.{ℕ, ◌+◌, cond, Ok, Err, Result, slice_set}
use Rattle.refusal.specs.Causes.{told}
use Rattle.refusal.specs.declared.Cause as causes
use Rattle.refusal.specs.declared.Cause.{Cause}
use Rattle.refusal.specs.declared.Refusal.{Refusal}
use Rattle.source.specs.Widths.{is_width}
use Rattle.source.specs.declared.order.Act.{Act}
use Rattle.source.specs.declared.order.Act.TheVariants.{Declare}
use Rattle.source.specs.declared.order.Sort.TheVariants.{Bits}
use Rattle.target.specs.Tables.{laid}
use Rattle.target.specs.declared.assertion.Kind as kinds
use Rattle.rows.specs.Rows.{register_rows}
use Rattle.workbook.specs.Pages.{Pages}
use Rattle.workbook.specs.Room.{long_enough, room_for}

-- what a call answers, and the workbook with its tables after it
abbrev pub Outcome : Type 0 → Type 0
Outcome R = Result ℕ Refusal × Pages R

-- the answer to an order: a refusal tells the number `at`, a grant the source row count
abbrev pub answered : {R : Type 0} → ℕ → Result (Unit {0}) Cause × Pages R → Outcome R
answered at o = elim o.0 [ Ok _ ↦ (Ok o.1.source_count, o.1) | Err cause ↦ (Err (told cause at), o.1) ]

-- tables that are too short come before all else, and are told with the source row count
abbrev pub unless_short : {R : Type 0} → Pages R → Outcome R → Outcome R
unless_short p go = elim (long_enough p) [ Ok _ ↦ go | Err cause ↦ (Err (told cause p.source_count), p) ]

-- `whole` gives the keeper's record of a row of which nothing is known but its width
module _ {R : Type 0} (whole : ℕ → R) where
  -- the tables with a register of width k more: its image is the unknown, and the last row is asserted
  abbrev pub with_register : Pages R → ℕ → Pages R
  with_register p k = record {
    source_count = p.source_count + 1;
    row_count = p.row_count + 6;
    assertion_count = p.assertion_count + 1;
    sources = slice_set p.sources p.source_count (record { act = Declare k; sort = Bits k; image = p.row_count });
    records = slice_set p.records p.source_count (whole k);
    rows = laid p.rows p.row_count (register_rows k p.row_count);
    assertions = slice_set p.assertions p.assertion_count (record { row = p.row_count + 5; source = p.source_count; kind = kinds.TheVariants.Range });
  }

  -- whether a register of width k is entered, and if not, why: first its width, then the room
  abbrev pub register_fits : Pages R → ℕ → Result (Unit {0}) Cause
  register_fits p k = cond (is_width k) (room_for p 6 1) (Err causes.TheVariants.Range)

  -- a register entered, or the cause for which everything is left as it was
  abbrev pub registered : Pages R → ℕ → Result (Unit {0}) Cause × Pages R
  registered p k = elim (register_fits p k) [ Ok _ ↦ (Ok tt, with_register p k) | Err cause ↦ (Err cause, p) ]

  -- one order, where no table is short; only registers are entered yet
  abbrev pub tried : Pages R → Act → Result (Unit {0}) Cause × Pages R
  tried p (Declare k) = registered p k
  tried p _ = (Err causes.TheVariants.NotYet, p)

  -- the same with its answer; a refusal tells the number `at`
  abbrev pub entered : ℕ → Pages R → Act → Outcome R
  entered at p act = answered at (tried p act)

  -- a call of declare: a refusal tells the source row count
  abbrev pub declared : Pages R → ℕ → Outcome R
  declared p k = unless_short p (entered p.source_count p (Declare k))
