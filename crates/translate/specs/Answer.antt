-- What the program prints for a script.
use Rattle.std.specs.Prelude.{◌≡◌, ℕ, cond, List, ◌++◌, length, take, replicate, Ok, Err, Result, nat_lt}
use Rattle.keeper.specs.Intervals.{whole_interval}
use Rattle.keeper.specs.declared.record.IntervalRecord.{IntervalRecord}
use Rattle.script.specs.Reading.{full, blank_order, blank_name}
use Rattle.source.specs.declared.order.Act.TheVariants.{Declare}
use Rattle.source.specs.declared.order.Sort.TheVariants.{Bool as Truth}
use Rattle.source.specs.declared.order.Source.{Source}
use Rattle.target.specs.declared.assertion.Assertion.{Assertion}
use Rattle.target.specs.declared.assertion.Kind.TheVariants.{Range}
use Rattle.target.specs.declared.row.Row.{Row}
use Rattle.target.specs.declared.row.Row.TheVariants.{Unknown}
use Rattle.refusal.specs.declared.Refusal.{Refusal}
use Rattle.workbook.specs.declared.book.Sealed.{Sealed}
use Rattle.text.specs.Outcome.{the_text}
use Rattle.text.specs.Law.{text_of}
use Rattle.text.specs.Lines.{named_by}
use Rattle.text.specs.Refused.{refusal_line}
use Rattle.workbook.specs.Pages.{Pages}
use Rattle.workbook.specs.Declare.{Outcome}
use Rattle.translate.specs.Translation.{translation}
use Rattle.translate.specs.declared.answer.Own.{Own}

-- more than 16,384 bytes are refused; fewer are translated, with an order table and a name table of these lengths
abbrev pub answered : ℕ → ℕ → List ℕ → Pages IntervalRecord → Outcome IntervalRecord
answered orders names bytes p = cond (nat_lt 16384 (length bytes)) (Err (full 16384), p) (translation whole_interval orders names bytes p)

-- granted, the text of the rows and assertions in use; refused, the refusal's line
abbrev pub written : Outcome IntervalRecord → List ℕ
written o = elim o.0 [
  | Ok count ↦ text_of (take o.1.row_count o.1.rows) (named_by (take o.1.assertion_count o.1.assertions))
  | Err e ↦ refusal_line e
]

-- the same from what the code holds
abbrev pub line_or_text : Result Sealed Refusal → List Row → List Assertion → List ℕ
line_or_text (Ok book) rows assertions = the_text book.counts rows assertions
line_or_text (Err e) rows assertions = refusal_line e

-- tables of which nothing is in use
abbrev pub begun_on : {R : Type 0} → List Source → List R → List Row → List Assertion → Pages R
begun_on sources records rows assertions = record {
  source_count = 0;
  row_count = 0;
  assertion_count = 0;
  sources = sources;
  records = records;
  rows = rows;
  assertions = assertions;
}

-- the tables that the program supplies, as they are before anything is written into them
abbrev pub blank_source : Source
blank_source = record { act = Declare 0; sort = Truth; image = 0 }

abbrev pub blank_assertion : Assertion
blank_assertion = record { row = 0; source = 0; kind = Range }

abbrev pub own_tables : Pages IntervalRecord
own_tables = begun_on (replicate 1024 blank_source) (replicate 1024 (whole_interval 1)) (replicate 2048 Unknown) (replicate 4096 blank_assertion)

-- the same tables, with the order table and the name table, as the code holds them
pub record IsBlank (own : Own) : Type 0 where
  pub orders : own.orders.items ≡ replicate 1024 blank_order
  pub names : own.names.items ≡ replicate 256 blank_name
  pub sources : own.sources.items ≡ replicate 1024 blank_source
  pub records : own.records.items ≡ replicate 1024 (whole_interval 1)
  pub rows : own.rows.items ≡ replicate 2048 Unknown
  pub assertions : own.assertions.items ≡ replicate 4096 blank_assertion

-- what becomes of a script: it is granted, or refused with this refusal
abbrev pub verdict : {A : Type 0} → Result A Refusal → Result (Unit {0}) Refusal
verdict (Ok _) = Ok tt
verdict (Err e) = Err e

-- what is printed for a script, and what becomes of it: with room for 1,024 orders and 256 names
abbrev pub printed : List ℕ → List ℕ
printed bytes = written (answered 1024 256 bytes own_tables)

abbrev pub granted : List ℕ → Result (Unit {0}) Refusal
granted bytes = verdict (answered 1024 256 bytes own_tables).0

-- what was appended to `before` for an outcome: its text or its refusal's line, as the answer says
abbrev pub Printed : Outcome IntervalRecord → List ℕ → Result (Unit {0}) Refusal → List ℕ → Type 0
Printed o before answer after = (answer ≡ verdict o.0) × (after ≡ before ++ written o)
