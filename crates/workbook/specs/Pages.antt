-- A workbook with its tables.
use Rattle.std.specs.Prelude.{ℕ, List}
use Rattle.std.proofs.Common.{zero-le}
use Rattle.source.specs.declared.order.Source.{Source}
use Rattle.target.specs.declared.assertion.Assertion.{Assertion}
use Rattle.target.specs.declared.row.Row.{Row}
use Rattle.workbook.specs.declared.book.Open.{Open}
use Rattle.workbook.specs.declared.counts.Counts.{Counts}
use Rattle.workbook.specs.declared.tables.Tables.{Tables}

-- how much of the tables is in use, and the tables from end to end; R is the keeper's kind of record
pub record Pages (R : Type 0) : Type 0 where
  pub source_count : ℕ
  pub row_count : ℕ
  pub assertion_count : ℕ
  pub sources : List Source
  pub records : List R
  pub rows : List Row
  pub assertions : List Assertion

-- tables of the code with so much of them in use
abbrev pub pages_at : {R : Type 0} → Counts → Tables R → Pages R
pages_at counts t = record {
  source_count = counts.sources;
  row_count = counts.rows;
  assertion_count = counts.assertions;
  sources = t.sources.now;
  records = t.records.now;
  rows = t.rows.now;
  assertions = t.assertions.now;
}

-- the counts of an empty workbook
abbrev pub nothing_used : Counts
nothing_used = record { sources = 0; rows = 0; assertions = 0; within = (zero-le, zero-le, zero-le) }

-- an open workbook with the tables that are lent to it
abbrev pub pages_in : {R : Type 0} → Open → Tables R → Pages R
pages_in book t = pages_at book.counts t
