-- What `line` and `write_text` answer.
use Rattle.std.specs.Prelude.{◌≡◌, ℕ, ◌+◌, Bool, true, false, cond, ◌||◌, List, ◌++◌, length, take, drop, Ok, Err, Result, nat_le, nat_lt}
use Rattle.refusal.specs.declared.Cause as cause
use Rattle.refusal.specs.Causes.{told}
use Rattle.refusal.specs.declared.Refusal.{Refusal}
use Rattle.target.specs.declared.row.Row.{Row}
use Rattle.target.specs.declared.assertion.Assertion.{Assertion}
use Rattle.target.specs.declared.table.Target.{Target}
use Rattle.workbook.specs.declared.counts.Counts.{Counts}
use Rattle.text.specs.declared.whole.Unwritten.{Unwritten}
use Rattle.text.specs.declared.whole.Unwritten.TheVariants.{Memory, Refused}
use Rattle.text.specs.Lines.{named_by, line_of}
use Rattle.text.specs.Law.{text_of}

-- the rows of a table that a workbook counts
abbrev pub rows_of : Counts → List Row → List Row
rows_of counts table = take counts.rows table

-- the rows that the assertions of a table name, as many as a workbook counts
abbrev pub asserted_of : Counts → List Assertion → List ℕ
asserted_of counts table = named_by (take counts.assertions table)

-- how many lines a workbook's text has
abbrev pub count_of : Counts → ℕ
count_of counts = counts.rows + counts.assertions + 2

-- whether a table is shorter than its count
abbrev pub short : Counts → List Row → List Assertion → Bool
short counts rows assertions = nat_lt (length rows) counts.rows || nat_lt (length assertions) counts.assertions

-- the one refusal of both calls
abbrev pub the_refusal : Counts → Refusal
the_refusal counts = told cause.TheVariants.Line (count_of counts)

-- both calls go on with the counted part of the tables, or refuse a short one
abbrev pub counted_or_refused : Counts → List Row → List Assertion → Result Target Refusal → Type 0
counted_or_refused counts rows assertions (Ok target) =
    (short counts rows assertions ≡ false) × (target.rows.now ≡ take counts.rows rows) × (target.assertions.now ≡ take counts.assertions assertions)
counted_or_refused counts rows assertions (Err refusal) = (short counts rows assertions ≡ true) × (refusal ≡ the_refusal counts)

-- line n of a workbook's text
abbrev pub the_line : Counts → List Row → List Assertion → ℕ → List ℕ
the_line counts rows assertions n = line_of (rows_of counts rows) (asserted_of counts assertions) n

-- `line` refuses a short table, a line that is none, a buffer below 64 bytes, and a line that the buffer cannot hold
abbrev pub line_refused : Counts → List Row → List Assertion → ℕ → ℕ → Bool
line_refused counts rows assertions n size =
    short counts rows assertions || (nat_le (count_of counts) n || (nat_lt size 64 || nat_lt size (length (the_line counts rows assertions n))))

-- what it answers
abbrev pub line_answer : Counts → List Row → List Assertion → ℕ → ℕ → Result ℕ Refusal
line_answer counts rows assertions n size =
    cond (line_refused counts rows assertions n size) (Err (the_refusal counts)) (Ok (length (the_line counts rows assertions n)))

-- what the buffer then holds, where `before` stood: the line, and behind it what stood there
abbrev pub line_buffer : Counts → List Row → List Assertion → ℕ → List ℕ → List ℕ
line_buffer counts rows assertions n before =
    cond (line_refused counts rows assertions n (length before)) before
    (the_line counts rows assertions n ++ drop (length (the_line counts rows assertions n)) before)

-- what `write_text` answers, `written` or not: it refuses a short table, and fails else only for want of memory
abbrev pub text_answer : Counts → List Row → List Assertion → Bool → Result Unit Unwritten
text_answer counts rows assertions written =
    cond (short counts rows assertions) (Err (Refused (the_refusal counts))) (cond written (Ok tt) (Err Memory))

-- a workbook's text
abbrev pub the_text : Counts → List Row → List Assertion → List ℕ
the_text counts rows assertions = text_of (rows_of counts rows) (asserted_of counts assertions)
