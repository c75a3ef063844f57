-- The counted part of the tables.
use Rattle.std.proofs.Common.{◌≡◌, ℕ, ◌<◌, ◌≤◌, List, length, take, arith, append_assoc}
use Rattle.std.proofs.lemmas.List.{length-take-le, length-map}
use Rattle.std.proofs.lemmas.Bool.Decides.{nat_tests}
use Rattle.target.specs.declared.row.Row.{Row}
use Rattle.target.specs.declared.assertion.Assertion.{Assertion}
use Rattle.workbook.specs.declared.counts.Counts.{Counts}
use Rattle.text.specs.Lines.{line_count}
use Rattle.text.specs.Outcome.{rows_of, asserted_of, count_of, the_line}
use Rattle.text.specs.Room.{Limited}
use Rattle.text.proofs.Rooms.{room}

pub count_is : (k : Counts) (rows : List Row) (table : List Assertion) → k.rows ≤ length rows → k.assertions ≤ length table → line_count (rows_of k rows) (asserted_of k table) ≡ count_of k
count_is k rows table h g =
    omega (arith, length-take-le k.rows rows h, length-map (take k.assertions table) (λ (a : Assertion). a.row), length-take-le k.assertions table g)

-- 64 bytes hold the line
pub room_for : (k : Counts) (rows : List Row) (table : List Assertion) (n : ℕ) → n < count_of k → k.rows ≤ length rows → k.assertions ≤ length table → Limited (rows_of k rows) (asserted_of k table) → length (the_line k rows table n) ≤ 64
room_for k rows table n here few wide limited =
    room (rows_of k rows) (asserted_of k table) n (omega (arith, count_is k rows table few wide)) (omega (arith, k.within, length-take-le k.rows rows few)) limited

pub ruleset tables = (room_for, nat_tests, append_assoc)
