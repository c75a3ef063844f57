-- Which line is which.
use Rattle.std.proofs.Common.{◌≡◌, ℕ, suc, ◌+◌, ◌-◌, ◌<◌, ◌≤◌, List, [], ◌∷◌, ◌++◌, map, length, get_or, ap, ◌∙◌, zero-add, arith}
use Rattle.std.proofs.lemmas.List.{get_or_append_left, get_or-append_right, get_or-map, length-map, length-append}
use Rattle.std.proofs.lemmas.List.FromFn.{length-map-range_with_len, get_or-map-range_with_len}
use Rattle.std.proofs.lemmas.Bool.Decides.{nat_tests}
use Rattle.target.specs.declared.assertion.Assertion.{Assertion}
use Rattle.target.specs.declared.row.Row.{Row}
use Rattle.text.specs.Lines.{lines_of, named_by, line_of, line_count, row_line, row_lines, assert_line, logic_line, check_line}
use Rattle.text.proofs.Kept.{kept_whole}

rest : List Row → List ℕ → List (List ℕ)
rest rows asserted = row_lines rows ++ (map assert_line asserted ++ (check_line ∷ []))

pub line_logic : (rows : List Row) (asserted : List ℕ) (n : ℕ) → n ≡ 0 → line_of rows asserted n ≡ logic_line
unfolding lines_of
line_logic rows asserted n h = ap (line_of rows asserted) h

pub line_row : (rows : List Row) (asserted : List ℕ) (n : ℕ) → 0 < n → n - 1 < length rows → line_of rows asserted n ≡ row_line rows (n - 1)
unfolding lines_of
line_row rows asserted n p h =
    let e : n ≡ suc (n - 1) = omega arith in
    ap (line_of rows asserted) e
    ∙ get_or_append_left (row_lines rows) (map assert_line asserted ++ (check_line ∷ [])) [] (n - 1) (omega (arith, length-map-range_with_len (row_line rows) 0 (length rows)))
    ∙ get_or-map-range_with_len (row_line rows) 0 (length rows) (n - 1) (n - 1) [] h (zero-add (n - 1))

pub line_assert : (rows : List Row) (asserted : List ℕ) (n : ℕ) → 0 < n → length rows ≤ n - 1 → n - 1 - length rows < length asserted → line_of rows asserted n ≡ assert_line (get_or asserted (n - 1 - length rows) 0)
unfolding lines_of
line_assert rows asserted n p h k =
    let e : n ≡ suc (n - 1) = omega arith in
    ap (line_of rows asserted) e
    ∙ get_or-append_right (row_lines rows) (map assert_line asserted ++ (check_line ∷ [])) (length rows) (n - 1) [] (length-map-range_with_len (row_line rows) 0 (length rows)) h
    ∙ get_or_append_left (map assert_line asserted) (check_line ∷ []) [] (n - 1 - length rows) (omega (arith, length-map asserted assert_line))
    ∙ get_or-map assert_line asserted (n - 1 - length rows) 0 [] k

pub line_check : (rows : List Row) (asserted : List ℕ) (n : ℕ) → n ≡ length rows + length asserted + 1 → line_of rows asserted n ≡ check_line
unfolding lines_of
line_check rows asserted n h =
    let e : n ≡ suc (length rows + length asserted) = omega arith in
    let k : length rows + length asserted - length rows - length asserted ≡ 0 = omega arith in
    ap (line_of rows asserted) e
    ∙ get_or-append_right (row_lines rows) (map assert_line asserted ++ (check_line ∷ [])) (length rows) (length rows + length asserted) [] (length-map-range_with_len (row_line rows) 0 (length rows)) (omega arith)
    ∙ get_or-append_right (map assert_line asserted) (check_line ∷ []) (length asserted) (length rows + length asserted - length rows) [] (length-map asserted assert_line) (omega arith)
    ∙ ap (λ (m : ℕ). get_or (check_line ∷ []) m []) k

pub lines_count : (rows : List Row) (asserted : List ℕ) → length (lines_of rows asserted) ≡ line_count rows asserted
unfolding lines_of
lines_count rows asserted =
    omega (arith, length-append (row_lines rows) (map assert_line asserted ++ (check_line ∷ [])), length-append (map assert_line asserted) (check_line ∷ []), length-map asserted assert_line, length-map-range_with_len (row_line rows) 0 (length rows))

-- the row that assertion j names
pub named_get : (assertions : List Assertion) (d : Assertion) (j : ℕ) → j < length assertions → get_or (named_by assertions) j 0 ≡ (get_or assertions j d).row
named_get assertions d j h = get_or-map (λ (a : Assertion). a.row) assertions j d 0 h

pub named_count : (assertions : List Assertion) → length (named_by assertions) ≡ length assertions
named_count assertions = length-map assertions (λ (a : Assertion). a.row)

pub ruleset places = (line_logic, line_row, line_assert, line_check, named_get, named_count, kept_whole, nat_tests)
