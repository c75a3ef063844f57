-- The text line by line.
use Rattle.std.proofs.Common.{◌≡◌, ℕ, zero, suc, ◌+◌, ◌<◌, ◌≤◌, List, [], ◌∷◌, ◌++◌, length, take, sym, ap, ◌∙◌, append_assoc, append-nil, arith, length-append}
use Rattle.std.proofs.lemmas.List.{take_more, take_all}
use Rattle.std.proofs.lemmas.List.Folds.{concat-append}
use Rattle.std.proofs.lemmas.Bool.Decides.{nat_tests}
use Rattle.std.specs.List.{concat}
use Rattle.target.specs.declared.row.Row.{Row}
use Rattle.text.specs.Lines.{lines_of, line_of, line_count}
use Rattle.text.specs.Law.{text_of}
use Rattle.text.proofs.Places.{lines_count, named_count}

-- the first lines and one more
pub lines_more : (rows : List Row) (rs : List ℕ) (n : ℕ) → n < line_count rows rs → concat (take (n + 1) (lines_of rows rs)) ≡ concat (take n (lines_of rows rs)) ++ line_of rows rs n
lines_more rows rs n h =
    ap concat (take_more (lines_of rows rs) n [] (omega (arith, lines_count rows rs))) ∙ concat-append (take n (lines_of rows rs)) (line_of rows rs n ∷ [])
    ∙ ap (λ (t : List ℕ). concat (take n (lines_of rows rs)) ++ t) (append-nil (line_of rows rs n))

pub text_all : (rows : List Row) (rs : List ℕ) (n : ℕ) → line_count rows rs ≤ n → concat (take n (lines_of rows rs)) ≡ text_of rows rs
text_all rows rs n h = ap concat (take_all n (lines_of rows rs) (omega (arith, lines_count rows rs)))

concat_take_le : (n : ℕ) (ls : List (List ℕ)) → length (concat (take n ls)) ≤ length (concat ls)
concat_take_le zero ls = omega arith
concat_take_le (suc n) [] = omega arith
concat_take_le (suc n) (l ∷ ls) = simp length-append (omega (arith, concat_take_le n ls))

-- the first lines and one more are no longer than the text
pub text_holds : (rows : List Row) (rs : List ℕ) (n : ℕ) → n < line_count rows rs → length (concat (take n (lines_of rows rs))) + length (line_of rows rs n) ≤ length (text_of rows rs)
text_holds rows rs n h =
    omega (arith, concat_take_le (n + 1) (lines_of rows rs), ap length (lines_more rows rs n h), length-append (concat (take n (lines_of rows rs))) (line_of rows rs n))

pub ruleset wholes = (lines_more, text_all, text_holds, append_assoc, named_count, nat_tests, length-append)
