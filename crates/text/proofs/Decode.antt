-- A row from its line.
use Rattle.std.proofs.Common.{◌≡◌, ℕ, Bool, true, false, cond, eqb, List, [], ◌∷◌, ◌++◌, get_or, drop, codes, refl, ap, ◌∙◌, append_assoc}
use Rattle.std.specs.Cmp.Lexicographic.{pointwise}
use Rattle.target.specs.declared.row.Row.{Row}
use Rattle.target.specs.declared.row.Row.TheVariants.{Unknown, Number, Truth, Add, Sub, Times, Quot, Rem, Equal, Less, AtMost, Not, And, Or, Choose}
use Rattle.target.specs.declared.row.Sort as sort
use Rattle.target.specs.declared.row.Sort.{Sort}
use Rattle.target.specs.Sorts.{sort_of}
use Rattle.text.specs.Numeral.{numeral}
use Rattle.text.specs.Lines.{truth_text, operands_text, call_text, body_of, defined_line, line_for, assert_line, sort_text}
use Rattle.text.proofs.Scan.{marks, numbers, ends, marks_numeral, ends_numeral, numbers_space, numbers_paren}

pub data Item : Type 0 where
  row : Row → Item
  asserted : ℕ → Item
  other : Item

abbrev same : List ℕ → List ℕ → Bool
same = pointwise eqb

-- what stands after the sort
abbrev tail : List ℕ → List ℕ
tail m = cond (eqb (get_or m 17 0) 73) (drop 21 m) (drop 22 m)

-- the sort
abbrev sort_in : List ℕ → Sort
sort_in m = cond (eqb (get_or m 17 0) 73) sort.TheVariants.Int sort.TheVariants.Bool

abbrev build : List ℕ → List ℕ → List ℕ → Item
build m w ns =
    let x : ℕ = get_or ns 0 0 in let a : ℕ = get_or ns 1 0 in let b : ℕ = get_or ns 2 0 in let c : ℕ = get_or ns 3 0 in
    cond (same w (codes "\n")) (row Unknown)
    (cond (same w (codes ")\n")) (row (Number a))
    (cond (same w (codes "true)\n")) (row (Truth true))
    (cond (same w (codes "false)\n")) (row (Truth false))
    (cond (same w (codes "(+ t t))\n")) (row (Add a b))
    (cond (same w (codes "(- t t))\n")) (row (Sub a b))
    (cond (same w (codes "(* t t))\n")) (row (Times a b))
    (cond (same w (codes "(div t t))\n")) (row (Quot a b))
    (cond (same w (codes "(mod t t))\n")) (row (Rem a b))
    (cond (same w (codes "(= t t))\n")) (row (Equal a b))
    (cond (same w (codes "(< t t))\n")) (row (Less a b))
    (cond (same w (codes "(<= t t))\n")) (row (AtMost a b))
    (cond (same w (codes "(and t t))\n")) (row (And a b))
    (cond (same w (codes "(or t t))\n")) (row (Or a b))
    (cond (same w (codes "(not t))\n")) (row (Not a))
    (cond (same w (codes "(ite t t t))\n")) (row (Choose (sort_in m) a b c))
    (cond (eqb (get_or m 1 0) 97) (asserted x) other))))))))))))))))

unfoldable pub decode : List ℕ → Item
decode line = build (marks line) (tail (marks line)) (numbers false 0 line)

-- operands without their numbers
abbrev slots : List ℕ → List ℕ
slots [] = codes ")"
slots (r ∷ rs) = codes " t" ++ slots rs

marks_operands : (rows rest : List ℕ) → marks (operands_text rows ++ rest) ≡ slots rows ++ marks rest
marks_operands [] rest = refl
marks_operands (r ∷ rs) rest = simp (append_assoc, marks_numeral, marks_operands rs rest)

ends_operands : (rows rest : List ℕ) → ends (operands_text rows ++ rest) ≡ ends rest
ends_operands [] rest = refl
ends_operands (r ∷ rs) rest = simp (append_assoc, ends_numeral, ends_operands rs rest)

numbers_operands : (rows rest : List ℕ) → numbers false 0 (operands_text rows ++ rest) ≡ rows ++ numbers false 0 rest
numbers_operands [] rest = refl
numbers_operands (r ∷ []) rest = simp (append_assoc, numbers_paren)
numbers_operands (r ∷ next ∷ rs) rest =
    ap (numbers false 0) (append_assoc (numeral r) (operands_text (next ∷ rs)) rest) ∙ numbers_space r _ ∙ ap (λ (t : List ℕ). r ∷ t) (numbers_operands (next ∷ rs) rest)

-- what is read in a body: what is no digit, and its numbers; it breaks no line
record Reads (body bare found : List ℕ) : Type 0 where
  marked : (rest : List ℕ) → marks (body ++ rest) ≡ bare ++ marks rest
  numbered : (rest : List ℕ) → numbers false 0 (body ++ (41 ∷ rest)) ≡ found ++ numbers false 0 rest
  unbroken : (rest : List ℕ) → ends (body ++ rest) ≡ ends rest

number : (n : ℕ) → Reads (numeral n) [] (n ∷ [])
number n = record { marked = marks_numeral n; numbered = numbers_paren n; unbroken = ends_numeral n }

truth : (b : Bool) → Reads (truth_text b) (truth_text b) []
truth true = record { marked = λ _. refl; numbered = λ _. refl; unbroken = λ _. refl }
truth false = record { marked = λ _. refl; numbered = λ _. refl; unbroken = λ _. refl }

-- an operation: its word has no digit and breaks no line
call : (op rows : List ℕ) → ((rest : List ℕ) → marks (op ++ rest) ≡ op ++ marks rest) → ((rest : List ℕ) → numbers false 0 (op ++ rest) ≡ numbers false 0 rest)
    → ((rest : List ℕ) → ends (op ++ rest) ≡ ends rest) → Reads (call_text op rows) (codes "(" ++ (op ++ slots rows)) rows
call op rows m n e = record {
  marked = λ rest. simp (append_assoc, m, marks_operands);
  numbered = λ rest. simp (append_assoc, n, numbers_operands);
  unbroken = λ rest. simp (append_assoc, e, ends_operands);
}

marks_sort : (s : Sort) (rest : List ℕ) → marks (sort_text s ++ rest) ≡ sort_text s ++ marks rest
marks_sort sort.TheVariants.Int rest = refl
marks_sort sort.TheVariants.Bool rest = refl

ends_sort : (s : Sort) (rest : List ℕ) → ends (sort_text s ++ rest) ≡ ends rest
ends_sort sort.TheVariants.Int rest = refl
ends_sort sort.TheVariants.Bool rest = refl

numbers_sort : (i : ℕ) (s : Sort) (rest : List ℕ) → numbers false 0 (numeral i ++ (sort_text s ++ rest)) ≡ i ∷ numbers false 0 rest
numbers_sort i sort.TheVariants.Int rest = numbers_space i _
numbers_sort i sort.TheVariants.Bool rest = numbers_space i _

-- a row's line gives the row back, and has one line break, at its end
pub record Read (i : ℕ) (r : Row) : Type 0 where
  pub back : decode (line_for i r) ≡ row r
  pub ended : ends (line_for i r) ≡ true

abbrev defined_marks : Sort → List ℕ → List ℕ
defined_marks s bare = codes "(define-fun t" ++ (sort_text s ++ (bare ++ codes ")\n"))

defined : (i : ℕ) (r : Row) {bare found : List ℕ} → Reads (body_of r) bare found → line_for i r ≡ defined_line i r
    → build (defined_marks (sort_of r) bare) (tail (defined_marks (sort_of r) bare)) (i ∷ (found ++ [])) ≡ row r → Read i r
unfolding decode
defined i r {bare} {found} reads is e =
    let m : marks (defined_line i r) ≡ defined_marks (sort_of r) bare = simp (marks_numeral, marks_sort, reads.marked) in
    let n : numbers false 0 (defined_line i r) ≡ i ∷ (found ++ []) = simp (numbers_sort, reads.numbered) in
    record {
      back = ap decode is ∙ ap (λ (t : List ℕ). build t (tail t) (numbers false 0 (defined_line i r))) m
          ∙ ap (build (defined_marks (sort_of r) bare) (tail (defined_marks (sort_of r) bare))) n ∙ e;
      ended = ap ends is ∙ simp (ends_numeral, ends_sort, reads.unbroken);
    }

pub read : (i : ℕ) (r : Row) → Read i r
unfolding decode
read i Unknown = record { back = simp (marks_numeral, numbers_space); ended = simp ends_numeral }
read i (Number n) = defined i (Number n) (number n) refl refl
read i (Truth true) = defined i (Truth true) (truth true) refl refl
read i (Truth false) = defined i (Truth false) (truth false) refl refl
read i (Add a b) = defined i (Add a b) (call (codes "+") (a ∷ b ∷ []) (λ _. refl) (λ _. refl) (λ _. refl)) refl refl
read i (Sub a b) = defined i (Sub a b) (call (codes "-") (a ∷ b ∷ []) (λ _. refl) (λ _. refl) (λ _. refl)) refl refl
read i (Times a b) = defined i (Times a b) (call (codes "*") (a ∷ b ∷ []) (λ _. refl) (λ _. refl) (λ _. refl)) refl refl
read i (Quot a b) = defined i (Quot a b) (call (codes "div") (a ∷ b ∷ []) (λ _. refl) (λ _. refl) (λ _. refl)) refl refl
read i (Rem a b) = defined i (Rem a b) (call (codes "mod") (a ∷ b ∷ []) (λ _. refl) (λ _. refl) (λ _. refl)) refl refl
read i (Equal a b) = defined i (Equal a b) (call (codes "=") (a ∷ b ∷ []) (λ _. refl) (λ _. refl) (λ _. refl)) refl refl
read i (Less a b) = defined i (Less a b) (call (codes "<") (a ∷ b ∷ []) (λ _. refl) (λ _. refl) (λ _. refl)) refl refl
read i (AtMost a b) = defined i (AtMost a b) (call (codes "<=") (a ∷ b ∷ []) (λ _. refl) (λ _. refl) (λ _. refl)) refl refl
read i (And a b) = defined i (And a b) (call (codes "and") (a ∷ b ∷ []) (λ _. refl) (λ _. refl) (λ _. refl)) refl refl
read i (Or a b) = defined i (Or a b) (call (codes "or") (a ∷ b ∷ []) (λ _. refl) (λ _. refl) (λ _. refl)) refl refl
read i (Not a) = defined i (Not a) (call (codes "not") (a ∷ []) (λ _. refl) (λ _. refl) (λ _. refl)) refl refl
read i (Choose sort.TheVariants.Int a b c) = defined i (Choose sort.TheVariants.Int a b c) (call (codes "ite") (a ∷ b ∷ c ∷ []) (λ _. refl) (λ _. refl) (λ _. refl)) refl refl
read i (Choose sort.TheVariants.Bool a b c) = defined i (Choose sort.TheVariants.Bool a b c) (call (codes "ite") (a ∷ b ∷ c ∷ []) (λ _. refl) (λ _. refl) (λ _. refl)) refl refl

pub decode_assert : (r : ℕ) → decode (assert_line r) ≡ asserted r
unfolding decode
decode_assert r = simp (marks_numeral, numbers_paren)

pub ends_assert : (r : ℕ) → ends (assert_line r) ≡ true
ends_assert r = simp ends_numeral
