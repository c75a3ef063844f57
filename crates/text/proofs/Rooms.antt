-- How long a line is.
use Rattle.std.proofs.Common.{◌≡◌, ℕ, ◌-◌, ◌<◌, ◌≤◌, Bool, true, false, cond, List, [], ◌∷◌, length, get_or, codes, ap, inl, inr, arith, lit≤}
use Rattle.std.proofs.lemmas.List.{length-append}
use Rattle.std.proofs.lemmas.Bool.{cases_lt, cases_eq}
use Rattle.target.specs.declared.row.Row.{Row}
use Rattle.target.specs.declared.row.Row.TheVariants.{Unknown, Number, Truth, Add, Sub, Times, Quot, Rem, Equal, Less, AtMost, Not, And, Or, Choose}
use Rattle.target.specs.declared.row.Sort as sort
use Rattle.target.specs.declared.row.Sort.{Sort}
use Rattle.target.specs.Sorts.{sort_of}
use Rattle.text.specs.Numeral.{numeral}
use Rattle.text.specs.Lines.{line_of, line_for, unknown, body_of, defined_line, declared_line, assert_line, call_text, sort_text}
use Rattle.text.specs.Room.{Small, Room}
use Rattle.text.proofs.Numerals.{numeral_within, numeral_short}
use Rattle.text.proofs.Places.{line_logic, line_row, line_assert, line_check}

five : (n : ℕ) → n < 32768 → length (numeral n) ≤ 5
five n h = numeral_within 5 n (omega arith) (omega arith) (omega arith)

pair_long : (op : List ℕ) (a b : ℕ) → length op ≤ 3 → a < 32768 → b < 32768 → length (call_text op (a ∷ b ∷ [])) ≤ 26
pair_long op a b o h k = simp length-append (omega (arith, five a h, five b k))

body_long : (r : Row) → Small r → length (body_of r) ≤ 26
body_long Unknown h = lit≤ tt
body_long (Number n) h = omega (arith, numeral_short n h)
body_long (Truth true) h = lit≤ tt
body_long (Truth false) h = lit≤ tt
body_long (Add a b) h = pair_long (codes "+") a b (lit≤ tt) h.0 h.1
body_long (Sub a b) h = pair_long (codes "-") a b (lit≤ tt) h.0 h.1
body_long (Times a b) h = pair_long (codes "*") a b (lit≤ tt) h.0 h.1
body_long (Quot a b) h = pair_long (codes "div") a b (lit≤ tt) h.0 h.1
body_long (Rem a b) h = pair_long (codes "mod") a b (lit≤ tt) h.0 h.1
body_long (Equal a b) h = pair_long (codes "=") a b (lit≤ tt) h.0 h.1
body_long (Less a b) h = pair_long (codes "<") a b (lit≤ tt) h.0 h.1
body_long (AtMost a b) h = pair_long (codes "<=") a b (lit≤ tt) h.0 h.1
body_long (And a b) h = pair_long (codes "and") a b (lit≤ tt) h.0 h.1
body_long (Or a b) h = pair_long (codes "or") a b (lit≤ tt) h.0 h.1
body_long (Not a) h = simp length-append (omega (arith, five a h))
body_long (Choose t a b c) h = simp length-append (omega (arith, five a h.0, five b h.1, five c h.2))

sort_long : (s : Sort) → length (sort_text s) ≤ 9
sort_long sort.TheVariants.Int = lit≤ tt
sort_long sort.TheVariants.Bool = lit≤ tt

either_long : (b : Bool) (i : ℕ) (r : Row) → i < 32768 → Small r → length (cond b (declared_line i) (defined_line i r)) ≤ 64
either_long true i r h k = simp length-append (omega (arith, five i h))
either_long false i r h k = simp length-append (omega (arith, five i h, sort_long (sort_of r), body_long r k))

line_long : (i : ℕ) (r : Row) → i < 32768 → Small r → length (line_for i r) ≤ 64
line_long i r h k = either_long (unknown r) i r h k

assert_long : (r : ℕ) → r < 32768 → length (assert_line r) ≤ 64
assert_long r h = simp length-append (omega (arith, five r h))

pub room : Room
room rows rs n h len limited =
    elim (cases_eq n 0) [
      | inl e ↦ let g : length (line_of rows rs n) ≡ 19 = ap length (line_logic rows rs n e) in omega arith
      | inr p ↦ elim (cases_lt (n - 1) (length rows)) [
        | inl q ↦ let g : length (line_of rows rs n) ≡ length (line_for (n - 1) (get_or rows (n - 1) Unknown)) = ap length (line_row rows rs n (omega arith) q) in
            omega (arith, line_long (n - 1) (get_or rows (n - 1) Unknown) (omega arith) (limited.0 (n - 1) q))
        | inr q ↦ elim (cases_lt (n - 1 - length rows) (length rs)) [
          | inl t ↦ let g : length (line_of rows rs n) ≡ length (assert_line (get_or rs (n - 1 - length rows) 0)) = ap length (line_assert rows rs n (omega arith) q t) in
              omega (arith, assert_long (get_or rs (n - 1 - length rows) 0) (limited.1 (n - 1 - length rows) t))
          | inr t ↦ let g : length (line_of rows rs n) ≡ 12 = ap length (line_check rows rs n (omega arith)) in omega arith
        ]
      ]
    ]
