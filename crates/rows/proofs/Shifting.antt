-- How the rows of a shift are laid: what laying the rest of them would leave stays the same from turn to turn.
use Rattle.std.proofs.Common.{◌≡◌, ℕ, suc, ◌+◌, ◌-◌, ◌≤◌, List, [], ◌∷◌, ◌++◌, length, sym, refl, ap, ◌∙◌, arith, length-append}
use Rattle.target.specs.declared.row.Sort as sort
use Rattle.target.specs.declared.row.Row.{Row}
use Rattle.target.specs.declared.row.Row.TheVariants.{Number, Equal, Choose}
use Rattle.target.specs.Tables.{laid}
use Rattle.target.proofs.Laying.{laid_laid, laid_none, laid_three}
use Rattle.rows.specs.Rows.{amount_rows, shift_rows}

pub length_amount : (moved : ℕ → ℕ → List Row) (b i former at : ℕ) → length (amount_rows moved b i former at) ≡ 3 + length (moved i (at + 2))
length_amount moved b i former at =
    omega (arith, length-append (moved i (at + 2)) (Choose sort.TheVariants.Int (at + 1) (at + (1 + length (moved i (at + 2)))) former ∷ []))

-- the rows of one amount, laid in three parts
module _ (moved : ℕ → ℕ → List Row) (b i former at next : ℕ) (rows one two three : List Row)
    (first : one ≡ laid rows at (Number i ∷ Equal b at ∷ [])) (then : two ≡ laid one (at + 2) (moved i (at + 2))) (is : next ≡ at + 2 + length (moved i (at + 2)))
    (last : three ≡ laid two next (Choose sort.TheVariants.Int (at + 1) (next - 1) former ∷ []))
    (room : at + length (amount_rows moved b i former at) ≤ length rows) where
  pub amount_laid : three ≡ laid rows at (amount_rows moved b i former at)
  amount_laid =
      let n : ℕ = length (moved i (at + 2)) in
      let pick : List Row = Choose sort.TheVariants.Int (at + 1) (at + (1 + n)) former ∷ [] in
      let before : next - 1 ≡ at + (1 + n) = omega arith in
      laid_three rows one two three at (at + 2) next (Number i ∷ Equal b at ∷ []) (moved i (at + 2)) pick first then
      (last ∙ ap (λ (m : ℕ). laid two next (Choose sort.TheVariants.Int (at + 1) m former ∷ [])) before)
      refl (omega arith) (omega (arith, length_amount moved b i former at))

-- what the rest of a shift would leave, and where it would end
pub record Rest (moved : ℕ → ℕ → List Row) (b : ℕ) (whole : List Row) (end : ℕ) (rows : List Row) (i former at : ℕ) : Type 0 where
  pub leaves : laid rows at (shift_rows moved b i former at) ≡ whole
  pub reaches : at + length (shift_rows moved b i former at) ≡ end

module _ (moved : ℕ → ℕ → List Row) (b : ℕ) (whole : List Row) (end : ℕ) (rows : List Row) (i j former at : ℕ) (is : i ≡ suc j)
    (r : Rest moved b whole end rows i former at) (room : end ≤ length rows) where
  here : Rest moved b whole end rows (suc j) former at
  here = rw is at r

  abbrev n : ℕ
  n = length (moved j (at + 2))

  abbrev xs : List Row
  xs = amount_rows moved b j former at

  abbrev ys : List Row
  ys = shift_rows moved b j (at + (2 + n)) (at + (3 + n))

  pub rest_room : at + length (amount_rows moved b j former at) ≤ length rows
  rest_room = omega (arith, here.reaches, length-append xs ys)

  pub rest_more : (after : List Row) (next : ℕ) → after ≡ laid rows at (amount_rows moved b j former at) → next ≡ at + length (amount_rows moved b j former at) →
      Rest moved b whole end after j (next - 1) next
  rest_more after next ea en =
      let len : length xs ≡ 3 + n = length_amount moved b j former at in
      let e1 : next ≡ at + (3 + n) = omega arith in
      let e2 : next - 1 ≡ at + (2 + n) = omega arith in
      let same : shift_rows moved b j (next - 1) next ≡ ys = rw (e2, e1) in
      let all : length (xs ++ ys) ≡ length xs + length ys = length-append xs ys in
      record {
        leaves =
            ap (λ t. laid after next t) same ∙ ap (λ (t : List Row). laid t next ys) ea ∙ ap (λ m. laid (laid rows at xs) m ys) en
            ∙ laid_laid rows at xs ys (omega (arith, here.reaches)) ∙ here.leaves;
        reaches = ap (λ t. next + length t) same ∙ omega (arith, here.reaches);
      }

-- nothing is left to lay
pub rest_none : (moved : ℕ → ℕ → List Row) (b : ℕ) (whole : List Row) (end : ℕ) (rows : List Row) (i former at : ℕ) → i ≡ 0 → Rest moved b whole end rows i former at →
    (rows ≡ whole) × (at ≡ end)
rest_none moved b whole end rows i former at is r =
    let s : Rest moved b whole end rows 0 former at = rw is at r in
    (sym (laid_none rows at) ∙ s.leaves, omega (arith, s.reaches))
