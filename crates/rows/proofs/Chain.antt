-- The chain of choices of a shift: the operand moved by the amount that is chosen.
use Rattle.std.proofs.Common.{◌≡◌, ℕ, zero, suc, ◌+◌, ◌<◌, ◌≤◌, cond, eqb, ltb, List, [], ◌∷◌, ◌++◌, length, ℤ, pos, sym, refl, ap, ◌∙◌, arith, lit<, length-append}
use Rattle.std.proofs.lemmas.Bool.{cond-false, le-ltb}
use Rattle.std.proofs.lemmas.Bool.Decides.{nat_tests}
use Rattle.target.specs.declared.row.Sort.TheVariants as sort
use Rattle.target.specs.declared.row.Row.{Row}
use Rattle.target.specs.declared.row.Row.TheVariants.{Number, Equal, Choose}
use Rattle.target.specs.Values.{Val, int, bool, Reading, value_at}
use Rattle.target.specs.Meaning.{row_value}
use Rattle.target.proofs.Blocks.{Each, Obeys, each_front, each_back}
use Rattle.rows.specs.Rows.{last_or, amount_rows, shift_rows}
use Rattle.rows.proofs.Conds.{cond_of}
use Rattle.rows.proofs.Ends.{Ends, last_is}
use Rattle.rows.proofs.Shifting.{length_amount}

-- the last choice
abbrev pub choice : (ℕ → ℕ → List Row) → ℕ → ℕ → ℕ → ℕ
choice moved zero former at = former
choice moved (suc i) former at = choice moved i (at + (2 + length (moved i (at + 2)))) (at + (3 + length (moved i (at + 2))))

choice_last : (moved : ℕ → ℕ → List Row) (b i former at : ℕ) → 1 ≤ i → choice moved i former at + 1 ≡ at + length (shift_rows moved b i former at)
choice_last moved b zero former at h = absurd (omega arith)
choice_last moved b (suc zero) former at h = omega (arith, length-append (amount_rows moved b 0 former at) [], length_amount moved b 0 former at)
choice_last moved b (suc (suc i)) former at h =
    let n : ℕ = length (moved (suc i) (at + 2)) in
    let rest : List Row = shift_rows moved b (suc i) (at + (2 + n)) (at + (3 + n)) in
    omega (arith, choice_last moved b (suc i) (at + (2 + n)) (at + (3 + n)) (omega arith), length-append (amount_rows moved b (suc i) former at) rest, length_amount moved b (suc i) former at)

-- it is the last row
pub last_choice : (moved : ℕ → ℕ → List Row) (b k other at : ℕ) (pre : List Row) → 1 ≤ k → 1 ≤ length pre →
    last_or other at (pre ++ shift_rows moved b k at (at + length pre)) ≡ choice moved k at (at + length pre)
last_choice moved b k other at pre hk hp =
    let new : List Row = shift_rows moved b k at (at + length pre) in
    let all : length (pre ++ new) ≡ length pre + length new = length-append pre new in
    omega (arith, last_is other at (pre ++ new) (omega arith), choice_last moved b k at (at + length pre) hk)

-- of the values that b could have, one amount more
chosen : (n i f : ℕ) (g : ℕ → ℕ) → cond (ltb n i) (g n) (cond (eqb n i) (g i) f) ≡ cond (ltb n (suc i)) (g n) f
chosen n i f g = grind (arith, nat_tests)

-- the rows `moved i` end in the operand moved by i places, which is g i
module _ (reading : Reading) (numbers : ℕ → ℤ) (vs : List Val) (moved : ℕ → ℕ → List Row) (g : ℕ → ℕ) (k b y : ℕ)
    (eb : value_at vs b ≡ int (pos y)) (some : (i at : ℕ) → 1 ≤ length (moved i at))
    (moves : (i at : ℕ) → i < k → Ends reading numbers vs at at (moved i at) (int (pos (g i)))) where
  abbrev O : ℕ → Row → Type 0
  O = Obeys reading numbers vs

  choice_value : (i former at f : ℕ) → i ≤ k → value_at vs former ≡ int (pos f) → Each O at (shift_rows moved b i former at) →
      value_at vs (choice moved i former at) ≡ int (pos (cond (ltb y i) (g y) f))
  unfolding row_value
  choice_value zero former at f le ef h = ef ∙ ap (λ t. int (pos t)) (sym (cond-false (ltb y 0) (g y) f (le-ltb y 0 (omega arith))))
  choice_value (suc i) former at f le ef h =
      let m : List Row = moved i (at + 2) in
      let n : ℕ = length m in
      let rest : List Row = shift_rows moved b i (at + (2 + n)) (at + (3 + n)) in
      let pick : List Row = Choose sort.Int (at + 1) (at + (1 + n)) former ∷ [] in
      let here : Each O at (amount_rows moved b i former at) = each_front O at (amount_rows moved b i former at) rest h in
      let next : Each O (at + (3 + n)) rest = each_back O at (at + (3 + n)) (amount_rows moved b i former at) rest (omega (arith, length_amount moved b i former at)) h in
      let v0 : value_at vs at ≡ int (pos i) = here 0 (omega arith) in
      let v1 : value_at vs (at + 1) ≡ bool (eqb y i) = here 1 (omega arith) ∙ rw (eb, v0) in
      let h2 : Each O (at + 2) (m ++ pick) = each_back O at (at + 2) (Number i ∷ Equal b at ∷ []) (m ++ pick) refl here in
      let h3 : Each O (at + (2 + n)) pick = each_back O (at + 2) (at + (2 + n)) m pick (omega arith) h2 in
      let e : at + (1 + n) ≡ last_or (at + 2) (at + 2) m = omega (arith, last_is (at + 2) (at + 2) m (some i (at + 2))) in
      let v2 : value_at vs (at + (1 + n)) ≡ int (pos (g i)) = ap (value_at vs) e ∙ moves i (at + 2) (omega arith) (each_front O (at + 2) m pick h2) in
      let v3 : value_at vs (at + (2 + n)) ≡ int (pos (cond (eqb y i) (g i) f)) = h3 0 (lit< tt) ∙ rw (v1, v2, ef) (cond_of (λ n. int (pos n)) (eqb y i) (g i) f) in
      choice_value i (at + (2 + n)) (at + (3 + n)) (cond (eqb y i) (g i) f) (omega arith) v3 next ∙ ap (λ t. int (pos t)) (chosen y i f g)

  pub shift_ends : (other at : ℕ) (pre : List Row) → 1 ≤ length pre → 1 ≤ k → value_at vs at ≡ int (pos 0) →
      Ends reading numbers vs other at (pre ++ shift_rows moved b k at (at + length pre)) (int (pos (cond (ltb y k) (g y) 0)))
  shift_ends other at pre hp hk e0 h =
      let new : List Row = shift_rows moved b k at (at + length pre) in
      ap (value_at vs) (last_choice moved b k other at pre hk hp)
      ∙ choice_value k at (at + length pre) 0 (omega arith) e0 (each_back O at (at + length pre) pre new refl h)
