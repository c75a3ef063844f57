-- Blocks: rows that stand one after another in a table.
use Rattle.std.proofs.Common.{◌≡◌, ℕ, zero, suc, ◌+◌, ◌-◌, ◌<◌, ◌≤◌, List, [], ◌∷◌, ◌++◌, length, get_or, take, ℤ, sym, refl, ap, ◌∙◌, subst, ⊎_elim, add-zero, arith, length-append}
use Rattle.std.proofs.lemmas.List.{get_or_append_left, get_or-append-add, get_or-append_right}
use Rattle.std.proofs.lemmas.Bool.{cases_lt}
use Rattle.target.specs.declared.row.Sort.{Sort}
use Rattle.target.specs.declared.row.Row.{Row}
use Rattle.target.specs.declared.row.Row.TheVariants.{Unknown}
use Rattle.target.specs.Sorts.{sort_of}
use Rattle.target.specs.Values.{Val, Reading, value_at}
use Rattle.target.specs.Meaning.{row_value, unknown, unknowns, values}
use Rattle.target.specs.Soundness.{RowSound, sort_at, Sound}
use Rattle.target.proofs.RowLaw.{row_law, any_ordinal}
use Rattle.target.proofs.Sounds.{sorts_local}

-- the index j places after `at`, which at 0 is `at` itself
abbrev pub place : ℕ → ℕ → ℕ
place at zero = at
place at (suc j) = at + suc j

pub place_is : (at j : ℕ) → place at j ≡ at + j
place_is at zero = sym (add-zero at)
place_is at (suc j) = refl

-- P holds of each of the rows `new`, which stand from `at` on
abbrev pub Each : (ℕ → Row → Type 0) → ℕ → List Row → Type 0
Each P at new = (j : ℕ) → j < length new → P (place at j) (get_or new j Unknown)

-- the same, one row after another: the form in which it is shown of rows that are written out
abbrev pub All : (ℕ → Row → Type 0) → ℕ → List Row → Type 0
All P at [] = Unit {0}
All P at (row ∷ rows) = P at row × All P (at + 1) rows

module _ (P : ℕ → Row → Type 0) where
  pub all_each : (at : ℕ) (new : List Row) → All P at new → Each P at new
  all_each at [] h j lt = absurd (omega arith)
  all_each at (row ∷ rows) h zero lt = h.0
  all_each at (row ∷ rows) h (suc j) lt =
      let e : place (at + 1) j ≡ at + suc j = omega (arith, place_is (at + 1) j) in
      subst (λ i. P i (get_or rows j Unknown)) e (all_each (at + 1) rows h.1 j (omega arith))

  pub each_front : (at : ℕ) (xs ys : List Row) → Each P at (xs ++ ys) → Each P at xs
  each_front at xs ys h j lt =
      subst (λ row. P (place at j) row) (get_or_append_left xs ys Unknown j lt) (h j (omega (arith, length-append xs ys)))

  pub each_back : (at n : ℕ) (xs ys : List Row) → at + length xs ≡ n → Each P at (xs ++ ys) → Each P n ys
  each_back at n xs ys e h j lt =
      let p : place at (length xs + j) ≡ place n j = omega (arith, place_is n j, place_is at (length xs + j)) in
      let here : P (place at (length xs + j)) (get_or ys j Unknown) =
      subst (λ row. P (place at (length xs + j)) row) (get_or-append-add xs ys j Unknown) (h (length xs + j) (omega (arith, length-append xs ys))) in
      subst (λ i. P i (get_or ys j Unknown)) p here

  pub each_join : (at n : ℕ) (xs ys : List Row) → at + length xs ≡ n → Each P at xs → Each P n ys → Each P at (xs ++ ys)
  each_join at n xs ys e f g j lt =
      ⊎_elim
      (λ (low : j < length xs). subst (λ row. P (place at j) row) (sym (get_or_append_left xs ys Unknown j low)) (f j low))
      (λ (high : length xs ≤ j).
      let p : place n (j - length xs) ≡ place at j = omega (arith, place_is n (j - length xs), place_is at j) in
      let back : P (place n (j - length xs)) (get_or (xs ++ ys) j Unknown) =
      subst (λ row. P (place n (j - length xs)) row) (sym (get_or-append_right xs ys (length xs) j Unknown refl high)) (g (j - length xs) (omega (arith, length-append xs ys))) in
      subst (λ i. P i (get_or (xs ++ ys) j Unknown)) p back)
      (cases_lt j (length xs))

-- the row stands at the index i of a table; it is of the sort that s gives to i; its operands are sound
abbrev pub Stands : List Row → ℕ → Row → Type 0
Stands rows i row = get_or rows i Unknown ≡ row

abbrev pub HasSort : (ℕ → Sort) → ℕ → Row → Type 0
HasSort s i row = s i ≡ sort_of row

-- the value at the index i is that of the row, which is no unknown, on the values `vs`
abbrev pub Obeys : Reading → (ℕ → ℤ) → List Val → ℕ → Row → Type 0
Obeys reading numbers vs i row = value_at vs i ≡ row_value reading numbers vs 0 row

-- rows with no unknown among them
pub unknown_none : (new : List Row) → unknowns new ≡ 0 → (j : ℕ) → j < length new → unknown (get_or new j Unknown) ≡ 0
unknown_none [] e j lt = absurd (omega arith)
unknown_none (row ∷ rows) e zero lt = omega arith
unknown_none (row ∷ rows) e (suc j) lt = unknown_none rows (omega arith) j (omega arith)

pub unknowns-++ : (xs ys : List Row) → unknowns (xs ++ ys) ≡ unknowns xs + unknowns ys
unknowns-++ [] ys = omega arith
unknowns-++ (x ∷ xs) ys = omega (arith, unknowns-++ xs ys)

-- the rows that follow the first `at` rows stand from `at` on
pub stands_after : (front new : List Row) (at : ℕ) → length front ≡ at → Each (Stands (front ++ new)) at new
stands_after front new at e j lt =
    let p : place at j ≡ length front + j = omega (arith, place_is at j) in
    ap (λ i. get_or (front ++ new) i Unknown) p ∙ get_or-append-add front new j Unknown

-- sound rows after a sound table
pub sound_join : (front new : List Row) (at : ℕ) → length front ≡ at → Sound front → Each (RowSound (sort_at (front ++ new))) at new → Sound (front ++ new)
sound_join front new at e sound each i lt =
    let s : ℕ → Sort = sort_at (front ++ new) in
    ⊎_elim
    (λ (low : i < at).
    let same : (p : ℕ) → p < i → sort_at front p ≡ s p = λ p l. ap sort_of (sym (get_or_append_left front new Unknown p (omega arith))) in
    let there : get_or (front ++ new) i Unknown ≡ get_or front i Unknown = get_or_append_left front new Unknown i (omega arith) in
    subst (RowSound s i) (sym there) (sorts_local (sort_at front) s i same (get_or front i Unknown) (sound i (omega arith))))
    (λ (high : at ≤ i).
    let p : place at (i - at) ≡ i = omega (arith, place_is at (i - at)) in
    let there : get_or (front ++ new) i Unknown ≡ get_or new (i - at) Unknown = get_or-append_right front new at i Unknown e high in
    let here : RowSound s (place at (i - at)) (get_or new (i - at) Unknown) = each (i - at) (omega (arith, length-append front new)) in
    let moved : RowSound s i (get_or new (i - at) Unknown) = subst (λ n. RowSound s n (get_or new (i - at) Unknown)) p here in
    subst (RowSound s i) (sym there) moved)
    (cases_lt i at)

-- each row of a block whose operands are earlier has the value of its operation
pub block_obeys : (reading : Reading) (numbers : ℕ → ℤ) (s : ℕ → Sort) (rows : List Row) (at : ℕ) (new : List Row) → at + length new ≤ length rows → unknowns new ≡ 0 →
    Each (Stands rows) at new → Each (RowSound s) at new → Each (Obeys reading numbers (values reading numbers rows)) at new
block_obeys reading numbers s rows at new room known stands sound j lt =
    let row : Row = get_or new j Unknown in
    row_law reading numbers s rows (place at j) row (omega (arith, place_is at j)) (stands j lt) (sound j lt)
    ∙ any_ordinal reading numbers (values reading numbers rows) (unknowns (take (place at j) rows)) 0 row (unknown_none new known j lt)
