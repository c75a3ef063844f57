-- Each row of a table, by the values of the table itself.
use Rattle.std.proofs.Common.{◌≡◌, ℕ, ◌+◌, ◌<◌, false, List, [], ◌∷◌, ◌++◌, length, get_or, take, ℤ, sym, refl, ap, ◌∙◌, arith}
use Rattle.std.proofs.lemmas.List.{get_or_push, take_more, take-take, length-take-le}
use Rattle.target.specs.declared.row.Sort.{Sort}
use Rattle.target.specs.declared.row.Row.{Row}
use Rattle.target.specs.declared.row.Row.TheVariants.{Unknown, Number, Truth, Add, Sub, Times, Quot, Rem, Equal, Less, AtMost, Not, And, Or, Choose}
use Rattle.target.specs.Values.{Val, bool, Reading, value_at}
use Rattle.target.specs.Meaning.{row_value, unknown, unknowns, later, values}
use Rattle.target.specs.Soundness.{RowSound}
use Rattle.target.proofs.Values.{values-++, length_values, value_same}

module _ (reading : Reading) (numbers : ℕ → ℤ) where
  -- a row reads only its operands
  pub row_local : (s : ℕ → Sort) (vs ws : List Val) (i n : ℕ) (row : Row) → ((j : ℕ) → j < i → value_at vs j ≡ value_at ws j) → RowSound s i row →
      row_value reading numbers vs n row ≡ row_value reading numbers ws n row
  unfolding row_value
  row_local s vs ws i n Unknown e h = refl
  row_local s vs ws i n (Number m) e h = refl
  row_local s vs ws i n (Truth b) e h = refl
  row_local s vs ws i n (Add p q) e h = rw (e p h.0.0, e q h.1.0)
  row_local s vs ws i n (Sub p q) e h = rw (e p h.0.0, e q h.1.0)
  row_local s vs ws i n (Times p q) e h = rw (e p h.0.0, e q h.1.0)
  row_local s vs ws i n (Quot p q) e h = rw (e p h.0.0, e q h.1.0)
  row_local s vs ws i n (Rem p q) e h = rw (e p h.0.0, e q h.1.0)
  row_local s vs ws i n (Equal p q) e h = rw (e p h.0, e q h.1.0)
  row_local s vs ws i n (Less p q) e h = rw (e p h.0.0, e q h.1.0)
  row_local s vs ws i n (AtMost p q) e h = rw (e p h.0.0, e q h.1.0)
  row_local s vs ws i n (Not p) e h = rw (e p h.0)
  row_local s vs ws i n (And p q) e h = rw (e p h.0.0, e q h.1.0)
  row_local s vs ws i n (Or p q) e h = rw (e p h.0.0, e q h.1.0)
  row_local s vs ws i n (Choose t p q r) e h = rw (e p h.0.0, e q h.1.0, e r h.2.0)

  -- a row that is no unknown has the same value at every ordinal
  pub any_ordinal : (vs : List Val) (n o : ℕ) (row : Row) → unknown row ≡ 0 → row_value reading numbers vs n row ≡ row_value reading numbers vs o row
  unfolding row_value
  any_ordinal vs n o Unknown e = absurd (omega (arith, e))
  any_ordinal vs n o (Number m) e = refl
  any_ordinal vs n o (Truth b) e = refl
  any_ordinal vs n o (Add p q) e = refl
  any_ordinal vs n o (Sub p q) e = refl
  any_ordinal vs n o (Times p q) e = refl
  any_ordinal vs n o (Quot p q) e = refl
  any_ordinal vs n o (Rem p q) e = refl
  any_ordinal vs n o (Equal p q) e = refl
  any_ordinal vs n o (Less p q) e = refl
  any_ordinal vs n o (AtMost p q) e = refl
  any_ordinal vs n o (Not p) e = refl
  any_ordinal vs n o (And p q) e = refl
  any_ordinal vs n o (Or p q) e = refl
  any_ordinal vs n o (Choose t p q r) e = refl

  -- a row's value, by the rows before it
  pub row_at : (rows : List Row) (i : ℕ) (row : Row) → i < length rows → get_or rows i Unknown ≡ row →
      value_at (values reading numbers rows) i ≡ row_value reading numbers (values reading numbers (take i rows)) (unknowns (take i rows)) row
  unfolding later
  row_at rows i row h is =
      let front : List Row = take i rows in
      let vs : List Val = values reading numbers front in
      let len : length vs ≡ i = length_values reading numbers front ∙ length-take-le i rows (omega arith) in
      let begins : take (i + 1) rows ≡ take (i + 1) (take (i + 1) rows) = sym (take-take (i + 1) (i + 1) rows (omega arith)) in
      let split : take (i + 1) rows ≡ front ++ (row ∷ []) = take_more rows i Unknown h ∙ ap (λ (r : Row). front ++ (r ∷ [])) is in
      value_same reading numbers (i + 1) rows (take (i + 1) rows) begins i (omega arith)
      ∙ ap (λ (t : List Row). value_at (values reading numbers t) i) split
      ∙ ap (λ (t : List Val). value_at t i) (values-++ reading numbers front (row ∷ []))
      ∙ get_or_push vs (row_value reading numbers vs (unknowns front) row) (bool false) i len

  -- a row whose operands are earlier has the value of its operation on the values of the table
  pub row_law : (s : ℕ → Sort) (rows : List Row) (i : ℕ) (row : Row) → i < length rows → get_or rows i Unknown ≡ row → RowSound s i row →
      value_at (values reading numbers rows) i ≡ row_value reading numbers (values reading numbers rows) (unknowns (take i rows)) row
  row_law s rows i row h is sound =
      let below : (j : ℕ) → j < i → value_at (values reading numbers (take i rows)) j ≡ value_at (values reading numbers rows) j =
      λ j lt. value_same reading numbers i (take i rows) rows (take-take i i rows (omega arith)) j lt in
      row_at rows i row h is
      ∙ row_local s (values reading numbers (take i rows)) (values reading numbers rows) i (unknowns (take i rows)) row below sound
