-- The values of a table, of its first rows, and of rows appended to it.
use Rattle.std.proofs.Common.{◌≡◌, ℕ, zero, suc, ◌+◌, ◌<◌, false, List, [], ◌∷◌, ◌++◌, length, get_or, take, ℤ, sym, refl, ap, ◌∙◌, append_assoc, append-nil, add-zero, add_assoc, zero-add}
use Rattle.std.proofs.lemmas.List.{get_or-take}
use Rattle.target.specs.declared.row.Row.{Row}
use Rattle.target.specs.Values.{Val, bool, Reading, value_at}
use Rattle.target.specs.Meaning.{row_value, unknown, unknowns, later, values}

module _ (reading : Reading) (numbers : ℕ → ℤ) where
  pub later-++ : (vs : List Val) (n : ℕ) (xs ys : List Row) →
      later reading numbers vs n (xs ++ ys) ≡ later reading numbers vs n xs ++ later reading numbers (vs ++ later reading numbers vs n xs) (n + unknowns xs) ys
  unfolding later
  later-++ vs n [] ys = simp (append-nil, add-zero)
  later-++ vs n (x ∷ xs) ys =
      let v = row_value reading numbers vs n x in
      ap (λ t. v ∷ t) (later-++ (vs ++ (v ∷ [])) (n + unknown x) xs ys ∙ simp (append_assoc, add_assoc))

  -- appending rows changes no earlier value
  pub values-++ : (xs ys : List Row) → values reading numbers (xs ++ ys) ≡ values reading numbers xs ++ later reading numbers (values reading numbers xs) (unknowns xs) ys
  unfolding values
  values-++ xs ys = rw zero-add at (later-++ [] 0 xs ys)

  later_take : (m : ℕ) (vs : List Val) (n : ℕ) (rows : List Row) → later reading numbers vs n (take m rows) ≡ take m (later reading numbers vs n rows)
  unfolding later
  later_take zero vs n rows = refl
  later_take (suc m) vs n [] = refl
  later_take (suc m) vs n (x ∷ xs) =
      let v = row_value reading numbers vs n x in
      ap (λ t. v ∷ t) (later_take m (vs ++ (v ∷ [])) (n + unknown x) xs)

  pub values_take : (m : ℕ) (rows : List Row) → values reading numbers (take m rows) ≡ take m (values reading numbers rows)
  unfolding values
  values_take m rows = later_take m [] 0 rows

  length_later : (vs : List Val) (n : ℕ) (rows : List Row) → length (later reading numbers vs n rows) ≡ length rows
  unfolding later
  length_later vs n [] = refl
  length_later vs n (x ∷ xs) =
      let v = row_value reading numbers vs n x in
      ap suc (length_later (vs ++ (v ∷ [])) (n + unknown x) xs)

  pub length_values : (rows : List Row) → length (values reading numbers rows) ≡ length rows
  unfolding values
  length_values rows = length_later [] 0 rows

  -- tables with the same first n rows have the same first n values
  pub value_same : (n : ℕ) (xs ys : List Row) → take n xs ≡ take n ys → (i : ℕ) → i < n → value_at (values reading numbers xs) i ≡ value_at (values reading numbers ys) i
  value_same n xs ys e i h =
      sym (get_or-take n (values reading numbers xs) i (bool false) h)
      ∙ ap (λ (t : List Val). get_or t i (bool false)) (sym (values_take n xs) ∙ ap (values reading numbers) e ∙ values_take n ys)
      ∙ get_or-take n (values reading numbers ys) i (bool false) h
