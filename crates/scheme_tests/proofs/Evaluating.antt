-- The codes of a table's rows, one row after another.
use Rattle.std.proofs.Common.{◌≡◌, ◌≢◌, ℕ, ◌+◌, ◌<◌, true, List, [], ◌∷◌, ◌++◌, length, get_or, take, sym, refl, ap, ◌∙◌, below_more, get_or-set_other, get_or-set_same, arith}
use Rattle.std.specs.Prelude.{slice_index, slice_set}
use Rattle.std.proofs.lemmas.List.{take_more}
use Rattle.target.specs.declared.row.Row.{Row}
use Rattle.target.specs.declared.row.Row.TheVariants.{Unknown}
use Rattle.target.specs.Values.{value_at}
use Rattle.target.specs.Meaning.{unknown, unknowns, row_value}
use Rattle.target.specs.Soundness.{sort_at, Sound}
use Rattle.target.proofs.Blocks.{unknowns-++}
use Rattle.target.proofs.RowLaw.{row_law}
use Rattle.target.proofs.Sounds.{kinds_are_sorts}
use Rattle.scheme_tests.specs.Evaluated.{code, has_code, naught, numbering, meant, stepped}
use Rattle.scheme_tests.proofs.Codes.{Codes, same_step}

pub counted_more : (rows : List Row) (i n m : ℕ) → i < length rows → n ≡ unknowns (take i rows) → m ≡ n + unknown (get_or rows i Unknown) → m ≡ unknowns (take (i + 1) rows)
counted_more rows i n m lt en em =
    let row = get_or rows i Unknown in
    let whole : unknowns (take (i + 1) rows) ≡ unknowns (take i rows ++ row ∷ []) = ap unknowns (take_more rows i Unknown lt) in
    omega (arith, en, em, whole, unknowns-++ (take i rows) (row ∷ []))

module _ (rows : List Row) (numbers : List ℕ) (sound : Sound rows) (fit : (j : ℕ) → j < length rows → has_code (value_at (meant numbers rows) j) ≡ true) where
  -- the machine's number of a row is the code of its value
  step_is : (i : ℕ) (xs : List ℕ) → i < length rows → ((j : ℕ) → j < i → slice_index xs j ≡ code (value_at (meant numbers rows) j)) →
      stepped (get_or rows i Unknown) numbers (unknowns (take i rows)) xs ≡ code (value_at (meant numbers rows) i)
  step_is i xs lt before =
      let own : value_at (meant numbers rows) i ≡ row_value naught (numbering numbers) (meant numbers rows) (unknowns (take i rows)) (get_or rows i Unknown) =
      row_law naught (numbering numbers) (sort_at rows) rows i (get_or rows i Unknown) lt refl (sound i lt) in
      let known : Codes (sort_at rows) i xs (meant numbers rows) = record {
        codes = before;
        kinds = λ j l. kinds_are_sorts naught (numbering numbers) rows sound j (omega arith);
        fit = λ j l. fit j (omega arith);
      } in
      same_step (sort_at rows) numbers i (unknowns (take i rows)) xs (meant numbers rows) known (get_or rows i Unknown) (sound i lt) (ap has_code (sym own) ∙ fit i lt)
      ∙ ap code (sym own)

  -- a row that has room
  pub codes_more : (i n v : ℕ) (xs ys : List ℕ) → i < length rows → i < length xs → n ≡ unknowns (take i rows) →
      v ≡ stepped (get_or rows i Unknown) numbers n xs → ys ≡ slice_set xs i v →
      ((j : ℕ) → j < i → j < length xs → slice_index xs j ≡ code (value_at (meant numbers rows) j)) →
      (j : ℕ) → j < i + 1 → slice_index ys j ≡ code (value_at (meant numbers rows) j)
  codes_more i n v xs ys lt room en ev ey before =
      let here : v ≡ code (value_at (meant numbers rows) i) =
      ev ∙ ap (λ m. stepped (get_or rows i Unknown) numbers m xs) en ∙ step_is i xs lt (λ j l. before j l (omega arith)) in
      rw ey (below_more (λ j. slice_index (slice_set xs i v) j ≡ code (value_at (meant numbers rows) j)) i
      (λ j l. let ne : j ≢ i = omega arith in rw get_or-set_other (before j l (omega arith)))
      (rw get_or-set_same here))
