-- Sound tables: their first rows, and the sorts of their values.
use Rattle.std.proofs.Common.{◌≡◌, ℕ, zero, suc, ◌<◌, min, List, length, get_or, take, ℤ, sym, refl, ap, ◌∙◌, arith, length-take}
use Rattle.std.proofs.lemmas.List.{get_or-take}
use Rattle.std.proofs.lemmas.Bool.{cond_both}
use Rattle.target.specs.declared.row.Sort.{Sort}
use Rattle.target.specs.declared.row.Sort.TheVariants.{Int, Bool}
use Rattle.target.specs.declared.row.Row.{Row}
use Rattle.target.specs.declared.row.Row.TheVariants.{Unknown, Number, Truth, Add, Sub, Times, Quot, Rem, Equal, Less, AtMost, Not, And, Or, Choose}
use Rattle.target.specs.Sorts.{sort_of}
use Rattle.target.specs.Values.{Val, Reading, kind, value_at}
use Rattle.target.specs.Meaning.{row_value, unknowns, values}
use Rattle.target.specs.Soundness.{Takes, RowSound, sort_at, Sound}
use Rattle.target.proofs.RowLaw.{row_law}

module _ (s t : ℕ → Sort) (i : ℕ) (e : (p : ℕ) → p < i → s p ≡ t p) where
  -- an earlier row of a sort, by other sorts that agree before i
  moved : (sort : Sort) (p : ℕ) → Takes s i sort p → Takes t i sort p
  moved sort p h = (h.0, sym (e p h.0) ∙ h.1)

  -- a row is sound by the sorts of the earlier rows alone
  pub sorts_local : (row : Row) → RowSound s i row → RowSound t i row
  sorts_local Unknown h = tt
  sorts_local (Number m) h = tt
  sorts_local (Truth b) h = tt
  sorts_local (Add p q) h = (moved Int p h.0, moved Int q h.1)
  sorts_local (Sub p q) h = (moved Int p h.0, moved Int q h.1)
  sorts_local (Times p q) h = (moved Int p h.0, moved Int q h.1)
  sorts_local (Quot p q) h = (moved Int p h.0, moved Int q h.1)
  sorts_local (Rem p q) h = (moved Int p h.0, moved Int q h.1)
  sorts_local (Equal p q) h = (h.0, (h.1.0, sym (e q h.1.0) ∙ h.1.1 ∙ e p h.0))
  sorts_local (Less p q) h = (moved Int p h.0, moved Int q h.1)
  sorts_local (AtMost p q) h = (moved Int p h.0, moved Int q h.1)
  sorts_local (Not p) h = moved Bool p h
  sorts_local (And p q) h = (moved Bool p h.0, moved Bool q h.1)
  sorts_local (Or p q) h = (moved Bool p h.0, moved Bool q h.1)
  sorts_local (Choose sort p q r) h = (moved Bool p h.0, moved sort q h.1, moved sort r h.2)

-- the first rows of a sound table are a sound table
pub prefix_sound : (n : ℕ) (rows : List Row) → Sound rows → Sound (take n rows)
prefix_sound n rows h i lt =
    let len : length (take n rows) ≡ min n (length rows) = length-take n rows in
    let low : i < n = omega arith in
    let same : (p : ℕ) → p < i → sort_at rows p ≡ sort_at (take n rows) p = λ p l. ap sort_of (sym (get_or-take n rows p Unknown (omega arith))) in
    rw (get_or-take n rows i Unknown low) (sorts_local (sort_at rows) (sort_at (take n rows)) i same (get_or rows i Unknown) (h i (omega arith)))

-- a row whose branches have the values of its sort has a value of its sort
kind_row : (reading : Reading) (numbers : ℕ → ℤ) (vs : List Val) (n : ℕ) (s : ℕ → Sort) (i : ℕ) (row : Row) → RowSound s i row →
    ((p : ℕ) → p < i → kind (value_at vs p) ≡ s p) → kind (row_value reading numbers vs n row) ≡ sort_of row
unfolding row_value
kind_row reading numbers vs n s i Unknown h e = refl
kind_row reading numbers vs n s i (Number m) h e = refl
kind_row reading numbers vs n s i (Truth b) h e = refl
kind_row reading numbers vs n s i (Add p q) h e = refl
kind_row reading numbers vs n s i (Sub p q) h e = refl
kind_row reading numbers vs n s i (Times p q) h e = refl
kind_row reading numbers vs n s i (Quot p q) h e = refl
kind_row reading numbers vs n s i (Rem p q) h e = refl
kind_row reading numbers vs n s i (Equal p q) h e = refl
kind_row reading numbers vs n s i (Less p q) h e = refl
kind_row reading numbers vs n s i (AtMost p q) h e = refl
kind_row reading numbers vs n s i (Not p) h e = refl
kind_row reading numbers vs n s i (And p q) h e = refl
kind_row reading numbers vs n s i (Or p q) h e = refl
kind_row reading numbers vs n s i (Choose sort p q r) h e =
    cond_both _ (value_at vs q) (value_at vs r) (λ v. kind v ≡ sort) (λ _. e q h.1.0 ∙ h.1.1) (λ _. e r h.2.0 ∙ h.2.1)

module _ (reading : Reading) (numbers : ℕ → ℤ) (rows : List Row) (sound : Sound rows) where
  kinds_below : (n i : ℕ) → i < n → i < length rows → kind (value_at (values reading numbers rows) i) ≡ sort_at rows i
  kinds_below zero i low lt = absurd (omega arith)
  kinds_below (suc n) i low lt =
      let row : Row = get_or rows i Unknown in
      let is : value_at (values reading numbers rows) i ≡ row_value reading numbers (values reading numbers rows) (unknowns (take i rows)) row =
      row_law reading numbers (sort_at rows) rows i row lt refl (sound i lt) in
      ap kind is
      ∙ kind_row reading numbers (values reading numbers rows) (unknowns (take i rows)) (sort_at rows) i row (sound i lt)
      (λ p l. kinds_below n p (omega arith) (omega arith))

  -- in a sound table the value of a row is of the row's sort
  pub kinds_are_sorts : (i : ℕ) → i < length rows → kind (value_at (values reading numbers rows) i) ≡ sort_at rows i
  kinds_are_sorts i lt = kinds_below (suc i) i (omega arith) lt
