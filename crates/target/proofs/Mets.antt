-- Assertions that are met: of lists of them one after another, and in tables with the same first rows.
use Rattle.std.proofs.Common.{◌≡◌, ℕ, ◌<◌, List, [], ◌∷◌, ◌++◌, take, ℤ, sym, ◌∙◌}
use Rattle.target.specs.declared.assertion.Assertion.{Assertion}
use Rattle.target.specs.declared.row.Row.{Row}
use Rattle.target.specs.Values.{Reading}
use Rattle.target.specs.Meaning.{Met}
use Rattle.target.proofs.Values.{value_same}

-- each asserted row is among the first n
abbrev pub Within : ℕ → List Assertion → Type 0
Within n [] = Unit {0}
Within n (assertion ∷ assertions) = (assertion.row < n) × Within n assertions

module _ (reading : Reading) (numbers : ℕ → ℤ) where
  pub met_join : (rows : List Row) (ps qs : List Assertion) → Met reading numbers rows ps → Met reading numbers rows qs → Met reading numbers rows (ps ++ qs)
  met_join rows [] qs h k = k
  met_join rows (p ∷ ps) qs h k = (h.0, met_join rows ps qs h.1 k)

  pub met_parts : (rows : List Row) (ps qs : List Assertion) → Met reading numbers rows (ps ++ qs) → Met reading numbers rows ps × Met reading numbers rows qs
  met_parts rows [] qs h = (tt, h)
  met_parts rows (p ∷ ps) qs h = let parts = met_parts rows ps qs h.1 in ((h.0, parts.0), parts.1)

  pub met_same : (n : ℕ) (xs ys : List Row) → take n xs ≡ take n ys → (ps : List Assertion) → Within n ps → Met reading numbers xs ps → Met reading numbers ys ps
  met_same n xs ys e [] w h = tt
  met_same n xs ys e (p ∷ ps) w h = (sym (value_same reading numbers n xs ys e p.row w.0) ∙ h.0, met_same n xs ys e ps w.1 h.1)
