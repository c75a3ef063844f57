-- The text states a target's rows and no others.
use Rattle.std.specs.Prelude.{◌≡◌, ℕ, List}
use Rattle.std.specs.List.{concat}
use Rattle.target.specs.declared.row.Row.{Row}
use Rattle.text.specs.Lines.{lines_of}

-- the lines one after another
abbrev pub text_of : List Row → List ℕ → List ℕ
text_of rows asserted = concat (lines_of rows asserted)

-- whatever has the text of these rows and asserted rows is these rows and asserted rows
abbrev pub States : List Row → List ℕ → Type 0
States rows asserted = (others : List Row) (besides : List ℕ) → text_of others besides ≡ text_of rows asserted → (others ≡ rows) × (besides ≡ asserted)

-- and so for every target
abbrev pub StatesNoOther : Type 0
StatesNoOther = (rows : List Row) (asserted : List ℕ) → States rows asserted
