-- What a caller of a scheme learns whose rows are written out.
use Rattle.std.specs.Prelude.{◌≡◌, ℕ, ◌+◌, List, Ok, Err, Result}
use Rattle.refusal.specs.declared.Refusal.{Refusal}
use Rattle.target.specs.declared.row.Row.{Row}
use Rattle.scheme.specs.declared.lemma.Lemma.{Lemma}
use Rattle.target.specs.Tables.{laid}

-- granted, exactly the rows of the list, of which the answer is the last; refused, nothing
abbrev pub Lists : (ℕ → ℕ) → (ℕ → Lemma → List Row) → List Row → List Row → ℕ → Lemma → Result ℕ Refusal → Type 0
Lists size list before after count l (Ok answer) = (after ≡ laid before count (list count l)) × (answer + 1 ≡ count + size l.k)
Lists size list before after count l (Err refusal) = after ≡ before
