-- Rows as equations over a list of values, and the value of the last of them.
use Rattle.std.proofs.Common.{◌≡◌, ℕ, ◌+◌, ◌≤◌, List, [], ◌∷◌, length, ℤ, refl, arith}
use Rattle.target.specs.declared.row.Row.{Row}
use Rattle.target.specs.Values.{Val, Reading, value_at}
use Rattle.target.proofs.Blocks.{Each, Obeys}
use Rattle.rows.specs.Rows.{last_or}

-- where each of the rows `new` from `at` on has its value, the last of them, or `other` where there is none, has the value v
abbrev pub Ends : Reading → (ℕ → ℤ) → List Val → ℕ → ℕ → List Row → Val → Type 0
Ends reading numbers vs other at new v = Each (Obeys reading numbers vs) at new → value_at vs (last_or other at new) ≡ v

pub last_is : (other at : ℕ) (new : List Row) → 1 ≤ length new → last_or other at new + 1 ≡ at + length new
last_is other at [] h = absurd (omega arith)
last_is other at (row ∷ []) h = refl
last_is other at (row ∷ next ∷ rows) h = omega arith
