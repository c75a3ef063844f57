-- The rows of the scheme that adds up the bits of the and.
use Rattle.std.specs.Prelude.{ℕ, ◌+◌, ◌*◌, List, [], ◌∷◌, ◌++◌}
use Rattle.target.specs.declared.row.Row.{Row}
use Rattle.target.specs.declared.row.Row.TheVariants.{Number, Add, Times, Equal}
use Rattle.scheme.specs.declared.base.Base.{Base}
use Rattle.scheme.specs.declared.lemma.Lemma.{Lemma}
use Rattle.scheme.specs.Shared.{pair_rows, both_rows, base_of, last_of, Turns, turns}

-- Bit i: its weight, the bits of a and b, their and, its weight times that, and this added to the former total.
abbrev pub sum_turn : Base → Turns
sum_turn base i total at =
    pair_rows i base.lemma.a base.lemma.b base.two at ++ (both_rows (at + 2) (at + 4) base.zero base.one (at + 5) ++ (Times at (at + 8) ∷ Add total (at + 9) ∷ []))

-- 0, 1 and 2, the bits from the lowest, and whether c is the total, which begins at the row 0
abbrev pub sum_rows : ℕ → Lemma → List Row
sum_rows count l =
    let bits : List Row = turns (sum_turn (base_of count l)) count (count + 3) l.k in
    (Number 0 ∷ Number 1 ∷ Number 2 ∷ []) ++ (bits ++ (Equal l.c (last_of count (count + 3) bits) ∷ []))

abbrev pub sum_size : ℕ → ℕ
sum_size k = 11 * k + 4
