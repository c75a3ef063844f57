-- The rows of the scheme that compares bit by bit.
use Rattle.std.specs.Prelude.{ℕ, ◌+◌, ◌*◌, true, List, [], ◌∷◌, ◌++◌}
use Rattle.target.specs.declared.row.Row.{Row}
use Rattle.target.specs.declared.row.Row.TheVariants.{Number, Truth, Equal, And}
use Rattle.scheme.specs.declared.base.Base.{Base}
use Rattle.scheme.specs.declared.lemma.Lemma.{Lemma}
use Rattle.scheme.specs.Shared.{digit_rows, pair_rows, both_rows, base_of, Turns, turns}

-- Bit i: its weight, the bits of a, b and c, the and of the first two, whether the bit of c is that, and whether all
-- bits so far are.
abbrev pub bitwise_turn : Base → Turns
bitwise_turn base i former at =
    pair_rows i base.lemma.a base.lemma.b base.two at ++ (digit_rows base.lemma.c at base.two (at + 5)
    ++ (both_rows (at + 2) (at + 4) base.zero base.one (at + 7) ++ (Equal (at + 6) (at + 10) ∷ And former (at + 11) ∷ [])))

-- 0, 1, 2 and true, and the bits from the lowest
abbrev pub bitwise_rows : ℕ → Lemma → List Row
bitwise_rows count l =
    (Number 0 ∷ Number 1 ∷ Number 2 ∷ Truth true ∷ []) ++ turns (bitwise_turn (base_of count l)) (count + 3) (count + 4) l.k

abbrev pub bitwise_size : ℕ → ℕ
bitwise_size k = 13 * k + 4
