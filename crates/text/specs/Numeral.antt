-- A number in decimal.
use Rattle.std.specs.Prelude.{ℕ, ◌+◌, cond, List, [], ◌∷◌, map, ◌==◌}
use Rattle.std.specs.Int.Digits.{digits_of}

-- the bytes of n in decimal, with no zero in front
unfoldable pub numeral : ℕ → List ℕ
numeral n = cond (n == 0) (48 ∷ []) (map (λ d. 48 + d) (digits_of 10 n))
