-- The number that digits spell.
use Rattle.std.proofs.Common.{◌≡◌, ℕ, ◌+◌, ◌-◌, ◌*◌, ◌^◌, ◌<◌, ◌≤◌, List, [], ◌∷◌, length, get_or, drop, None, sym, le_refl, arith}
use Rattle.std.proofs.lemmas.List.{at_drop_more}
use Rattle.std.proofs.lemmas.Bool.{le-ltb, cond-false}
use Rattle.script.specs.Tokens.{value_after, value_of}
use Rattle.script.specs.Found.{number_of}

-- more digits never make a number smaller
pub grows : (n : ℕ) (ds : List ℕ) → n ≤ value_after n ds
grows n [] = le_refl n
grows n (d ∷ ds) = omega (arith, grows (n * 10 + (d - 48)) ds)

-- the digit at i makes the number n too large
pub too_large : (ds : List ℕ) (i n : ℕ) → i < length ds → 2 ^ 32 ≤ n * 10 + (get_or ds i 0 - 48) → value_after n (drop i ds) ≡ value_of ds → None ≡ number_of ds
too_large ds i n h large e =
    let step = at_drop_more (value_after n) ds i 0 h in
    sym (cond-false _ _ _ (le-ltb (value_of ds) (2 ^ 32) (omega (arith, grows (n * 10 + (get_or ds i 0 - 48)) (drop (i + 1) ds)))))
