-- Pieces put one behind another.
use Rattle.std.proofs.Common.{◌≡◌, ℕ, zero, suc, ◌+◌, ◌-◌, ◌≤◌, List, [], ◌∷◌, ◌++◌, length, take, min, sym, refl, ap, ◌∙◌, arith}
use Rattle.std.proofs.lemmas.List.{take_all, take_min}
use Rattle.std.proofs.Math.Nat.{min_comm}
use Rattle.std.proofs.Math.Seq.{take-append-add}
use Rattle.text.specs.Kept.{kept}

take_more_of : (n : ℕ) (xs ys : List ℕ) → take n (take n xs ++ ys) ≡ take n (xs ++ ys)
take_more_of zero xs ys = refl
take_more_of (suc n) [] ys = refl
take_more_of (suc n) (x ∷ xs) ys = ap (λ (t : List ℕ). x ∷ t) (take_more_of n xs ys)

pub kept_more : (xs ys : List ℕ) → kept (kept xs ++ ys) ≡ kept (xs ++ ys)
unfolding kept
kept_more xs ys = take_more_of 128 xs ys

pub kept_whole : (xs : List ℕ) → length xs ≤ 128 → kept xs ≡ xs
unfolding kept
kept_whole xs h = take_all 128 xs h

-- a part of the text that fills the room
pub kept_part : (front text : List ℕ) (count : ℕ) → length front ≤ 128 → count ≡ min (length text) (128 - length front) → front ++ take count text ≡ kept (front ++ text)
unfolding kept
kept_part front text count h e =
    let all : 128 ≡ length front + (128 - length front) = omega arith in
    ap (λ (t : List ℕ). front ++ t) (ap (λ (n : ℕ). take n text) (e ∙ min_comm (length text) (128 - length front)) ∙ take_min (128 - length front) text)
    ∙ sym (ap (λ (n : ℕ). take n (front ++ text)) all ∙ take-append-add front text (128 - length front))
