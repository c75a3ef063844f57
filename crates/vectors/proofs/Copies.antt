-- A list that repeats what stands from a place on.
use Rattle.std.proofs.Common.{◌≡◌, ℕ, ◌+◌, ◌-◌, ◌≤◌, List, [], ◌∷◌, ◌++◌, length, take, drop, replicate, sym, ap, ◌∙◌, append_assoc, append-nil, length-drop, arith}
use Rattle.std.specs.List.{concat}
use Rattle.std.proofs.lemmas.List.{drop-append-le, take_at, replicate_more}
use Rattle.std.proofs.lemmas.List.Folds.{concat-append}

-- one copy more, at the end
copies_more : (k : ℕ) (xs : List ℕ) → concat (replicate (k + 1) xs) ≡ concat (replicate k xs) ++ xs
copies_more k xs =
    ap concat (sym (replicate_more k xs)) ∙ concat-append (replicate k xs) (xs ∷ [])
    ∙ ap (λ (t : List ℕ). concat (replicate k xs) ++ t) (append-nil xs)

-- what stood from a place on still stands there
last_part : (xs ys : List ℕ) (start : ℕ) → start ≤ length xs → take (length xs - start) (drop start (xs ++ ys)) ≡ drop start xs
last_part xs ys start h =
    ap (take (length xs - start)) (drop-append-le start xs ys h) ∙ take_at (drop start xs) ys (length xs - start) (length-drop start xs)

-- the step of a loop that counts copies from 1
pub repeats_more : (xs was now : List ℕ) (start end k : ℕ) → start ≤ end → end ≡ length xs → 1 ≤ k
    → was ≡ xs ++ concat (replicate (k - 1) (drop start xs)) → now ≡ was ++ take (end - start) (drop start was)
    → now ≡ xs ++ concat (replicate (k + 1 - 1) (drop start xs))
repeats_more xs was now start end k within whole first e f =
    let part : take (end - start) (drop start was) ≡ drop start xs =
    ap (λ t. take (end - start) (drop start t)) e ∙ ap (λ n. take (n - start) (drop start (xs ++ concat (replicate (k - 1) (drop start xs))))) whole
    ∙ last_part xs (concat (replicate (k - 1) (drop start xs))) start (omega arith) in
    let count : k - 1 + 1 ≡ k + 1 - 1 = omega arith in
    f ∙ ap (λ t. was ++ t) part ∙ ap (λ (t : List ℕ). t ++ drop start xs) e
    ∙ append_assoc xs (concat (replicate (k - 1) (drop start xs))) (drop start xs)
    ∙ ap (λ t. xs ++ t) (sym (copies_more (k - 1) (drop start xs)) ∙ ap (λ n. concat (replicate n (drop start xs))) count)
