-- A part of a table that is written over.
use Rattle.std.proofs.Common.{◌≡◌, ℕ, ◌+◌, ◌≤◌, List, [], ◌++◌, length, take, drop, sym, ap, ◌∙◌, append_assoc, add-zero, arith, length-append, length-drop}
use Rattle.std.proofs.lemmas.List.{drop-drop, take_at, drop_at, take-append-drop, length-take-le}
use Rattle.target.specs.declared.row.Row.{Row}
use Rattle.target.specs.Tables.{laid}

pub laid_none : (rows : List Row) (at : ℕ) → laid rows at [] ≡ rows
laid_none rows at = rw add-zero (take-append-drop at rows)

module _ (rows : List Row) (at : ℕ) (new : List Row) (room : at + length new ≤ length rows) where
  -- the first rows, up to the last one written
  abbrev front : List Row
  front = take at rows ++ new

  front_length : length front ≡ at + length new
  front_length = length-append (take at rows) new ∙ ap (λ n. n + length new) (length-take-le at rows (omega arith))

  split : laid rows at new ≡ front ++ drop (at + length new) rows
  split = sym (append_assoc (take at rows) new (drop (at + length new) rows))

  pub length_laid : length (laid rows at new) ≡ length rows
  length_laid =
      ap length split ∙ length-append front (drop (at + length new) rows)
      ∙ omega (arith, front_length, length-drop (at + length new) rows)

  pub take_laid : take (at + length new) (laid rows at new) ≡ take at rows ++ new
  take_laid = ap (take (at + length new)) split ∙ take_at front (drop (at + length new) rows) (at + length new) front_length

  pub drop_laid : drop (at + length new) (laid rows at new) ≡ drop (at + length new) rows
  drop_laid = ap (drop (at + length new)) split ∙ drop_at front (drop (at + length new) rows) (at + length new) front_length

  -- what stood before is as it was
  pub before_laid : take at (laid rows at new) ≡ take at rows
  before_laid = take_at (take at rows) (new ++ drop (at + length new) rows) at (length-take-le at rows (omega arith))

-- rows laid after rows that were laid
pub laid_laid : (rows : List Row) (at : ℕ) (xs ys : List Row) → at + length xs + length ys ≤ length rows → laid (laid rows at xs) (at + length xs) ys ≡ laid rows at (xs ++ ys)
laid_laid rows at xs ys h =
    let n : ℕ = at + length xs in
    let before : List Row = take at rows ++ xs in
    let rest : drop (n + length ys) (laid rows at xs) ≡ drop (at + length (xs ++ ys)) rows =
    sym (drop-drop (length ys) n (laid rows at xs)) ∙ ap (drop (length ys)) (drop_laid rows at xs (omega arith))
    ∙ drop-drop (length ys) n rows ∙ ap (λ m. drop m rows) (omega (arith, length-append xs ys)) in
    ap (λ (t : List Row). t ++ (ys ++ drop (n + length ys) (laid rows at xs))) (take_laid rows at xs (omega arith))
    ∙ ap (λ (t : List Row). before ++ (ys ++ t)) rest
    ∙ append_assoc (take at rows) xs (ys ++ drop (at + length (xs ++ ys)) rows)
    ∙ ap (λ (t : List Row). take at rows ++ t) (sym (append_assoc xs ys (drop (at + length (xs ++ ys)) rows)))

-- the same, from what two writes left
pub then_laid : (rows mid after : List Row) (at n : ℕ) (xs ys : List Row) → mid ≡ laid rows at xs → after ≡ laid mid n ys → at + length xs ≡ n → n + length ys ≤ length rows →
    after ≡ laid rows at (xs ++ ys)
then_laid rows mid after at n xs ys em ea en room =
    ea ∙ ap (λ (t : List Row). laid t n ys) em ∙ ap (λ (m : ℕ). laid (laid rows at xs) m ys) (sym en) ∙ laid_laid rows at xs ys (omega arith)

-- three blocks
pub laid_three : (rows one two three : List Row) (at m n : ℕ) (xs ys zs : List Row) → one ≡ laid rows at xs → two ≡ laid one m ys → three ≡ laid two n zs →
    at + length xs ≡ m → at + length (xs ++ ys) ≡ n → n + length zs ≤ length rows → three ≡ laid rows at (xs ++ (ys ++ zs))
laid_three rows one two three at m n xs ys zs ex ey ez em en room =
    let all : length (xs ++ ys) ≡ length xs + length ys = length-append xs ys in
    then_laid rows two three at n (xs ++ ys) zs (then_laid rows one two at m xs ys ex ey em (omega arith)) ez en room
    ∙ ap (laid rows at) (append_assoc xs ys zs)
