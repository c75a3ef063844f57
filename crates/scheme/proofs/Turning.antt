-- Turns one after another: how long they are, where they end, and the loop that writes them.
use Rattle.std.proofs.Common.{◌≡◌, ℕ, zero, suc, ◌+◌, ◌*◌, ◌<◌, ◌≤◌, List, [], ◌∷◌, ◌++◌, length, sym, ap, ◌∙◌, ⊎_elim, add-zero, mul-zero, mul-suc, add-one, arith, length-append}
use Rattle.std.proofs.lemmas.Bool.{cases_eq}
use Rattle.target.specs.declared.row.Row.{Row}
use Rattle.target.specs.Tables.{laid}
use Rattle.target.proofs.Laying.{then_laid}
use Rattle.scheme.specs.Shared.{Turns, turns, last_of}

pub last-++ : (former at : ℕ) (xs ys : List Row) → last_of former at (xs ++ ys) ≡ last_of (last_of former at xs) (at + length xs) ys
last-++ former at [] ys = rw add-zero
last-++ former at (x ∷ xs) [] = omega (arith, length-append {A = Row} xs [])
last-++ former at (x ∷ xs) (y ∷ ys) = omega (arith, length-append xs (y ∷ ys))

-- the row after the last is the one after the block
pub last_next : (former at : ℕ) (xs : List Row) → 1 ≤ length xs → last_of former at xs + 1 ≡ at + length xs
last_next former at [] h = absurd (omega arith)
last_next former at (x ∷ xs) h = omega arith

-- the same of every block, where `former` is the row before it
pub last_on : (former at : ℕ) (xs : List Row) → former + 1 ≡ at → last_of former at xs + 1 ≡ at + length xs
last_on former at [] e = omega arith
last_on former at (x ∷ xs) e = omega arith

module _ (turn : Turns) (first at : ℕ) where
  abbrev done : ℕ → List Row
  done i = turns turn first at i

  abbrev pub turn_at : ℕ → List Row
  turn_at i = turn i (last_of first at (done i)) (at + length (done i))

  pub length_more : (i : ℕ) → length (done (suc i)) ≡ length (done i) + length (turn_at i)
  length_more i = length-append (done i) (turn_at i)

  -- turns of one length each
  pub length_turns : (n : ℕ) → ((i former at : ℕ) → length (turn i former at) ≡ n) → (k : ℕ) → length (done k) ≡ n * k
  length_turns n each zero = sym (mul-zero n)
  length_turns n each (suc k) =
      length_more k ∙ omega (arith, length_turns n each k, each k (last_of first at (done k)) (at + length (done k)), mul-suc n k)

  length_grows : (i k : ℕ) → i < k → length (done (suc i)) ≤ length (done k)
  length_grows i zero lt = absurd (omega arith)
  length_grows i (suc k) lt =
      ⊎_elim
      (λ (e : i ≡ k). rw e (omega arith))
      (λ (ne : i ≡ k → ⊥). omega (arith, length_grows i k (omega (arith, ne)), length_more k))
      (cases_eq i k)

  -- the loop at the turn i, where `former` and `next` are the last row so far and the one after it
  module _ (i former next : ℕ) (ef : former ≡ last_of first at (done i)) (en : next ≡ at + length (done i)) where
    same_turn : turn i former next ≡ turn_at i
    same_turn = rw (ef, en)

    pub turn_room : (k n : ℕ) → i < k → at + length (done k) ≤ n → next + length (turn i former next) ≤ n
    turn_room k n lt room = omega (arith, ap length same_turn, length_more i, length_grows i k lt)

    pub turn_laid : (rows mid after : List Row) → mid ≡ laid rows at (done i) → after ≡ laid mid next (turn i former next) → next + length (turn i former next) ≤ length rows →
        after ≡ laid rows at (turns turn first at (i + 1))
    turn_laid rows mid after em ea room =
        then_laid rows mid after at next (done i) (turn i former next) em ea (sym en) room
        ∙ ap (λ (t : List Row). laid rows at (done i ++ t)) same_turn
        ∙ ap (λ m. laid rows at (turns turn first at m)) (sym (add-one i))

    pub turn_last : (last : ℕ) → last ≡ last_of former next (turn i former next) → 1 ≤ length (turn i former next) →
        (last ≡ last_of first at (turns turn first at (i + 1))) × (last + 1 ≡ at + length (turns turn first at (i + 1)))
    turn_last last el some =
        let here : last ≡ last_of first at (done i ++ turn_at i) = el ∙ rw (ef, en) (sym (last-++ first at (done i) (turn_at i))) in
        let after : last + 1 ≡ at + length (done (suc i)) =
        ap (λ m. m + 1) el ∙ last_next former next (turn i former next) some ∙ omega (arith, ap length same_turn, length_more i) in (
          here ∙ ap (λ m. last_of first at (turns turn first at m)) (sym (add-one i)),
          after ∙ ap (λ m. at + length (turns turn first at m)) (sym (add-one i)),
        )
