-- The row at a place of turns that are of one length each.
use Rattle.std.proofs.Common.{◌≡◌, ℕ, zero, suc, ◌+◌, ◌-◌, ◌*◌, ◌<◌, ◌≤◌, List, length, get_or, sym, ap, subst, ◌∙◌, ⊎_elim, mul-le-mul_left, add-one, mul-suc, arith}
use Rattle.std.proofs.lemmas.Bool.{cases_eq}
use Rattle.std.proofs.lemmas.List.{get_or_append_left, get_or-append_right}
use Rattle.target.specs.declared.row.Row.{Row}
use Rattle.target.specs.declared.row.Row.TheVariants.{Unknown}
use Rattle.scheme.specs.Shared.{Turns, turns, last_of}
use Rattle.scheme.proofs.Turning.{last_next, length_turns}

module _ (turn : Turns) (first at n : ℕ) (each : (i former next : ℕ) → length (turn i former next) ≡ n) where
  abbrev done : ℕ → List Row
  done k = turns turn first at k

  -- the rows of the digit i, which begin at their own index
  abbrev pub digit : ℕ → List Row
  digit i = turn i (last_of first at (done i)) (at + n * i)

  pub long : (k : ℕ) → length (done k) ≡ n * k
  long = length_turns turn first at n each

  last_digit : (k r : ℕ) → get_or (done (suc k)) (n * k + r) Unknown ≡ get_or (digit k) r Unknown
  last_digit k r =
      let own : List Row = turn k (last_of first at (done k)) (at + length (done k)) in
      let less : n * k + r - n * k ≡ r = omega arith in
      get_or-append_right (done k) own (n * k) (n * k + r) Unknown (long k) (omega arith)
      ∙ ap (λ j. get_or own j Unknown) less
      ∙ ap (λ m. get_or (turn k (last_of first at (done k)) (at + m)) r Unknown) (long k)

  -- row r of the digit i is the row n * i + r of all
  pub in_turns : (k i r : ℕ) → i < k → r < n → get_or (done k) (n * i + r) Unknown ≡ get_or (digit i) r Unknown
  in_turns zero i r lt below = absurd (omega arith)
  in_turns (suc k) i r lt below =
      ⊎_elim
      (λ (e : i ≡ k). subst (λ (m : ℕ). get_or (done (suc k)) (n * m + r) Unknown ≡ get_or (digit m) r Unknown) (sym e) (last_digit k r))
      (λ (ne : i ≡ k → ⊥).
      let before : i + 1 ≤ k = omega (arith, ne) in
      let room : n * i + r < length (done k) = omega (arith, long k, mul-le-mul_left n before, mul-suc n i, add-one i) in
      get_or_append_left (done k) (turn k (last_of first at (done k)) (at + length (done k))) Unknown (n * i + r) room ∙ in_turns k i r (omega (arith, ne)) below)
      (cases_eq i k)

  -- the row before a digit, where digits have rows
  pub before_digit : 1 ≤ n → (i : ℕ) → 0 < i → last_of first at (done i) ≡ at + n * i - 1
  before_digit some i lt =
      let full : 1 ≤ length (done i) = omega (arith, long i, mul-le-mul_left n lt) in
      omega (arith, last_next first at (done i) full, long i)
