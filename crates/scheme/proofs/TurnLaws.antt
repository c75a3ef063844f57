-- Turns one after another: that they are sound, have no unknowns, and what they come to.
use Rattle.std.proofs.Common.{◌≡◌, ℕ, zero, suc, ◌+◌, ◌<◌, ◌≤◌, List, ◌++◌, length, sym, refl, ◌∙◌, subst, add-zero, arith, length-append}
use Rattle.target.specs.declared.row.Sort.{Sort}
use Rattle.target.specs.declared.row.Row.{Row}
use Rattle.target.specs.Meaning.{unknowns}
use Rattle.target.specs.Soundness.{RowSound, Takes}
use Rattle.target.proofs.Blocks.{Each, HasSort, each_front, each_back, each_join, unknowns-++}
use Rattle.scheme.specs.Shared.{Turns, turns, last_of}
use Rattle.scheme.proofs.Turning.{last-++, turn_at}

module _ (turn : Turns) (first at : ℕ) where
  abbrev done : ℕ → List Row
  done i = turns turn first at i

  -- where the turn i begins, and the row before it
  abbrev here : ℕ → ℕ
  here i = at + length (done i)

  abbrev former : ℕ → ℕ
  former i = last_of first at (done i)

  pub turns_known : ((i f p : ℕ) → unknowns (turn i f p) ≡ 0) → (k : ℕ) → unknowns (done k) ≡ 0
  turns_known each zero = refl
  turns_known each (suc k) = unknowns-++ (done k) (turn_at turn first at k) ∙ omega (arith, turns_known each k, each k (former k) (here k))

  -- What holds of each turn's end, if the turns pass it on: Q i f p of the turn i that begins at p, after the row f.
  pub turns_end : (Q : ℕ → ℕ → ℕ → Type 0) (P : ℕ → Row → Type 0) → Q 0 first at →
      (k : ℕ) → ((i f p : ℕ) → i < k → at ≤ p → Q i f p → Each P p (turn i f p) → Q (suc i) (last_of f p (turn i f p)) (p + length (turn i f p))) →
      Each P at (done k) → Q k (former k) (here k)
  turns_end Q P start zero step h = subst (Q 0 first) (sym (add-zero at)) start
  turns_end Q P start (suc k) step h =
      let xs : List Row = done k in
      let ys : List Row = turn_at turn first at k in
      let before : Q k (former k) (here k) = turns_end Q P start k (λ i f p lt. step i f p (omega arith)) (each_front P at xs ys h) in
      let after : Q (suc k) (last_of (former k) (here k) ys) (here k + length ys) =
      step k (former k) (here k) (omega arith) (omega arith) before (each_back P at (here k) xs ys refl h) in
      let long : here k + length ys ≡ at + length (xs ++ ys) = omega (arith, length-append xs ys) in
      subst (λ p. Q (suc k) (last_of first at (xs ++ ys)) p) long (subst (λ f. Q (suc k) f (here k + length ys)) (sym (last-++ first at xs ys)) after)

  -- turns are sound, if each is after an earlier row of the sort t, and ends with one
  module _ (s : ℕ → Sort) (t : Sort) (start : Takes s at t first)
      (turn_sound : (i f p : ℕ) → at ≤ p → Takes s p t f → Each (HasSort s) p (turn i f p) → Each (RowSound s) p (turn i f p))
      (turn-ends : (i f p : ℕ) → Each (HasSort s) p (turn i f p) → Takes s (p + length (turn i f p)) t (last_of f p (turn i f p))) where
    pub turns_end_sound : (k : ℕ) → Each (HasSort s) at (done k) → Takes s (here k) t (former k)
    turns_end_sound k = turns_end (λ i f p. Takes s p t f) (HasSort s) start k (λ i f p lt le q h. turn-ends i f p h)

    pub turns_sound : (k : ℕ) → Each (HasSort s) at (done k) → Each (RowSound s) at (done k)
    turns_sound zero h = λ j lt. absurd (omega arith)
    turns_sound (suc k) h =
        let xs : List Row = done k in
        let ys : List Row = turn_at turn first at k in
        let before : Each (HasSort s) at xs = each_front (HasSort s) at xs ys h in
        each_join (RowSound s) at (here k) xs ys refl (turns_sound k before)
        (turn_sound k (former k) (here k) (omega arith) (turns_end_sound k before) (each_back (HasSort s) at (here k) xs ys refl h))
