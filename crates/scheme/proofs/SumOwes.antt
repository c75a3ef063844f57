-- The rows of sum are sound, and its answer says whether c is the bitwise and.
use Rattle.std.proofs.Common.{◌≡◌, ℕ, suc, ◌+◌, ◌*◌, ◌/◌, ◌%◌, ◌^◌, ◌<◌, ◌≤◌, min, eqb, List, [], ◌∷◌, ◌++◌, length, ℤ, pos, sym, refl, ap, ◌∙◌, add_comm, arith, lit<, length-append}
use lib.Bits.{bit_and}
use Rattle.target.specs.declared.row.Sort.{Sort}
use Rattle.target.specs.declared.row.Sort.TheVariants as sort
use Rattle.target.specs.declared.row.Row.{Row}
use Rattle.target.specs.declared.row.Row.TheVariants.{Number, Times, Add, Equal}
use Rattle.target.specs.Values.{Val, int, bool, Reading, value_at}
use Rattle.target.specs.Meaning.{row_value, unknowns}
use Rattle.target.specs.Soundness.{RowSound, Takes}
use Rattle.target.proofs.Blocks.{Each, HasSort, Obeys, all_each, each_front, each_back, each_join, unknowns-++}
use Rattle.scheme.specs.declared.base.Base.{Base}
use Rattle.scheme.specs.declared.lemma.Lemma.{Lemma}
use Rattle.scheme.specs.Shared.{base_of, last_of, turns}
use Rattle.scheme.specs.SumRows.{sum_turn, sum_rows, sum_size}
use Rattle.scheme.proofs.Ands.{bits_more, and_bit, and_whole}
use Rattle.scheme.proofs.Bits.{bits_sound, bits_value}
use Rattle.scheme.proofs.Grounds.{Whole, Given, Ground, Known, ground, known_base}
use Rattle.scheme.proofs.Turning.{length_turns}
use Rattle.scheme.proofs.TurnLaws.{turns_known, turns_end, turns_end_sound, turns_sound}
use Rattle.scheme.proofs.Owed.{Owes}

-- one turn, from its index on: `total` is the total before it
module _ (base : Base) (i total at : ℕ) where
  abbrev sums : List Row
  sums = Times at (at + 8) ∷ Add total (at + 9) ∷ []

  pub turn_sound : (s : ℕ → Sort) → Ground s at base → Takes s at sort.Int total → Each (HasSort s) at (sum_turn base i total at) → Each (RowSound s) at (sum_turn base i total at)
  turn_sound s g ht h =
      bits_sound base i at (at + 5) (at + 9) [] sums (omega arith) (omega arith) s g h (λ j lt. absurd (omega arith))
      (all_each (RowSound s) (at + 9) sums
      (((omega arith, h 0 (lit< tt)), (omega arith, h 8 (lit< tt))), (((omega (arith, ht.0), ht.1), (omega arith, h 9 (lit< tt))), tt)))

  pub turn_value : (reading : Reading) (numbers : ℕ → ℤ) (vs : List Val) (x y z t : ℕ) → Known vs base x y z → value_at vs total ≡ int (pos t) →
      Each (Obeys reading numbers vs) at (sum_turn base i total at) →
      value_at vs (at + 10) ≡ int (pos (t + 2 ^ i * min (x / 2 ^ i % 2) (y / 2 ^ i % 2)))
  unfolding row_value
  turn_value reading numbers vs x y z t k et h =
      let bits = bits_value base i at (at + 5) (at + 9) [] sums (omega arith) (omega arith) reading numbers vs x y z k h in
      let eight : at + 8 ≡ at + 5 + 3 = omega arith in
      let w : value_at vs at ≡ int (pos (2 ^ i)) = bits.heavy in
      let q : value_at vs (at + 8) ≡ int (pos (min (x / 2 ^ i % 2) (y / 2 ^ i % 2))) = ap (value_at vs) eight ∙ bits.and in
      let v : value_at vs (at + 9) ≡ int (pos (2 ^ i * min (x / 2 ^ i % 2) (y / 2 ^ i % 2))) = h 9 (lit< tt) ∙ rw (w, q) in
      h 10 (lit< tt) ∙ rw (et, v)

-- all rows
module _ (count : ℕ) (l : Lemma) where
  abbrev turn : ℕ → ℕ → ℕ → List Row
  turn = sum_turn (base_of count l)

  abbrev bits : List Row
  bits = turns turn count (count + 3) l.k

  abbrev begin : List Row
  begin = Number 0 ∷ Number 1 ∷ Number 2 ∷ []

  abbrev total : ℕ
  total = last_of count (count + 3) bits

  abbrev end : List Row
  end = Equal l.c total ∷ []

  pub sum_bits_length : length bits ≡ 11 * l.k
  sum_bits_length = length_turns turn count (count + 3) 11 (λ i f p. refl) l.k

  pub sum_length : length (sum_rows count l) ≡ sum_size l.k
  sum_length = omega (arith, length-append bits end, sum_bits_length)

  known : unknowns (sum_rows count l) ≡ 0
  known = omega (arith, unknowns-++ bits end, turns_known turn count (count + 3) (λ i f p. refl) l.k)

  place_last : count + (11 * l.k + 3) ≡ count + 3 + length bits
  place_last = omega (arith, sum_bits_length)

  -- the bits and the end of what holds of each row
  bits_of : (P : ℕ → Row → Type 0) → Each P count (sum_rows count l) → Each P (count + 3) bits
  bits_of P h = each_front P (count + 3) bits end (each_back P count (count + 3) begin (bits ++ end) refl h)

  end_of : (P : ℕ → Row → Type 0) → Each P count (sum_rows count l) → P (count + 3 + length bits) (Equal l.c total)
  end_of P h = each_back P (count + 3) (count + 3 + length bits) bits end refl (each_back P count (count + 3) begin (bits ++ end) refl h) 0 (lit< tt)

  sound : (s : ℕ → Sort) → Whole s count l → Each (HasSort s) count (sum_rows count l) → Each (RowSound s) count (sum_rows count l)
  sound s w h =
      let steady : (i f p : ℕ) → count + 3 ≤ p → Takes s p sort.Int f → Each (HasSort s) p (turn i f p) → Each (RowSound s) p (turn i f p) = λ i f p le tf t.
      turn_sound (base_of count l) i f p s (ground count l (bits ++ end) s w h p le) tf t in
      let ends : (i f p : ℕ) → Each (HasSort s) p (turn i f p) → Takes s (p + 11) sort.Int (p + 10) = λ i f p t. (omega arith, t 10 (lit< tt)) in
      let first : Takes s (count + 3) sort.Int count = (omega arith, h 0 (omega arith)) in
      let last : Takes s (count + 3 + length bits) sort.Int total = turns_end_sound turn count (count + 3) s sort.Int first steady ends l.k (bits_of (HasSort s) h) in
      each_join (RowSound s) count (count + 3) begin (bits ++ end) refl (all_each (RowSound s) count begin (tt, (tt, (tt, tt))))
      (each_join (RowSound s) (count + 3) (count + 3 + length bits) bits end refl
      (turns_sound turn count (count + 3) s sort.Int first steady ends l.k (bits_of (HasSort s) h))
      (all_each (RowSound s) (count + 3 + length bits) end ((omega arith, (last.0, last.1 ∙ sym w.c.1)), tt)))

  means : (reading : Reading) (numbers : ℕ → ℤ) (vs : List Val) (x y z : ℕ) → x < 2 ^ l.k → y < 2 ^ l.k → z < 2 ^ l.k →
      Given vs l x y z → Each (Obeys reading numbers vs) count (sum_rows count l) →
      value_at vs (count + (11 * l.k + 3)) ≡ bool (eqb z (bit_and x y))
  unfolding row_value
  means reading numbers vs x y z hx hy hz v h =
      let O : ℕ → Row → Type 0 = Obeys reading numbers vs in
      let Q : ℕ → ℕ → ℕ → Type 0 = λ i f p. value_at vs f ≡ int (pos (bit_and x y % 2 ^ i)) in
      let more : (i : ℕ) → bit_and x y % 2 ^ i + 2 ^ i * min (x / 2 ^ i % 2) (y / 2 ^ i % 2) ≡ bit_and x y % 2 ^ suc i = λ i.
      add_comm (bit_and x y % 2 ^ i) (2 ^ i * min (x / 2 ^ i % 2) (y / 2 ^ i % 2))
      ∙ ap (λ n. 2 ^ i * n + bit_and x y % 2 ^ i) (sym (and_bit x y i)) ∙ sym (bits_more (bit_and x y) i) in
      let t : value_at vs total ≡ int (pos (bit_and x y % 2 ^ l.k)) =
      turns_end turn count (count + 3) Q O (h 0 (omega arith) ∙ ap (λ n. int (pos n)) (omega arith)) l.k
      (λ i f p lt le q r.
      turn_value (base_of count l) i f p reading numbers vs x y z (bit_and x y % 2 ^ i) (known_base count l (bits ++ end) reading numbers vs x y z v h) q r
      ∙ ap (λ n. int (pos n)) (more i))
      (bits_of O h) in
      let whole : value_at vs total ≡ int (pos (bit_and x y)) = t ∙ ap (λ n. int (pos n)) (and_whole l.k x y hx hy) in
      ap (value_at vs) place_last ∙ end_of O h ∙ rw (v.c, whole)

  pub sum_owes : Owes (sum_size l.k) count l (sum_rows count l) (count + (11 * l.k + 3))
  sum_owes = record {
    long = sum_length;
    known = known;
    low = omega arith;
    high = omega arith;
    sound = sound;
    boolean = λ s h. ap s place_last ∙ end_of (HasSort s) h;
    means = means;
  }
