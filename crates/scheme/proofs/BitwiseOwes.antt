-- The rows of bitwise are sound, and its answer says whether c is the bitwise and.
use Rattle.std.proofs.Common.{◌≡◌, ℕ, suc, ◌+◌, ◌*◌, ◌/◌, ◌%◌, ◌^◌, ◌<◌, min, Bool, true, ◌&&◌, eqb, List, [], ◌∷◌, length, ℤ, pos, sym, refl, ap, ◌∙◌, mod-eq_of_lt, arith, lit<, pow_pos}
use lib.Bits.{bit_and}
use Rattle.std.proofs.lemmas.Bool.{eq-eqb}
use Rattle.target.specs.declared.row.Sort.{Sort}
use Rattle.target.specs.declared.row.Sort.TheVariants as sort
use Rattle.target.specs.declared.row.Row.{Row}
use Rattle.target.specs.declared.row.Row.TheVariants.{Number, Truth, Equal, And}
use Rattle.target.specs.Values.{Val, int, bool, Reading, value_at}
use Rattle.target.specs.Meaning.{row_value}
use Rattle.target.specs.Soundness.{RowSound, Takes}
use Rattle.target.proofs.Blocks.{Each, HasSort, Obeys, all_each, each_back, each_join}
use Rattle.scheme.specs.declared.base.Base.{Base}
use Rattle.scheme.specs.declared.lemma.Lemma.{Lemma}
use Rattle.scheme.specs.Shared.{digit_rows, base_of, last_of, turns}
use Rattle.scheme.specs.BitwiseRows.{bitwise_turn, bitwise_rows, bitwise_size}
use Rattle.scheme.proofs.Ands.{and_bit, and_whole, same_more}
use Rattle.scheme.proofs.Digits.{digit_sound, digit_value}
use Rattle.scheme.proofs.Bits.{of_mid, bits_sound, bits_value}
use Rattle.scheme.proofs.Grounds.{Whole, Given, Ground, Known, ground, known_base}
use Rattle.scheme.proofs.Turning.{length_turns, last_on}
use Rattle.scheme.proofs.TurnLaws.{turns_known, turns_end, turns_sound}
use Rattle.scheme.proofs.Owed.{Owes}

-- one turn, from its index on: `former` says whether the bits before it agree
module _ (base : Base) (i former at : ℕ) where
  abbrev digit : List Row
  digit = digit_rows base.lemma.c at base.two (at + 5)

  abbrev agree : List Row
  agree = Equal (at + 6) (at + 10) ∷ And former (at + 11) ∷ []

  turn_sound : (s : ℕ → Sort) → Ground s at base → Takes s at sort.Bool former → Each (HasSort s) at (bitwise_turn base i former at) → Each (RowSound s) at (bitwise_turn base i former at)
  turn_sound s g hf h =
      bits_sound base i at (at + 7) (at + 11) digit agree (omega arith) (omega arith) s g h
      (digit_sound s base.lemma.c at base.two (at + 5) (omega (arith, g.operands.c.0), g.operands.c.1) (omega arith, h 0 (lit< tt)) (omega (arith, g.two.0), g.two.1)
      (of_mid base i at (at + 7) (at + 11) digit agree (omega arith) (omega arith) (HasSort s) h))
      (all_each (RowSound s) (at + 11) agree
      ((omega arith, (omega arith, h 10 (lit< tt) ∙ sym (h 6 (lit< tt)))), (((omega (arith, hf.0), hf.1), (omega arith, h 11 (lit< tt))), tt)))

  turn_value : (reading : Reading) (numbers : ℕ → ℤ) (vs : List Val) (x y z : ℕ) (t : Bool) → Known vs base x y z → value_at vs former ≡ bool t →
      Each (Obeys reading numbers vs) at (bitwise_turn base i former at) →
      value_at vs (at + 12) ≡ bool (t && eqb (z / 2 ^ i % 2) (min (x / 2 ^ i % 2) (y / 2 ^ i % 2)))
  unfolding row_value
  turn_value reading numbers vs x y z t k et h =
      let bits = bits_value base i at (at + 7) (at + 11) digit agree (omega arith) (omega arith) reading numbers vs x y z k h in
      let six : at + 6 ≡ at + 5 + 1 = omega arith in
      let ten : at + 10 ≡ at + 7 + 3 = omega arith in
      let d : value_at vs (at + 6) ≡ int (pos (z / 2 ^ i % 2)) =
      ap (value_at vs) six
      ∙ digit_value reading numbers vs base.lemma.c at base.two (at + 5) z (2 ^ i) 2 (pow_pos i) (lit< tt) k.operands.c bits.heavy k.two
      (of_mid base i at (at + 7) (at + 11) digit agree (omega arith) (omega arith) (Obeys reading numbers vs) h) in
      let q : value_at vs (at + 10) ≡ int (pos (min (x / 2 ^ i % 2) (y / 2 ^ i % 2))) = ap (value_at vs) ten ∙ bits.and in
      let v : value_at vs (at + 11) ≡ bool (eqb (z / 2 ^ i % 2) (min (x / 2 ^ i % 2) (y / 2 ^ i % 2))) = h 11 (lit< tt) ∙ rw (d, q) in
      h 12 (lit< tt) ∙ rw (et, v)

-- all rows
module _ (count : ℕ) (l : Lemma) where
  abbrev turn : ℕ → ℕ → ℕ → List Row
  turn = bitwise_turn (base_of count l)

  abbrev bits : List Row
  bits = turns turn (count + 3) (count + 4) l.k

  abbrev begin : List Row
  begin = Number 0 ∷ Number 1 ∷ Number 2 ∷ Truth true ∷ []

  pub bitwise_bits_length : length bits ≡ 13 * l.k
  bitwise_bits_length = length_turns turn (count + 3) (count + 4) 13 (λ i f p. refl) l.k

  pub bitwise_last : last_of (count + 3) (count + 4) bits ≡ count + (13 * l.k + 3)
  bitwise_last = omega (arith, last_on (count + 3) (count + 4) bits (omega arith), bitwise_bits_length)

  bits_of : (P : ℕ → Row → Type 0) → Each P count (bitwise_rows count l) → Each P (count + 4) bits
  bits_of P h = each_back P count (count + 4) begin bits refl h

  sound : (s : ℕ → Sort) → Whole s count l → Each (HasSort s) count (bitwise_rows count l) → Each (RowSound s) count (bitwise_rows count l)
  sound s w h =
      each_join (RowSound s) count (count + 4) begin bits refl (all_each (RowSound s) count begin (tt, (tt, (tt, (tt, tt)))))
      (turns_sound turn (count + 3) (count + 4) s sort.Bool (omega arith, h 3 (omega arith))
      (λ i f p le tf t.
      turn_sound (base_of count l) i f p s (ground count l (Truth true ∷ bits) s w h p (omega arith)) tf t)
      (λ i f p t. (omega arith, t 12 (lit< tt))) l.k (bits_of (HasSort s) h))

  boolean : (s : ℕ → Sort) → Each (HasSort s) count (bitwise_rows count l) → s (count + (13 * l.k + 3)) ≡ sort.Bool
  boolean s h =
      ap s (sym bitwise_last)
      ∙ turns_end turn (count + 3) (count + 4) (λ i f p. s f ≡ sort.Bool) (HasSort s) (h 3 (omega arith)) l.k (λ i f p lt le q t. t 12 (lit< tt)) (bits_of (HasSort s) h)

  means : (reading : Reading) (numbers : ℕ → ℤ) (vs : List Val) (x y z : ℕ) → x < 2 ^ l.k → y < 2 ^ l.k → z < 2 ^ l.k →
      Given vs l x y z → Each (Obeys reading numbers vs) count (bitwise_rows count l) →
      value_at vs (count + (13 * l.k + 3)) ≡ bool (eqb z (bit_and x y))
  unfolding row_value
  means reading numbers vs x y z hx hy hz v h =
      let O : ℕ → Row → Type 0 = Obeys reading numbers vs in
      let Q : ℕ → ℕ → ℕ → Type 0 = λ i f p. value_at vs f ≡ bool (eqb (z % 2 ^ i) (bit_and x y % 2 ^ i)) in
      let none : eqb (z % 2 ^ 0) (bit_and x y % 2 ^ 0) ≡ true = eq-eqb (z % 2 ^ 0) (bit_and x y % 2 ^ 0) (omega arith) in
      let more : (i : ℕ) → eqb (z % 2 ^ i) (bit_and x y % 2 ^ i) && eqb (z / 2 ^ i % 2) (min (x / 2 ^ i % 2) (y / 2 ^ i % 2)) ≡ eqb (z % 2 ^ suc i) (bit_and x y % 2 ^ suc i) = λ i.
      ap (λ n. eqb (z % 2 ^ i) (bit_and x y % 2 ^ i) && eqb (z / 2 ^ i % 2) n) (sym (and_bit x y i)) ∙ same_more z (bit_and x y) i in
      ap (value_at vs) (sym bitwise_last)
      ∙ turns_end turn (count + 3) (count + 4) Q O (h 3 (omega arith) ∙ ap bool (sym none)) l.k
      (λ i f p lt le q r.
      turn_value (base_of count l) i f p reading numbers vs x y z (eqb (z % 2 ^ i) (bit_and x y % 2 ^ i)) (known_base count l (Truth true ∷ bits) reading numbers vs x y z v h) q r
      ∙ ap bool (more i))
      (bits_of O h)
      ∙ ap bool (ap (λ n. eqb n (bit_and x y % 2 ^ l.k)) (mod-eq_of_lt hz) ∙ ap (eqb z) (and_whole l.k x y hx hy))

  pub bitwise_owes : Owes (bitwise_size l.k) count l (bitwise_rows count l) (count + (13 * l.k + 3))
  bitwise_owes = record {
    long = omega (arith, bitwise_bits_length);
    known = omega (arith, turns_known turn (count + 3) (count + 4) (λ i f p. refl) l.k);
    low = omega arith;
    high = omega arith;
    sound = sound;
    boolean = boolean;
    means = means;
  }
