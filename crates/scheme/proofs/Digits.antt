-- The blocks that schemes share: that they are sound, and what they come to.
use Rattle.std.proofs.Common.{◌≡◌, ℕ, ◌+◌, ◌/◌, ◌%◌, ◌^◌, ◌<◌, min, Bool, true, false, cond, ◌&&◌, eqb, List, [], ◌∷◌, ◌++◌, ℤ, pos, sym, refl, ap, ◌∙◌, arith, lit<, pow_pos}
use Rattle.std.proofs.lemmas.Bool.{ne_eqb}
use Rattle.target.specs.declared.row.Sort.{Sort}
use Rattle.target.specs.declared.row.Sort.TheVariants as sort
use Rattle.target.specs.declared.row.Row.{Row}
use Rattle.target.specs.declared.row.Row.TheVariants.{Number}
use Rattle.target.specs.Values.{Val, int, bool, Reading, value_at}
use Rattle.target.specs.Meaning.{row_value}
use Rattle.target.specs.Soundness.{RowSound, Takes}
use Rattle.target.proofs.Blocks.{Each, HasSort, Obeys, all_each, each_front, each_back, each_join}
use Rattle.scheme.specs.Shared.{digit_rows, pair_rows, both_rows}
use Rattle.scheme.proofs.Ands.{both_bits}

module _ (s : ℕ → Sort) where
  pub digit_sound : (x weight base at : ℕ) → Takes s at sort.Int x → Takes s at sort.Int weight → Takes s at sort.Int base →
      Each (HasSort s) at (digit_rows x weight base at) → Each (RowSound s) at (digit_rows x weight base at)
  digit_sound x weight base at hx hw hb h =
      all_each (RowSound s) at (digit_rows x weight base at)
      ((hx, hw), (((omega arith, h 0 (lit< tt)), (omega arith, hb.1)), tt))

  pub pair_sound : (i a b two at : ℕ) → Takes s at sort.Int a → Takes s at sort.Int b → Takes s at sort.Int two →
      Each (HasSort s) at (pair_rows i a b two at) → Each (RowSound s) at (pair_rows i a b two at)
  pair_sound i a b two at ha hb h2 h =
      let w : List Row = Number (2 ^ i) ∷ [] in
      let p : List Row = digit_rows a at two (at + 1) in
      let q : List Row = digit_rows b at two (at + 3) in
      let bits : Each (HasSort s) (at + 1) (p ++ q) = each_back (HasSort s) at (at + 1) w (p ++ q) refl h in
      each_join (RowSound s) at (at + 1) w (p ++ q) refl (all_each (RowSound s) at w (tt, tt))
      (each_join (RowSound s) (at + 1) (at + 3) p q (omega arith)
      (digit_sound a at two (at + 1) (omega arith, ha.1) (omega arith, h 0 (lit< tt)) (omega arith, h2.1) (each_front (HasSort s) (at + 1) p q bits))
      (digit_sound b at two (at + 3) (omega arith, hb.1) (omega arith, h 0 (lit< tt)) (omega arith, h2.1) (each_back (HasSort s) (at + 1) (at + 3) p q (omega arith) bits)))

  pub both_sound : (p q naught one at : ℕ) → Takes s at sort.Int p → Takes s at sort.Int q → Takes s at sort.Int naught → Takes s at sort.Int one →
      Each (HasSort s) at (both_rows p q naught one at) → Each (RowSound s) at (both_rows p q naught one at)
  both_sound p q naught one at hp hq h0 h1 h =
      all_each (RowSound s) at (both_rows p q naught one at) (
        (hp.0, (h1.0, h1.1 ∙ sym hp.1)),
        (
          (omega arith, (omega arith, h1.1 ∙ sym hq.1)),
          (
            ((omega arith, h 0 (lit< tt)), (omega arith, h 1 (lit< tt))),
            (((omega arith, h 2 (lit< tt)), (omega arith, h1.1), (omega arith, h0.1)), tt),
          ),
        ),
      )

-- 1 or 0 as a value
choice : (q : Bool) → cond q (int (pos 1)) (int (pos 0)) ≡ int (pos (cond q 1 0))
choice true = refl
choice false = refl

module _ (reading : Reading) (numbers : ℕ → ℤ) (vs : List Val) where
  abbrev Has : ℕ → ℕ → Type 0
  Has i n = value_at vs i ≡ int (pos n)

  -- the digit of n at the weight w, by the base m
  pub digit_value : (x weight base at n w m : ℕ) → 0 < w → 0 < m → Has x n → Has weight w → Has base m →
      Each (Obeys reading numbers vs) at (digit_rows x weight base at) → Has (at + 1) (n / w % m)
  unfolding row_value
  digit_value x weight base at n w m hw hm ex ew eb h =
      let by-w : eqb w 0 ≡ false = ne_eqb w 0 (λ e. omega arith) in
      let by-m : eqb m 0 ≡ false = ne_eqb m 0 (λ e. omega arith) in
      let v : Has at (n / w) = h 0 (lit< tt) ∙ rw (ex, ew, by-w) in
      h 1 (lit< tt) ∙ rw (v, eb, by-m)

  pub record Pair (i at m n : ℕ) : Type 0 where
    pub heavy : Has at (2 ^ i)
    pub left : Has (at + 2) (m / 2 ^ i % 2)
    pub right : Has (at + 4) (n / 2 ^ i % 2)

  -- the weight and the bits i of two numbers
  pub pair_value : (i a b two at m n : ℕ) → Has a m → Has b n → Has two 2 → Each (Obeys reading numbers vs) at (pair_rows i a b two at) → Pair i at m n
  unfolding row_value
  pair_value i a b two at m n ea eb e2 h =
      let w : List Row = Number (2 ^ i) ∷ [] in
      let p : List Row = digit_rows a at two (at + 1) in
      let q : List Row = digit_rows b at two (at + 3) in
      let O : ℕ → Row → Type 0 = Obeys reading numbers vs in
      let bits : Each O (at + 1) (p ++ q) = each_back O at (at + 1) w (p ++ q) refl h in
      let v : Has at (2 ^ i) = h 0 (lit< tt) in
      let two-on : at + 1 + 1 ≡ at + 2 = omega arith in
      let four-on : at + 3 + 1 ≡ at + 4 = omega arith in
      record {
        heavy = v;
        left = ap (value_at vs) (sym two-on) ∙ digit_value a at two (at + 1) m (2 ^ i) 2 (pow_pos i) (lit< tt) ea v e2 (each_front O (at + 1) p q bits);
        right = ap (value_at vs) (sym four-on) ∙ digit_value b at two (at + 3) n (2 ^ i) 2 (pow_pos i) (lit< tt) eb v e2 (each_back O (at + 1) (at + 3) p q (omega arith) bits);
      }

  -- the and of two bits
  pub both_value : (p q naught one at m n : ℕ) → m < 2 → n < 2 → Has p m → Has q n → Has naught 0 → Has one 1 →
      Each (Obeys reading numbers vs) at (both_rows p q naught one at) → Has (at + 3) (min m n)
  unfolding row_value
  both_value p q naught one at m n hm hn ep eq e0 e1 h =
      let l : value_at vs at ≡ bool (eqb m 1) = h 0 (lit< tt) ∙ rw (ep, e1) in
      let r : value_at vs (at + 1) ≡ bool (eqb n 1) = h 1 (lit< tt) ∙ rw (eq, e1) in
      let both : value_at vs (at + 2) ≡ bool (eqb m 1 && eqb n 1) = h 2 (lit< tt) ∙ rw (l, r) in
      h 3 (lit< tt) ∙ rw (both, e1, e0) (choice (eqb m 1 && eqb n 1) ∙ ap (λ t. int (pos t)) (both_bits m n hm hn))
