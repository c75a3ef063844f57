-- The image of each comparison and of the bitwise operations.
use Rattle.std.proofs.Common.{◌≡◌, ℕ, ◌+◌, ◌-◌, ◌*◌, ◌%◌, ◌^◌, ◌<◌, ◌≤◌, ltb, leb, List, [], ◌∷◌, ◌++◌, ℤ, pos, ◌-ℤ◌, ap, ◌∙◌, mod-eq_of_lt, arith, lit<, pow_pos}
use lib.Bits.{bit_and, bit_or, bit_xor, and_lt, xor_lt}
use Rattle.source.specs.declared.operator.Operator.TheVariants.{BvOr, BvXor, BvUlt, BvUle, BvUgt, BvUge, BvSlt, BvSle, BvSgt, BvSge}
use Rattle.source.specs.Numbers.{signed, signed_less, signed_at_most}
use Rattle.target.specs.declared.row.Row.{Row}
use Rattle.target.specs.declared.row.Row.TheVariants.{Sub, Times, Rem, Less, AtMost}
use Rattle.target.specs.Values.{Val, int, bool, Reading, value_at}
use Rattle.target.specs.Meaning.{row_value}
use Rattle.target.proofs.Blocks.{Each, Obeys, each_front}
use Rattle.rows.specs.declared.operands.Operands.{Operands}
use Rattle.rows.specs.Rows.{signed_rows, or_rows, rows_of}
use Rattle.rows.proofs.Whole.{rem_is, rem_sub, sign, or_is, xor_is}
use Rattle.rows.proofs.Ends.{Ends}
use Rattle.rows.proofs.Images.{Num}

module _ (reading : Reading) (numbers : ℕ → ℤ) (vs : List Val) (o : Operands) (at x y : ℕ) (some : 1 ≤ o.k)
    (p : Num vs o.a o.k o.left x) (q : Num vs o.b o.k o.right y) where
  abbrev O : ℕ → Row → Type 0
  O = Obeys reading numbers vs

  ea : value_at vs o.a ≡ int (pos x)
  ea = p.is

  eb : value_at vs o.b ≡ int (pos y)
  eb = q.is

  pub ult_ends : Ends reading numbers vs o.c at (rows_of BvUlt o at) (bool (ltb x y))
  unfolding row_value
  ult_ends h = h 0 (lit< tt) ∙ rw (ea, eb)

  pub ule_ends : Ends reading numbers vs o.c at (rows_of BvUle o at) (bool (leb x y))
  unfolding row_value
  ule_ends h = h 0 (lit< tt) ∙ rw (ea, eb)

  pub ugt_ends : Ends reading numbers vs o.c at (rows_of BvUgt o at) (bool (ltb y x))
  unfolding row_value
  ugt_ends h = h 0 (lit< tt) ∙ rw (eb, ea)

  pub uge_ends : Ends reading numbers vs o.c at (rows_of BvUge o at) (bool (leb y x))
  unfolding row_value
  uge_ends h = h 0 (lit< tt) ∙ rw (eb, ea)

  -- the signed number of an operand: the remainder by 2 ^ (k − 1), twice it, minus the operand
  sign_value : (row m half two rest twice last : ℕ) → value_at vs row ≡ int (pos m) → m < 2 ^ o.k → value_at vs half ≡ int (pos (2 ^ (o.k - 1))) → value_at vs two ≡ int (pos 2) →
      O rest (Rem row half) → O twice (Times two rest) → O last (Sub twice row) → value_at vs last ≡ int (signed o.k m)
  unfolding row_value
  sign_value row m half two rest twice last er hm eh e2 es et el =
      let v1 : value_at vs rest ≡ int (pos (m % 2 ^ (o.k - 1))) = es ∙ rw (er, eh) (ap int (rem_is reading (pos m) (2 ^ (o.k - 1)) (pow_pos (o.k - 1)))) in
      let v2 : value_at vs twice ≡ int (pos (2 * (m % 2 ^ (o.k - 1)))) = et ∙ rw (e2, v1) in
      el ∙ rw (v2, er) (ap int (sign o.k m some hm))

  -- both signed numbers, before the row that compares them
  both_signed : (last : Row) → Each O at (signed_rows o.k o.a o.b at ++ (last ∷ [])) →
      (value_at vs (at + 4) ≡ int (signed o.k x)) × (value_at vs (at + 7) ≡ int (signed o.k y))
  unfolding row_value
  both_signed last s =
      let h : Each O at (signed_rows o.k o.a o.b at) = each_front O at (signed_rows o.k o.a o.b at) (last ∷ []) s in
      let v0 : value_at vs at ≡ int (pos (2 ^ (o.k - 1))) = h 0 (lit< tt) in
      let v1 : value_at vs (at + 1) ≡ int (pos 2) = h 1 (lit< tt) in (
        sign_value o.a x at (at + 1) (at + 2) (at + 3) (at + 4) ea p.below v0 v1 (h 2 (lit< tt)) (h 3 (lit< tt)) (h 4 (lit< tt)),
        sign_value o.b y at (at + 1) (at + 5) (at + 6) (at + 7) eb q.below v0 v1 (h 5 (lit< tt)) (h 6 (lit< tt)) (h 7 (lit< tt)),
      )

  pub slt_ends : Ends reading numbers vs o.c at (rows_of BvSlt o at) (bool (signed_less o.k x y))
  unfolding row_value
  slt_ends h = let s = both_signed (Less (at + 4) (at + 7)) h in h 8 (lit< tt) ∙ rw (s.0, s.1)

  pub sle_ends : Ends reading numbers vs o.c at (rows_of BvSle o at) (bool (signed_at_most o.k x y))
  unfolding row_value
  sle_ends h = let s = both_signed (AtMost (at + 4) (at + 7)) h in h 8 (lit< tt) ∙ rw (s.0, s.1)

  pub sgt_ends : Ends reading numbers vs o.c at (rows_of BvSgt o at) (bool (signed_less o.k y x))
  unfolding row_value
  sgt_ends h = let s = both_signed (Less (at + 7) (at + 4)) h in h 8 (lit< tt) ∙ rw (s.1, s.0)

  pub sge_ends : Ends reading numbers vs o.c at (rows_of BvSge o at) (bool (signed_at_most o.k y x))
  unfolding row_value
  sge_ends h = let s = both_signed (AtMost (at + 7) (at + 4)) h in h 8 (lit< tt) ∙ rw (s.1, s.0)

  -- or and xor, by the and-unknown
  module _ (ec : value_at vs o.c ≡ int (pos (bit_and x y))) where
    pub or_ends : Ends reading numbers vs o.c at (rows_of BvOr o at) (int (pos (bit_or x y)))
    unfolding row_value
    or_ends h =
        let k : ℕ = o.k in
        let v0 : value_at vs at ≡ int (pos (x + y)) = h 0 (lit< tt) ∙ rw (ea, eb) in
        let v1 : value_at vs (at + 1) ≡ int (pos (2 ^ k)) = h 1 (lit< tt) in
        let v2 : value_at vs (at + 2) ≡ int (pos ((x + y) % 2 ^ k)) = h 2 (lit< tt) ∙ rw (v0, v1) (ap int (rem_is reading (pos (x + y)) (2 ^ k) (pow_pos k))) in
        let v3 : value_at vs (at + 3) ≡ int (pos ((x + y) % 2 ^ k) -ℤ pos (bit_and x y)) = h 3 (lit< tt) ∙ rw (v2, ec) in
        let small : bit_and x y < 2 ^ k = and_lt k x y p.below q.below in
        h 4 (lit< tt)
        ∙ rw (v3, v1) (ap int (rem_is reading _ (2 ^ k) (pow_pos k) ∙ rem_sub _ (bit_and x y) (2 ^ k) (pow_pos k) (omega arith) ∙ ap pos (or_is k x y p.below q.below)))

    pub xor_ends : Ends reading numbers vs o.c at (rows_of BvXor o at) (int (pos (bit_xor x y)))
    unfolding row_value
    xor_ends h =
        let k : ℕ = o.k in
        let v1 : value_at vs (at + 1) ≡ int (pos (2 ^ k)) = h 1 (lit< tt) in
        let v4 : value_at vs (at + 4) ≡ int (pos (bit_or x y)) = or_ends (each_front O at (or_rows k o.a o.b o.c at) (Sub (at + 4) o.c ∷ Rem (at + 5) (at + 1) ∷ []) h) in
        let v5 : value_at vs (at + 5) ≡ int (pos (bit_xor x y)) = h 5 (lit< tt) ∙ rw (v4, ec) (ap int (xor_is x y)) in
        h 6 (lit< tt) ∙ rw (v5, v1) (ap int (rem_is reading _ (2 ^ k) (pow_pos k) ∙ ap pos (mod-eq_of_lt (xor_lt k x y p.below q.below))))
