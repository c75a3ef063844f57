-- The image of each operation on numbers: what its rows come to, over any list of values that obeys them.
use Rattle.std.proofs.Common.{◌≡◌, ℕ, ◌+◌, ◌-◌, ◌*◌, ◌/◌, ◌%◌, ◌^◌, ◌<◌, ◌≤◌, Bool, true, false, cond, eqb, ltb, leb, List, [], ◌∷◌, ℤ, pos, ◌-ℤ◌, sym, refl, ap, ◌∙◌, le_refl, mod-eq_of_lt, arith, lit<, pow_pos}
use Rattle.std.proofs.lemmas.Nat.{mul-le}
use Rattle.std.proofs.lemmas.Int.{ints}
use Rattle.std.proofs.lemmas.Bool.{ne_eqb, cond_both, leb-true, ltb-true}
use Rattle.source.specs.declared.operator.Operator.TheVariants.{BvNot, BvNeg, BvAdd, BvSub, BvMul, BvUdiv, BvUrem, Extract, Concat, BvLshr, BvShl}
use Rattle.source.specs.Numbers.{complement, negated, sum, difference, product, quotient, remainder, extracted, joined, shifted_right, shifted_left}
use Rattle.target.specs.declared.row.Row.{Row}
use Rattle.target.specs.declared.row.Row.TheVariants.{Number, Add, Sub, Times, Quot, Rem}
use Rattle.target.specs.Values.{Val, int, bool, Reading, value_at}
use Rattle.target.specs.Division.{rem_pos}
use Rattle.target.specs.Meaning.{row_value}
use Rattle.target.proofs.Blocks.{Obeys, each_front}
use Rattle.rows.specs.declared.operands.Range.{Range}
use Rattle.rows.specs.declared.operands.Operands.{Operands}
use Rattle.rows.specs.Rows.{top, unless, reduced, right_rows, left_rows, rows_of}
use Rattle.rows.proofs.Whole.{quot_is, rem_is, rem_sub, wrap_down, div_mono, guarded, unguarded, shr_is, shl_is}
use Rattle.rows.proofs.Ends.{Ends}
use Rattle.rows.proofs.Chain.{shift_ends}

-- a row has the number x, of k bits and within bounds
pub record Num (vs : List Val) (row k : ℕ) (r : Range) (x : ℕ) : Type 0 where
  pub is : value_at vs row ≡ int (pos x)
  pub below : x < 2 ^ k
  pub least : r.least ≤ x
  pub most : x ≤ r.most

-- an operation with its remainder by 2 ^ k or, where it is a number of k bits, without
reduced_ends : (reading : Reading) (numbers : ℕ → ℤ) (vs : List Val) (other at : ℕ) (row : Row) (within : Bool) (k v : ℕ) (z : ℤ) → row_value reading numbers vs 0 row ≡ int z →
    (within ≡ true → z ≡ pos v) → rem_pos z (2 ^ k) ≡ pos v → Ends reading numbers vs other at (reduced row within k at) (int (pos v))
unfolding row_value
reduced_ends reading numbers vs other at row true k v z e bare least h = h 0 (lit< tt) ∙ e ∙ ap int (bare refl)
reduced_ends reading numbers vs other at row false k v z e bare least h =
    let v0 : value_at vs at ≡ int z = h 0 (lit< tt) ∙ e in
    let v1 : value_at vs (at + 1) ≡ int (pos (2 ^ k)) = h 1 (lit< tt) in
    h 2 (lit< tt) ∙ rw (v0, v1) (ap int (rem_is reading z (2 ^ k) (pow_pos k) ∙ least))

-- two rows that come to m, then rows that take its remainder by d or, where m is below d, none
spared_ends : (reading : Reading) (numbers : ℕ → ℤ) (vs : List Val) (other at : ℕ) (one two : Row) (rest : List Row) (spared : Bool) (m d : ℕ) →
    Ends reading numbers vs other at (one ∷ two ∷ []) (int (pos m)) → (spared ≡ true → m < d) →
    (value_at vs (at + 1) ≡ int (pos m) → Ends reading numbers vs other at (one ∷ two ∷ rest) (int (pos (m % d)))) →
    Ends reading numbers vs other at (one ∷ two ∷ unless spared rest) (int (pos (m % d)))
spared_ends reading numbers vs other at one two rest true m d first small then h = first h ∙ ap (λ n. int (pos n)) (sym (mod-eq_of_lt (small refl)))
spared_ends reading numbers vs other at one two rest false m d first small then h =
    then (first (each_front (Obeys reading numbers vs) at (one ∷ two ∷ []) rest h)) h

-- operators of one operand
module _ (reading : Reading) (numbers : ℕ → ℤ) (vs : List Val) (o : Operands) (at m : ℕ) (p : Num vs o.a o.k o.left m) where
  em : value_at vs o.a ≡ int (pos m)
  em = p.is

  pub not_ends : Ends reading numbers vs o.c at (rows_of BvNot o at) (int (pos (complement o.k m)))
  unfolding row_value
  not_ends h =
      let v0 : value_at vs at ≡ int (pos 1) = h 0 (lit< tt) in
      let v1 : value_at vs (at + 1) ≡ int (pos (m + 1)) = h 1 (lit< tt) ∙ rw (em, v0) in
      let v2 : value_at vs (at + 2) ≡ int (pos (2 ^ o.k)) = h 2 (lit< tt) in
      h 3 (lit< tt) ∙ rw (v2, v1) (ap int (omega (arith, ints, p.below)))

  pub neg_ends : Ends reading numbers vs o.c at (rows_of BvNeg o at) (int (pos (negated o.k m)))
  unfolding row_value
  neg_ends =
      spared_ends reading numbers vs o.c at (Number (2 ^ o.k)) (Sub at o.a) (Rem (at + 1) at ∷ []) (leb 1 o.left.least) (2 ^ o.k - m) (2 ^ o.k)
      (λ h. let v0 : value_at vs at ≡ int (pos (2 ^ o.k)) = h 0 (lit< tt) in h 1 (lit< tt) ∙ rw (v0, em) (ap int (omega (arith, ints, p.below))))
      (λ t. omega (arith, leb-true _ _ t, p.least, p.below))
      (λ v1 h.
      let v0 : value_at vs at ≡ int (pos (2 ^ o.k)) = h 0 (lit< tt) in
      h 2 (lit< tt) ∙ rw (v1, v0) (ap int (rem_is reading (pos (2 ^ o.k - m)) (2 ^ o.k) (pow_pos o.k))))

  quotient_ends : (other l p : ℕ) → Ends reading numbers vs other p (Number (2 ^ l) ∷ Quot o.a p ∷ []) (int (pos (m / 2 ^ l)))
  unfolding row_value
  quotient_ends other l p h =
      let v0 : value_at vs p ≡ int (pos (2 ^ l)) = h 0 (lit< tt) in
      h 1 (lit< tt) ∙ rw (v0, em) (ap int (quot_is reading (pos m) (2 ^ l) (pow_pos l)))

  pub extract_ends : (u l : ℕ) → Ends reading numbers vs o.c at (rows_of (Extract u l) o at) (int (pos (extracted u l m)))
  unfolding row_value
  extract_ends u l =
      let d : ℕ = 2 ^ (u - l + 1) in
      spared_ends reading numbers vs o.c at (Number (2 ^ l)) (Quot o.a at) (Number d ∷ Rem (at + 1) (at + 2) ∷ []) (ltb (o.left.most / 2 ^ l) d) (m / 2 ^ l) d
      (quotient_ends o.c l at) (λ t. omega (arith, ltb-true _ _ t, div_mono m o.left.most (2 ^ l) (pow_pos l) p.most))
      (λ v1 h.
      let v2 : value_at vs (at + 2) ≡ int (pos d) = h 2 (lit< tt) in
      h 3 (lit< tt) ∙ rw (v1, v2) (ap int (rem_is reading (pos (m / 2 ^ l)) d (pow_pos (u - l + 1)))))

  -- the shifts, by the row b, whose number is y
  module _ (some : 1 ≤ o.k) (y : ℕ) (eb : value_at vs o.b ≡ int (pos y)) where
    pub lshr_ends : Ends reading numbers vs o.c at (rows_of BvLshr o at) (int (pos (shifted_right m y)))
    unfolding row_value
    lshr_ends h =
        shift_ends reading numbers vs (right_rows o.a) (λ i. m / 2 ^ i) o.k o.b y eb (λ i p. omega arith) (λ i p lt. quotient_ends p i p) o.c at (Number 0 ∷ [])
        (omega arith) some (h 0 (omega arith)) h
        ∙ ap (λ n. int (pos n)) (shr_is o.k m y p.below)

    pub shl_ends : Ends reading numbers vs o.c at (rows_of BvShl o at) (int (pos (shifted_left o.k m y)))
    unfolding row_value
    shl_ends h =
        shift_ends reading numbers vs (left_rows o.k o.left.most (at + 1) o.a) (λ i. (m * 2 ^ i) % 2 ^ o.k) o.k o.b y eb (λ i p. omega arith) moves o.c at
        (Number 0 ∷ Number (2 ^ o.k) ∷ []) (omega arith) some (h 0 (omega arith)) h
        ∙ ap (λ n. int (pos n)) (shl_is o.k m y)
      where
        size : value_at vs (at + 1) ≡ int (pos (2 ^ o.k))
        size = h 1 (omega arith)

        moves : (i q : ℕ) → i < o.k → Ends reading numbers vs q q (left_rows o.k o.left.most (at + 1) o.a i q) (int (pos ((m * 2 ^ i) % 2 ^ o.k)))
        moves i q lt =
            spared_ends reading numbers vs q q (Number (2 ^ i)) (Times o.a q) (Rem (q + 1) (at + 1) ∷ []) (leb (o.left.most * 2 ^ i) (top o.k)) (m * 2 ^ i) (2 ^ o.k)
            (λ s. let v0 : value_at vs q ≡ int (pos (2 ^ i)) = s 0 (lit< tt) in s 1 (lit< tt) ∙ rw (v0, em))
            (λ t. omega (arith, leb-true _ _ t, pow_pos o.k, mul-le m (2 ^ i) o.left.most (2 ^ i) p.most (le_refl (2 ^ i))))
            (λ v1 s. s 2 (lit< tt) ∙ rw (v1, size) (ap int (rem_is reading (pos (m * 2 ^ i)) (2 ^ o.k) (pow_pos o.k))))

-- operators of two operands of the same width
module _ (reading : Reading) (numbers : ℕ → ℤ) (vs : List Val) (o : Operands) (at x y : ℕ) (p : Num vs o.a o.k o.left x) (q : Num vs o.b o.k o.right y) where
  ea : value_at vs o.a ≡ int (pos x)
  ea = p.is

  eb : value_at vs o.b ≡ int (pos y)
  eb = q.is

  pub add_ends : Ends reading numbers vs o.c at (rows_of BvAdd o at) (int (pos (sum o.k x y)))
  unfolding row_value
  add_ends =
      reduced_ends reading numbers vs o.c at (Add o.a o.b) (leb (o.left.most + o.right.most) (top o.k)) o.k (sum o.k x y) (pos (x + y)) (rw (ea, eb))
      (λ t. ap pos (sym (mod-eq_of_lt (omega (arith, leb-true _ _ t, pow_pos o.k, p.most, q.most))))) refl

  pub sub_ends : Ends reading numbers vs o.c at (rows_of BvSub o at) (int (pos (difference o.k x y)))
  unfolding row_value
  sub_ends =
      reduced_ends reading numbers vs o.c at (Sub o.a o.b) (leb o.right.most o.left.least) o.k (difference o.k x y) (pos x -ℤ pos y) (rw (ea, eb))
      (λ t. let le : y ≤ x = omega (arith, leb-true _ _ t, p.least, q.most) in omega (arith, ints, wrap_down x y (2 ^ o.k) le p.below))
      (rem_sub x y (2 ^ o.k) (pow_pos o.k) (omega (arith, q.below)))

  pub mul_ends : Ends reading numbers vs o.c at (rows_of BvMul o at) (int (pos (product o.k x y)))
  unfolding row_value
  mul_ends =
      reduced_ends reading numbers vs o.c at (Times o.a o.b) (leb (o.left.most * o.right.most) (top o.k)) o.k (product o.k x y) (pos (x * y)) (rw (ea, eb))
      (λ t. ap pos (sym (mod-eq_of_lt (omega (arith, leb-true _ _ t, pow_pos o.k, mul-le x y o.left.most o.right.most p.most q.most))))) refl

  -- where the divisor's bounds leave 0 out, it is not 0
  above : leb 1 o.right.least ≡ true → eqb y 0 ≡ false
  above t = ne_eqb y 0 (λ e. omega (arith, leb-true _ _ t, q.least))

  pub udiv_ends : Ends reading numbers vs o.c at (rows_of BvUdiv o at) (int (pos (quotient o.k x y)))
  unfolding row_value
  udiv_ends =
      cond_both (leb 1 o.right.least) (Quot o.a o.b ∷ []) _ (λ t. Ends reading numbers vs o.c at t (int (pos (quotient o.k x y))))
      (λ t h. h 0 (lit< tt) ∙ rw (ea, eb) (unguarded (eqb y 0) (top o.k) (x / y) _ (above t)))
      (λ t h.
      let v0 : value_at vs at ≡ int (pos 0) = h 0 (lit< tt) in
      let v1 : value_at vs (at + 1) ≡ bool (eqb y 0) = h 1 (lit< tt) ∙ rw (eb, v0) in
      let v2 : value_at vs (at + 2) ≡ int (pos (top o.k)) = h 2 (lit< tt) in
      let v3 : value_at vs (at + 3) ≡ int (cond (eqb y 0) (reading.quot_by_zero (pos x)) (pos (x / y))) = h 3 (lit< tt) ∙ rw (ea, eb) in
      h 4 (lit< tt) ∙ rw (v1, v2, v3) (guarded (eqb y 0) (top o.k) (x / y) _))

  pub urem_ends : Ends reading numbers vs o.c at (rows_of BvUrem o at) (int (pos (remainder x y)))
  unfolding row_value
  urem_ends =
      cond_both (leb 1 o.right.least) (Rem o.a o.b ∷ []) _ (λ t. Ends reading numbers vs o.c at t (int (pos (remainder x y))))
      (λ t h. h 0 (lit< tt) ∙ rw (ea, eb) (unguarded (eqb y 0) x (x % y) _ (above t)))
      (λ t h.
      let v0 : value_at vs at ≡ int (pos 0) = h 0 (lit< tt) in
      let v1 : value_at vs (at + 1) ≡ bool (eqb y 0) = h 1 (lit< tt) ∙ rw (eb, v0) in
      let v2 : value_at vs (at + 2) ≡ int (cond (eqb y 0) (reading.rem_by_zero (pos x)) (pos (x % y))) = h 2 (lit< tt) ∙ rw (ea, eb) in
      h 3 (lit< tt) ∙ rw (v1, ea, v2) (guarded (eqb y 0) x (x % y) _))

-- operands of any widths
pub concat_ends : (reading : Reading) (numbers : ℕ → ℤ) (vs : List Val) (o : Operands) (at x y : ℕ) → value_at vs o.a ≡ int (pos x) → value_at vs o.b ≡ int (pos y) →
    Ends reading numbers vs o.c at (rows_of Concat o at) (int (pos (joined o.j x y)))
unfolding row_value
concat_ends reading numbers vs o at x y ea eb h =
    let v0 : value_at vs at ≡ int (pos (2 ^ o.j)) = h 0 (lit< tt) in
    let v1 : value_at vs (at + 1) ≡ int (pos (x * 2 ^ o.j)) = h 1 (lit< tt) ∙ rw (v0, ea) in
    h 2 (lit< tt) ∙ rw (v1, eb)
