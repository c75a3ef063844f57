-- The rows of an operator are sound where its operands are earlier rows of the right sorts.
use Rattle.std.proofs.Common.{◌≡◌, ℕ, zero, suc, ◌+◌, ◌-◌, ◌*◌, ◌^◌, ◌≤◌, Bool, true, false, cond, leb, List, [], ◌∷◌, ◌++◌, length, sym, refl, ap, ◌∙◌, arith, lit<}
use Rattle.std.proofs.lemmas.Bool.{cond_both}
use Rattle.target.specs.declared.row.Sort.{Sort}
use Rattle.target.specs.declared.row.Sort.TheVariants as sort
use Rattle.target.specs.declared.row.Row.{Row}
use Rattle.target.specs.declared.row.Row.TheVariants.{Number, Add, Sub, Times, Quot, Rem, Equal, Choose}
use Rattle.target.specs.Soundness.{RowSound, Takes}
use Rattle.target.proofs.Blocks.{Each, All, HasSort, all_each, each_front, each_back, each_join}
use Rattle.rows.specs.declared.operands.Operands.{Operands}
use Rattle.source.specs.declared.operator.Operator as op
use Rattle.source.specs.declared.operator.Operator.{Operator}
use Rattle.source.specs.declared.operator.Operator.TheVariants.{BvNot, BvNeg, BvAdd, BvSub, BvMul, BvUdiv, BvUrem, Extract, Concat, BvAnd, BvOr, BvXor, BvLshr, BvShl, BvUlt, BvUle, BvUgt, BvUge, BvSlt, BvSle, BvSgt, BvSge, Ite, Implies}
use Rattle.rows.specs.Rows.{top, spared, unless, last_or, amount_rows, shift_rows, right_rows, left_rows, rows_of}
use Rattle.rows.specs.Law.{Suited}
use Rattle.rows.proofs.Shifting.{length_amount}
use Rattle.rows.proofs.Ends.{last_is}
use Rattle.rows.proofs.Chain.{choice}

-- what holds of each row, one row after another
each_all : (P : ℕ → Row → Type 0) (at : ℕ) (new : List Row) → Each P at new → All P at new
each_all P at [] h = tt
each_all P at (row ∷ rows) h = (h 0 (omega arith), each_all P (at + 1) rows (each_back P at (at + 1) (row ∷ []) rows refl h))

module _ (s : ℕ → Sort) where
  -- rows of the sorts that they have are sound
  abbrev pub Sounds : ℕ → List Row → Type 0
  Sounds at new = Each (HasSort s) at new → Each (RowSound s) at new

  from : (at : ℕ) (new : List Row) → (All (HasSort s) at new → All (RowSound s) at new) → Sounds at new
  from at new f h = all_each (RowSound s) at new (f (each_all (HasSort s) at new h))

  either : (at : ℕ) (test : Bool) (xs ys : List Row) → (All (HasSort s) at xs → All (RowSound s) at xs) → (All (HasSort s) at ys → All (RowSound s) at ys) → Sounds at (cond test xs ys)
  either at true xs ys f g = from at xs f
  either at false xs ys f g = from at ys g

  -- with the rows that can be spared, and without
  with_rest : (at : ℕ) (xs ys : List Row) (test : Bool) → (All (HasSort s) at (xs ++ []) → All (RowSound s) at (xs ++ [])) → (All (HasSort s) at (xs ++ ys) → All (RowSound s) at (xs ++ ys)) →
      Sounds at (xs ++ unless test ys)
  with_rest at xs ys true f g = from at (xs ++ []) f
  with_rest at xs ys false f g = from at (xs ++ ys) g

  -- the last of the rows, or `other` where there is none, is a whole number
  abbrev pub EndsInt : ℕ → ℕ → List Row → Type 0
  EndsInt other at new = Each (HasSort s) at new → s (last_or other at new) ≡ sort.Int

  -- the amounts of a shift
  module _ (moved : ℕ → ℕ → List Row) (b : ℕ) (some : (i at : ℕ) → 1 ≤ length (moved i at)) (ends : (i at : ℕ) → EndsInt at at (moved i at)) where
    abbrev H : ℕ → Row → Type 0
    H = HasSort s

    -- one amount of several: the rows that move, the last of them, the choice, and the other amounts
    module _ (i former at : ℕ) (h : Each (HasSort s) at (shift_rows moved b (suc i) former at)) where
      abbrev m : List Row
      m = moved i (at + 2)

      abbrev n : ℕ
      n = length m

      abbrev pick : List Row
      pick = Choose sort.Int (at + 1) (at + (1 + n)) former ∷ []

      abbrev amount : List Row
      amount = amount_rows moved b i former at

      abbrev rest : List Row
      rest = shift_rows moved b i (at + (2 + n)) (at + (3 + n))

      len : at + length amount ≡ at + (3 + n)
      len = omega (arith, length_amount moved b i former at)

      here : Each H at amount
      here = each_front H at amount rest h

      then : Each H (at + 2) (m ++ pick)
      then = each_back H at (at + 2) (Number i ∷ Equal b at ∷ []) (m ++ pick) refl here

      picked : s (at + (1 + n)) ≡ sort.Int
      picked =
          let e : at + (1 + n) ≡ last_or (at + 2) (at + 2) m = omega (arith, last_is (at + 2) (at + 2) m (some i (at + 2))) in
          ap s e ∙ ends i (at + 2) (each_front H (at + 2) m pick then)

      choosing : s (at + (2 + n)) ≡ sort.Int
      choosing = each_back H (at + 2) (at + (2 + n)) m pick (omega arith) then 0 (lit< tt)

      others : Each H (at + (3 + n)) rest
      others = each_back H at (at + (3 + n)) amount rest len h

    pub shift_sort : (i former at : ℕ) → s former ≡ sort.Int → Each (HasSort s) at (shift_rows moved b i former at) → s (choice moved i former at) ≡ sort.Int
    shift_sort zero former at tf h = tf
    shift_sort (suc i) former at tf h = shift_sort i (at + (2 + n i former at h)) (at + (3 + n i former at h)) (choosing i former at h) (others i former at h)

    module _ (low : ℕ) (tb : Takes s low sort.Int b) (moves : (i at : ℕ) → low ≤ at → Sounds at (moved i at)) where
      pub shift_sound : (i former at : ℕ) → low ≤ at → Takes s at sort.Int former → Sounds at (shift_rows moved b i former at)
      shift_sound zero former at le tf h = all_each (RowSound s) at [] tt
      shift_sound (suc i) former at le tf h =
          let R : ℕ → Row → Type 0 = RowSound s in
          let m : List Row = moved i (at + 2) in
          let n : ℕ = length m in
          let two : List Row = Number i ∷ Equal b at ∷ [] in
          let pick : List Row = Choose sort.Int (at + 1) (at + (1 + n)) former ∷ [] in
          let first : s at ≡ sort.Int = here i former at h 0 (omega arith) in
          let test : s (at + 1) ≡ sort.Bool = here i former at h 1 (omega arith) in
          each_join R at (at + (3 + n)) (amount_rows moved b i former at) (shift_rows moved b i (at + (2 + n)) (at + (3 + n))) (len i former at h)
          (each_join R at (at + 2) two (m ++ pick) refl (all_each R at two (tt, ((omega (arith, tb.0), (omega arith, first ∙ sym tb.1)), tt)))
          (each_join R (at + 2) (at + (2 + n)) m pick (omega arith) (moves i (at + 2) (omega arith) (each_front H (at + 2) m pick (then i former at h)))
          (all_each R (at + (2 + n)) pick (((omega arith, test), (omega (arith, some i (at + 2)), picked i former at h), (omega (arith, tf.0), tf.1)), tt))))
          (shift_sound i (at + (2 + n)) (at + (3 + n)) (omega arith) (omega arith, choosing i former at h) (others i former at h))

  pub right_ends : (a i at : ℕ) → EndsInt at at (right_rows a i at)
  right_ends a i at h = h 1 (lit< tt)

  pub left_ends : (k most size a i at : ℕ) → EndsInt at at (left_rows k most size a i at)
  left_ends k most size a i at =
      cond_both (leb (most * 2 ^ i) (top k)) [] (Rem (at + 1) size ∷ []) (λ t. EndsInt at at (Number (2 ^ i) ∷ Times a at ∷ t)) (λ t h. h 1 (lit< tt)) (λ t h. h 2 (lit< tt))

  pub sounds : (op : Operator) (o : Operands) (at : ℕ) → Suited s at op o → Sounds at (rows_of op o at)
  sounds BvNeg o at f = let fa = f.operands in with_rest at (Number (2 ^ o.k) ∷ Sub at o.a ∷ []) (Rem (at + 1) at ∷ []) (spared BvNeg o) (λ h. search arith) (λ h. search arith)
  sounds BvAdd o at f = let g = f.operands in with_rest at (Add o.a o.b ∷ []) (Number (2 ^ o.k) ∷ Rem at (at + 1) ∷ []) (spared BvAdd o) (λ h. search arith) (λ h. search arith)
  sounds BvSub o at f = let g = f.operands in with_rest at (Sub o.a o.b ∷ []) (Number (2 ^ o.k) ∷ Rem at (at + 1) ∷ []) (spared BvSub o) (λ h. search arith) (λ h. search arith)
  sounds BvMul o at f = let g = f.operands in with_rest at (Times o.a o.b ∷ []) (Number (2 ^ o.k) ∷ Rem at (at + 1) ∷ []) (spared BvMul o) (λ h. search arith) (λ h. search arith)
  sounds BvUdiv o at f =
      let g = f.operands in
      either at (spared BvUdiv o) _ _ (λ h. search arith) (λ h. search arith)
  sounds BvUrem o at f =
      let g = f.operands in
      either at (spared BvUrem o) _ _ (λ h. search arith) (λ h. search arith)
  sounds (Extract u l) o at f =
      let g = f.operands in
      with_rest at (Number (2 ^ l) ∷ Quot o.a at ∷ []) (Number (2 ^ (u - l + 1)) ∷ Rem (at + 1) (at + 2) ∷ []) (spared (Extract u l) o) (λ h. search arith) (λ h. search arith)
  sounds BvLshr o at f = λ h.
      let g = f.operands in
      let rest : List Row = shift_rows (right_rows o.a) o.b o.k at (at + 1) in
      each_join (RowSound s) at (at + 1) (Number 0 ∷ []) rest refl (all_each (RowSound s) at (Number 0 ∷ []) (tt, tt))
      (shift_sound (right_rows o.a) o.b (λ i p. omega arith) (right_ends o.a) (at + 1) (omega (arith, g.1.0), g.1.1)
      (λ i p le. from p (right_rows o.a i p) (λ t. search arith)) o.k at (at + 1) (omega arith) (omega arith, h 0 (omega arith))
      (each_back (HasSort s) at (at + 1) (Number 0 ∷ []) rest refl h))
  sounds BvShl o at f = λ h.
      let g = f.operands in
      let two : List Row = Number 0 ∷ Number (2 ^ o.k) ∷ [] in
      let moved : ℕ → ℕ → List Row = left_rows o.k o.left.most (at + 1) o.a in
      let rest : List Row = shift_rows moved o.b o.k at (at + 2) in
      let size : s (at + 1) ≡ sort.Int = h 1 (omega arith) in
      each_join (RowSound s) at (at + 2) two rest refl (all_each (RowSound s) at two (tt, (tt, tt)))
      (shift_sound moved o.b (λ i p. omega arith) (left_ends o.k o.left.most (at + 1) o.a) (at + 2) (omega (arith, g.1.0), g.1.1)
      (λ i p le. with_rest p (Number (2 ^ i) ∷ Times o.a p ∷ []) (Rem (p + 1) (at + 1) ∷ []) (leb (o.left.most * 2 ^ i) (top o.k)) (λ t. search arith) (λ t. search arith))
      o.k at (at + 2) (omega arith) (omega arith, h 0 (omega arith)) (each_back (HasSort s) at (at + 2) two rest refl h))
  sounds BvUlt o at f = let g = f.operands in from at (rows_of BvUlt o at) (λ h. search arith)
  sounds BvUle o at f = let g = f.operands in from at (rows_of BvUle o at) (λ h. search arith)
  sounds BvUgt o at f = let g = f.operands in from at (rows_of BvUgt o at) (λ h. search arith)
  sounds BvUge o at f = let g = f.operands in from at (rows_of BvUge o at) (λ h. search arith)
  sounds BvSlt o at f = let g = f.operands in from at (rows_of BvSlt o at) (λ h. search arith)
  sounds BvSle o at f = let g = f.operands in from at (rows_of BvSle o at) (λ h. search arith)
  sounds BvSgt o at f = let g = f.operands in from at (rows_of BvSgt o at) (λ h. search arith)
  sounds BvSge o at f = let g = f.operands in from at (rows_of BvSge o at) (λ h. search arith)
  sounds Concat o at f = let g = f.operands in from at (rows_of Concat o at) (λ h. search arith)
  sounds BvOr o at f = let g = f.operands in let fc = f.unknown refl in from at (rows_of BvOr o at) (λ h. search arith)
  sounds BvXor o at f = let g = f.operands in let fc = f.unknown refl in from at (rows_of BvXor o at) (λ h. search arith)
  sounds BvAnd o at f = from at [] (λ h. tt)
  sounds Ite o at f = let g = f.operands in from at (rows_of Ite o at) (λ h. search arith)
  sounds Implies o at f = let g = f.operands in from at (rows_of Implies o at) (λ h. search arith)
  sounds op.TheVariants.Equal o at f = let g = f.operands in from at (rows_of op.TheVariants.Equal o at) (λ h. search arith)
  sounds op.TheVariants.Not o at f = let g = f.operands in from at (rows_of op.TheVariants.Not o at) (λ h. search arith)
  sounds op.TheVariants.And o at f = let g = f.operands in from at (rows_of op.TheVariants.And o at) (λ h. search arith)
  sounds op.TheVariants.Or o at f = let g = f.operands in from at (rows_of op.TheVariants.Or o at) (λ h. search arith)
  sounds BvNot o at f = let g = f.operands in from at (rows_of BvNot o at) (λ h. search arith)
