-- The rows of an operator have no unknown among them, and its image is of the sort of its result.
use Rattle.std.proofs.Common.{◌≡◌, ℕ, zero, suc, ◌+◌, ◌-◌, ◌*◌, ◌^◌, ◌<◌, ◌≤◌, Bool, true, false, cond, ◌&&◌, leb, List, [], ◌∷◌, length, sym, refl, ap, ◌∙◌, arith, lit<}
use Rattle.std.proofs.lemmas.Bool.{and_parts, cond_both, false≢true}
use Rattle.source.specs.declared.operator.Operator as op
use Rattle.source.specs.declared.operator.Operator.{Operator}
use Rattle.source.specs.declared.operator.Operator.TheVariants.{BvNot, BvNeg, BvAdd, BvSub, BvMul, BvUdiv, BvUrem, Extract, Concat, BvAnd, BvOr, BvXor, BvLshr, BvShl, BvUlt, BvUle, BvUgt, BvUge, BvSlt, BvSle, BvSgt, BvSge, Ite, Implies}
use Rattle.source.specs.declared.order.Sort as source_sort
use Rattle.source.specs.Sorts.{Shape, one_bits, two_bits, any_bits, one_truth, two_truths, two_alike, choice, shape_of, is_bits, alike, fits, result_sort}
use Rattle.target.specs.declared.row.Sort.{Sort}
use Rattle.target.specs.declared.row.Sort.TheVariants as sort
use Rattle.target.specs.declared.row.Row.{Row}
use Rattle.target.specs.declared.row.Row.TheVariants.{Number, Sub, Quot, Rem, Choose}
use Rattle.target.specs.Sorts.{sort_of}
use Rattle.target.specs.Meaning.{unknowns}
use Rattle.target.specs.Soundness.{Takes}
use Rattle.target.proofs.Blocks.{Each, HasSort, each_back, unknowns-++}
use Rattle.rows.specs.declared.operands.Operands.{Operands}
use Rattle.rows.specs.Rows.{top, spared, reduced, amount_rows, shift_rows, right_rows, left_rows, rows_of, image}
use Rattle.rows.specs.Counts.{has_and}
use Rattle.rows.specs.Law.{shown_sort, Fitting, Suited}
use Rattle.rows.proofs.Chain as chain
use Rattle.rows.proofs.Sounds.{EndsInt, shift_sort, right_ends, left_ends}

cond_known : (test : Bool) (xs ys : List Row) → unknowns xs ≡ 0 → unknowns ys ≡ 0 → unknowns (cond test xs ys) ≡ 0
cond_known true xs ys e f = e
cond_known false xs ys e f = f

shift_known : (moved : ℕ → ℕ → List Row) (b : ℕ) → ((i at : ℕ) → unknowns (moved i at) ≡ 0) → (i former at : ℕ) → unknowns (shift_rows moved b i former at) ≡ 0
shift_known moved b e zero former at = refl
shift_known moved b e (suc i) former at =
    let n : ℕ = length (moved i (at + 2)) in
    omega (
      arith,
      unknowns-++ (amount_rows moved b i former at) (shift_rows moved b i (at + (2 + n)) (at + (3 + n))),
      e i (at + 2),
      unknowns-++ (moved i (at + 2)) (Choose sort.Int (at + 1) (at + (1 + n)) former ∷ []),
      shift_known moved b e i (at + (2 + n)) (at + (3 + n)),
    )

pub no_unknowns : (op : Operator) (o : Operands) (at : ℕ) → unknowns (rows_of op o at) ≡ 0
no_unknowns BvNeg o at = omega (arith, cond_known (spared BvNeg o) [] (Rem (at + 1) at ∷ []) refl refl)
no_unknowns BvAdd o at = omega (arith, cond_known (spared BvAdd o) [] (Number (2 ^ o.k) ∷ Rem at (at + 1) ∷ []) refl refl)
no_unknowns BvSub o at = omega (arith, cond_known (spared BvSub o) [] (Number (2 ^ o.k) ∷ Rem at (at + 1) ∷ []) refl refl)
no_unknowns BvMul o at = omega (arith, cond_known (spared BvMul o) [] (Number (2 ^ o.k) ∷ Rem at (at + 1) ∷ []) refl refl)
no_unknowns BvUdiv o at = cond_known (spared BvUdiv o) _ _ refl refl
no_unknowns BvUrem o at = cond_known (spared BvUrem o) _ _ refl refl
no_unknowns (Extract u l) o at = omega (arith, cond_known (spared (Extract u l) o) [] (Number (2 ^ (u - l + 1)) ∷ Rem (at + 1) (at + 2) ∷ []) refl refl)
no_unknowns BvLshr o at = omega (arith, shift_known (right_rows o.a) o.b (λ i p. refl) o.k at (at + 1))
no_unknowns BvShl o at =
    omega (
      arith,
      shift_known (left_rows o.k o.left.most (at + 1) o.a) o.b
          (λ i p. omega (arith, cond_known (leb (o.left.most * 2 ^ i) (top o.k)) [] (Rem (p + 1) (at + 1) ∷ []) refl refl)) o.k at (at + 2),
    )
no_unknowns BvNot o at = refl
no_unknowns Concat o at = refl
no_unknowns BvAnd o at = refl
no_unknowns BvOr o at = refl
no_unknowns BvXor o at = refl
no_unknowns BvUlt o at = refl
no_unknowns BvUle o at = refl
no_unknowns BvUgt o at = refl
no_unknowns BvUge o at = refl
no_unknowns BvSlt o at = refl
no_unknowns BvSle o at = refl
no_unknowns BvSgt o at = refl
no_unknowns BvSge o at = refl
no_unknowns op.TheVariants.Equal o at = refl
no_unknowns op.TheVariants.Not o at = refl
no_unknowns op.TheVariants.And o at = refl
no_unknowns op.TheVariants.Or o at = refl
no_unknowns Ite o at = refl
no_unknowns Implies o at = refl

-- what suits an operator does so by the sorts of the earlier rows alone
takes_local : (s t : ℕ → Sort) (at : ℕ) → ((p : ℕ) → p < at → s p ≡ t p) → (u : Sort) (p : ℕ) → Takes s at u p → Takes t at u p
takes_local s t at e u p h = (h.0, sym (e p h.0) ∙ h.1)

fitting_local : (s t : ℕ → Sort) (at : ℕ) → ((p : ℕ) → p < at → s p ≡ t p) → (shape : Shape) (o : Operands) → Fitting s at shape o → Fitting t at shape o
fitting_local s t at e one_bits o h = takes_local s t at e sort.Int o.a h
fitting_local s t at e two_bits o h = (takes_local s t at e sort.Int o.a h.0, takes_local s t at e sort.Int o.b h.1)
fitting_local s t at e any_bits o h = (takes_local s t at e sort.Int o.a h.0, takes_local s t at e sort.Int o.b h.1)
fitting_local s t at e one_truth o h = takes_local s t at e sort.Bool o.a h
fitting_local s t at e two_truths o h = (takes_local s t at e sort.Bool o.a h.0, takes_local s t at e sort.Bool o.b h.1)
fitting_local s t at e two_alike o h = (h.0, (h.1.0, sym (e o.b h.1.0) ∙ h.1.1 ∙ e o.a h.0))
fitting_local s t at e choice o h =
    (takes_local s t at e sort.Bool o.a h.0, takes_local s t at e o.sort o.b h.1, takes_local s t at e o.sort o.c h.2)

pub suited_local : (s t : ℕ → Sort) (at : ℕ) (op : Operator) (o : Operands) → ((p : ℕ) → p < at → s p ≡ t p) → Suited s at op o → Suited t at op o
suited_local s t at op o e h = record {
  operands = fitting_local s t at e (shape_of op) o h.operands;
  unknown = λ a. takes_local s t at e sort.Int o.c (h.unknown a);
}

-- bits are whole numbers
bits_int : (a : source_sort.Sort) → is_bits a ≡ true → sort.Int ≡ shown_sort a
bits_int source_sort.TheVariants.Bool e = absurd (false≢true e)
bits_int (source_sort.TheVariants.Bits k) e = refl

two_int : (a b : source_sort.Sort) → is_bits a && alike a b ≡ true → sort.Int ≡ shown_sort a
two_int a b e = bits_int a (and_parts (is_bits a) (alike a b) e).0

module _ (s : ℕ → Sort) (o : Operands) (at : ℕ) where
  reduced_int : (row : Row) (within : Bool) (k : ℕ) → sort_of row ≡ sort.Int → EndsInt s o.c at (reduced row within k at)
  reduced_int row true k e h = h 0 (lit< tt) ∙ e
  reduced_int row false k e h = h 2 (lit< tt)

  module _ (some : 1 ≤ o.k) (a b c : source_sort.Sort) where
    pub image_sort : (op : Operator) → fits (shape_of op) a b c ≡ true → (op ≡ Ite → o.sort ≡ shown_sort b) → (has_and op ≡ true → s o.c ≡ sort.Int) →
        Each (HasSort s) at (rows_of op o at) → s (image op o at) ≡ shown_sort (result_sort op a b c)
    image_sort BvNot f i d h = h 3 (lit< tt) ∙ bits_int a f
    image_sort BvNeg f i d h =
        cond_both (spared BvNeg o) [] (Rem (at + 1) at ∷ []) (λ t. EndsInt s o.c at (Number (2 ^ o.k) ∷ Sub at o.a ∷ t)) (λ t h. h 1 (lit< tt)) (λ t h. h 2 (lit< tt)) h
        ∙ bits_int a f
    image_sort BvAdd f i d h = reduced_int _ (spared BvAdd o) o.k refl h ∙ two_int a b f
    image_sort BvSub f i d h = reduced_int _ (spared BvSub o) o.k refl h ∙ two_int a b f
    image_sort BvMul f i d h = reduced_int _ (spared BvMul o) o.k refl h ∙ two_int a b f
    image_sort BvUdiv f i d h =
        cond_both (spared BvUdiv o) _ _ (EndsInt s o.c at) (λ t h. h 0 (lit< tt)) (λ t h. h 4 (lit< tt)) h
        ∙ two_int a b f
    image_sort BvUrem f i d h =
        cond_both (spared BvUrem o) _ _ (EndsInt s o.c at) (λ t h. h 0 (lit< tt)) (λ t h. h 3 (lit< tt)) h
        ∙ two_int a b f
    image_sort (Extract u l) f i d h =
        cond_both (spared (Extract u l) o) [] (Number (2 ^ (u - l + 1)) ∷ Rem (at + 1) (at + 2) ∷ []) (λ t. EndsInt s o.c at (Number (2 ^ l) ∷ Quot o.a at ∷ t))
        (λ t h. h 1 (lit< tt)) (λ t h. h 3 (lit< tt)) h
    image_sort Concat f i d h = h 2 (lit< tt)
    image_sort BvAnd f i d h = d refl ∙ two_int a b f
    image_sort BvOr f i d h = h 4 (lit< tt) ∙ two_int a b f
    image_sort BvXor f i d h = h 6 (lit< tt) ∙ two_int a b f
    image_sort BvLshr f i d h =
        ap s (chain.last_choice (right_rows o.a) o.b o.k o.c at (Number 0 ∷ []) some (omega arith))
        ∙ shift_sort s (right_rows o.a) o.b (λ i p. omega arith) (right_ends s o.a) o.k at (at + 1) (h 0 (omega arith))
        (each_back (HasSort s) at (at + 1) (Number 0 ∷ []) (shift_rows (right_rows o.a) o.b o.k at (at + 1)) refl h)
        ∙ two_int a b f
    image_sort BvShl f i d h =
        let moved : ℕ → ℕ → List Row = left_rows o.k o.left.most (at + 1) o.a in
        let two : List Row = Number 0 ∷ Number (2 ^ o.k) ∷ [] in
        ap s (chain.last_choice moved o.b o.k o.c at two some (omega arith))
        ∙ shift_sort s moved o.b (λ i p. omega arith) (left_ends s o.k o.left.most (at + 1) o.a) o.k at (at + 2) (h 0 (omega arith))
        (each_back (HasSort s) at (at + 2) two (shift_rows moved o.b o.k at (at + 2)) refl h)
        ∙ two_int a b f
    image_sort Ite f i d h = h 0 (lit< tt) ∙ i refl
    image_sort Implies f i d h = h 1 (lit< tt)
    image_sort BvUlt f i d h = h 0 (lit< tt)
    image_sort BvUle f i d h = h 0 (lit< tt)
    image_sort BvUgt f i d h = h 0 (lit< tt)
    image_sort BvUge f i d h = h 0 (lit< tt)
    image_sort op.TheVariants.Equal f i d h = h 0 (lit< tt)
    image_sort op.TheVariants.Not f i d h = h 0 (lit< tt)
    image_sort op.TheVariants.And f i d h = h 0 (lit< tt)
    image_sort op.TheVariants.Or f i d h = h 0 (lit< tt)
    image_sort BvSlt f i d h = h 8 (lit< tt)
    image_sort BvSle f i d h = h 8 (lit< tt)
    image_sort BvSgt f i d h = h 8 (lit< tt)
    image_sort BvSge f i d h = h 8 (lit< tt)
