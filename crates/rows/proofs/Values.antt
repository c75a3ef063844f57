-- The image of every operator has the SMT-LIB value.
use Rattle.std.proofs.Common.{◌≡◌, ℕ, true, List, ℤ, sym, refl, ap, ◌∙◌, lit<}
use Rattle.source.specs.declared.operator.Operator as op
use Rattle.source.specs.declared.operator.Operator.{Operator}
use Rattle.source.specs.declared.operator.Operator.TheVariants.{BvNot, BvNeg, BvAdd, BvSub, BvMul, BvUdiv, BvUrem, Extract, Concat, BvAnd, BvOr, BvXor, BvLshr, BvShl, BvUlt, BvUle, BvUgt, BvUge, BvSlt, BvSle, BvSgt, BvSge, Ite, Implies}
use Rattle.source.specs.declared.value.Value.{Value}
use Rattle.source.specs.Sorts.{in_bounds}
use Rattle.source.specs.Values.{sort_of, number_of, truth_of, taken, given}
use Rattle.target.specs.Values.{Val, bool, Reading}
use Rattle.target.specs.Meaning.{row_value}
use Rattle.rows.specs.declared.operands.Operands.{Operands}
use Rattle.rows.specs.Rows.{rows_of}
use Rattle.rows.specs.Law.{shown, Given, Anded}
use Rattle.rows.proofs.Conds.{cond_of}
use Rattle.rows.proofs.Ends.{Ends}
use Rattle.rows.proofs.Images.{not_ends, neg_ends, extract_ends, lshr_ends, shl_ends, add_ends, sub_ends, mul_ends, udiv_ends, urem_ends, concat_ends}
use Rattle.rows.proofs.Compared.{ult_ends, ule_ends, ugt_ends, uge_ends, slt_ends, sle_ends, sgt_ends, sge_ends, or_ends, xor_ends}
use Rattle.rows.proofs.Takens.{one_of, two_of, any_of, truth_of_lem, truths_of, alike_of, choice_of, same_shown}

module _ (reading : Reading) (numbers : ℕ → ℤ) (vs : List Val) (o : Operands) (at : ℕ) (va vb vc : Value) where
  abbrev Holds : Operator → Type 0
  Holds op = taken op va vb vc ≡ true → Given vs op o va vb vc → Anded vs op o.c va vb → Ends reading numbers vs o.c at (rows_of op o at) (shown (given op va vb vc))

  pub ends : (op : Operator) → Holds op
  unfolding row_value
  ends BvNot t g d = let p = one_of vs o va vb vc true t g.first in rw p.wide (not_ends reading numbers vs o at (number_of va) p.num)
  ends BvNeg t g d = let p = one_of vs o va vb vc true t g.first in rw p.wide (neg_ends reading numbers vs o at (number_of va) p.num)
  ends (Extract u l) t g d = let p = one_of vs o va vb vc (in_bounds (Extract u l) (sort_of va) (sort_of vb)) t g.first in extract_ends reading numbers vs o at (number_of va) p.num u l
  ends BvAdd t g d = let p = two_of vs o va vb vc t g.first (g.second refl) in rw p.0.wide (add_ends reading numbers vs o at (number_of va) (number_of vb) p.0.num p.1.num)
  ends BvSub t g d = let p = two_of vs o va vb vc t g.first (g.second refl) in rw p.0.wide (sub_ends reading numbers vs o at (number_of va) (number_of vb) p.0.num p.1.num)
  ends BvMul t g d = let p = two_of vs o va vb vc t g.first (g.second refl) in rw p.0.wide (mul_ends reading numbers vs o at (number_of va) (number_of vb) p.0.num p.1.num)
  ends BvUdiv t g d = let p = two_of vs o va vb vc t g.first (g.second refl) in rw p.0.wide (udiv_ends reading numbers vs o at (number_of va) (number_of vb) p.0.num p.1.num)
  ends BvUrem t g d = let p = two_of vs o va vb vc t g.first (g.second refl) in urem_ends reading numbers vs o at (number_of va) (number_of vb) p.0.num p.1.num
  ends BvLshr t g d = let p = two_of vs o va vb vc t g.first (g.second refl) in lshr_ends reading numbers vs o at (number_of va) p.0.num p.0.some (number_of vb) p.1.num.is
  ends BvShl t g d = let p = two_of vs o va vb vc t g.first (g.second refl) in rw p.0.wide (shl_ends reading numbers vs o at (number_of va) p.0.num p.0.some (number_of vb) p.1.num.is)
  ends Concat t g d = let p = any_of vs o va vb vc (in_bounds Concat (sort_of va) (sort_of vb)) t g.first (g.second refl) in rw (sym (g.second refl).wide) (concat_ends reading numbers vs o at (number_of va) (number_of vb) p.0 p.1)
  ends BvAnd t g d = λ h. d refl
  ends BvOr t g d = let p = two_of vs o va vb vc t g.first (g.second refl) in or_ends reading numbers vs o at (number_of va) (number_of vb) p.0.some p.0.num p.1.num (d refl)
  ends BvXor t g d = let p = two_of vs o va vb vc t g.first (g.second refl) in xor_ends reading numbers vs o at (number_of va) (number_of vb) p.0.some p.0.num p.1.num (d refl)
  ends BvUlt t g d = let p = two_of vs o va vb vc t g.first (g.second refl) in ult_ends reading numbers vs o at (number_of va) (number_of vb) p.0.some p.0.num p.1.num
  ends BvUle t g d = let p = two_of vs o va vb vc t g.first (g.second refl) in ule_ends reading numbers vs o at (number_of va) (number_of vb) p.0.some p.0.num p.1.num
  ends BvUgt t g d = let p = two_of vs o va vb vc t g.first (g.second refl) in ugt_ends reading numbers vs o at (number_of va) (number_of vb) p.0.some p.0.num p.1.num
  ends BvUge t g d = let p = two_of vs o va vb vc t g.first (g.second refl) in uge_ends reading numbers vs o at (number_of va) (number_of vb) p.0.some p.0.num p.1.num
  ends BvSlt t g d = let p = two_of vs o va vb vc t g.first (g.second refl) in rw p.0.wide (slt_ends reading numbers vs o at (number_of va) (number_of vb) p.0.some p.0.num p.1.num)
  ends BvSle t g d = let p = two_of vs o va vb vc t g.first (g.second refl) in rw p.0.wide (sle_ends reading numbers vs o at (number_of va) (number_of vb) p.0.some p.0.num p.1.num)
  ends BvSgt t g d = let p = two_of vs o va vb vc t g.first (g.second refl) in rw p.0.wide (sgt_ends reading numbers vs o at (number_of va) (number_of vb) p.0.some p.0.num p.1.num)
  ends BvSge t g d = let p = two_of vs o va vb vc t g.first (g.second refl) in rw p.0.wide (sge_ends reading numbers vs o at (number_of va) (number_of vb) p.0.some p.0.num p.1.num)
  ends op.TheVariants.Equal t g d = λ h. h 0 (lit< tt) ∙ rw (g.first.value, (g.second refl).value) (ap bool (same_shown va vb (alike_of vs o va vb vc t)))
  ends op.TheVariants.Not t g d = λ h. let e = truth_of_lem vs o va vb vc t g.first in h 0 (lit< tt) ∙ rw e
  ends op.TheVariants.And t g d = λ h. let p = truths_of vs o va vb vc t g.first (g.second refl) in h 0 (lit< tt) ∙ rw (p.0, p.1)
  ends op.TheVariants.Or t g d = λ h. let p = truths_of vs o va vb vc t g.first (g.second refl) in h 0 (lit< tt) ∙ rw (p.0, p.1)
  ends Implies t g d = λ h. let p = truths_of vs o va vb vc t g.first (g.second refl) in h 1 (lit< tt) ∙ rw (h 0 (lit< tt)) (rw (p.0, p.1))
  ends Ite t g d = λ h. let e = choice_of vs o va vb vc t g.first in h 0 (lit< tt) ∙ rw (e, (g.second refl).value, g.third refl) (cond_of shown (truth_of va) vb vc)
