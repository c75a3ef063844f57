-- The operators that have an and-unknown: what holds of bvand, bvor and bvxor holds of each of them.
use Rattle.std.proofs.Common.{◌≡◌, ℕ, true, leb, List, sym, refl, ap, ◌∙◌}
use Rattle.std.proofs.lemmas.Bool.{false≢true}
use Rattle.source.specs.declared.operator.Operator.{Operator}
use Rattle.source.specs.declared.operator.Operator.TheVariants.{BvNot, BvNeg, BvAdd, BvSub, BvMul, BvUdiv, BvUrem, Extract, Concat, BvAnd, BvOr, BvXor, BvLshr, BvShl, BvUlt, BvUle, BvUgt, BvUge, BvSlt, BvSle, BvSgt, BvSge, Equal, Not, And, Or, Ite, Implies}
use Rattle.source.specs.declared.order.Sort as source_sort
use Rattle.source.specs.declared.value.Value.{Value}
use Rattle.source.specs.Sorts.{two_bits, shape_of, count_of, fits, result_sort}
use Rattle.source.specs.Values.{taken}
use Rattle.target.specs.declared.row.Sort.{Sort}
use Rattle.target.specs.declared.row.Sort.TheVariants as sort
use Rattle.target.specs.Values.{Val}
use Rattle.target.specs.Soundness.{Takes}
use Rattle.rows.specs.declared.operands.Operands.{Operands}
use Rattle.rows.specs.Counts.{has_and}
use Rattle.rows.specs.Law.{Fitting, Given}
use Rattle.rows.proofs.Takens.{Known, two_of}

module _ (P : Operator → Type 0) (x : P BvAnd) (y : P BvOr) (z : P BvXor) where
  pub and_op : (op : Operator) → has_and op ≡ true → P op
  and_op BvAnd e = x
  and_op BvOr e = y
  and_op BvXor e = z
  and_op BvNot e = absurd (false≢true e)
  and_op BvNeg e = absurd (false≢true e)
  and_op BvAdd e = absurd (false≢true e)
  and_op BvSub e = absurd (false≢true e)
  and_op BvMul e = absurd (false≢true e)
  and_op BvUdiv e = absurd (false≢true e)
  and_op BvUrem e = absurd (false≢true e)
  and_op (Extract u l) e = absurd (false≢true e)
  and_op Concat e = absurd (false≢true e)
  and_op BvLshr e = absurd (false≢true e)
  and_op BvShl e = absurd (false≢true e)
  and_op BvUlt e = absurd (false≢true e)
  and_op BvUle e = absurd (false≢true e)
  and_op BvUgt e = absurd (false≢true e)
  and_op BvUge e = absurd (false≢true e)
  and_op BvSlt e = absurd (false≢true e)
  and_op BvSle e = absurd (false≢true e)
  and_op BvSgt e = absurd (false≢true e)
  and_op BvSge e = absurd (false≢true e)
  and_op Equal e = absurd (false≢true e)
  and_op Not e = absurd (false≢true e)
  and_op And e = absurd (false≢true e)
  and_op Or e = absurd (false≢true e)
  and_op Ite e = absurd (false≢true e)
  and_op Implies e = absurd (false≢true e)

-- both operands are of bits
pub and_fitting : (s : ℕ → Sort) (at : ℕ) (o : Operands) → Takes s at sort.Int o.a → Takes s at sort.Int o.b → (op : Operator) → has_and op ≡ true → Fitting s at (shape_of op) o
and_fitting s at o ha hb = and_op (λ op. Fitting s at (shape_of op) o) (ha, hb) (ha, hb) (ha, hb)

-- there is no third operand
pub and_third : (op : Operator) → has_and op ≡ true → leb 3 (count_of (shape_of op)) ≡ true → ⊥
and_third = and_op (λ op. leb 3 (count_of (shape_of op)) ≡ true → ⊥) false≢true false≢true false≢true

-- the result is of bits
pub and_result : (a b c : source_sort.Sort) (op : Operator) → has_and op ≡ true → result_sort op a b c ≡ a
and_result a b c = and_op (λ op. result_sort op a b c ≡ a) refl refl refl

pub and_fits : (a b c : source_sort.Sort) → fits two_bits a b c ≡ true → (op : Operator) → has_and op ≡ true → fits (shape_of op) a b c ≡ true
and_fits a b c e = and_op (λ op. fits (shape_of op) a b c ≡ true) e e e

pub not_ite : (op : Operator) → has_and op ≡ true → op ≡ Ite → ⊥
not_ite op e i = false≢true (sym (ap has_and i) ∙ e)

-- what is known of the operands
pub and_known : (vs : List Val) (o : Operands) (va vb vc : Value) (op : Operator) → has_and op ≡ true → taken op va vb vc ≡ true → Given vs op o va vb vc →
    Known vs o.a o.k o.left va × Known vs o.b o.k o.right vb
and_known vs o va vb vc =
    and_op (λ op. taken op va vb vc ≡ true → Given vs op o va vb vc → Known vs o.a o.k o.left va × Known vs o.b o.k o.right vb)
    (λ t g. two_of vs o va vb vc t g.first (g.second refl))
    (λ t g. two_of vs o va vb vc t g.first (g.second refl))
    (λ t g. two_of vs o va vb vc t g.first (g.second refl))
