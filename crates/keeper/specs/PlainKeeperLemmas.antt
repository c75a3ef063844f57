-- The laws of the plain keeper, of the numbers that a record of width k stands for.
use Rattle.std.specs.Prelude.{◌≡◌, ℕ, ◌-◌, ◌^◌, ◌<◌, ◌≤◌, true, min}
use Rattle.std.proofs.Common.{arith, pow_mono, pow_pos, subst, zero-le}
use Rattle.source.specs.Values.{number_of, bits_of, taken, value_of}
use Rattle.source.specs.declared.operator.Operator.{Operator}
use Rattle.source.specs.declared.value.Value.{Value}
use Rattle.keeper.specs.Results.{value_known}

pub capped : (k : ℕ) → 2 ^ min k 64 ≤ 2 ^ k
capped k = let h : min k 64 ≤ k = omega arith in pow_mono h

pub below_width : (k n : ℕ) → n < 2 ^ min k 64 → n < 2 ^ k
below_width k n h = omega (arith, capped k)

pub ends_in_width : (k : ℕ) → (0 ≤ 2 ^ min k 64 - 1) × (2 ^ min k 64 - 1 < 2 ^ k)
ends_in_width k = (zero-le, omega (arith, capped k, pow_pos (min k 64)))

-- the number of what an operator gives has the value's width, which is at most 32
pub made_holds : (op : Operator) (k : ℕ) (va vb vc : Value) → taken op va vb vc ≡ true → bits_of (value_of op va vb vc) ≡ k → number_of (value_of op va vb vc) < 2 ^ min k 64
made_holds op k va vb vc t e =
    let is = value_known op va vb vc t in
    let same : bits_of (value_of op va vb vc) ≡ min k 64 = omega (arith, is.most) in
    subst (λ (j : ℕ). number_of (value_of op va vb vc) < 2 ^ j) same is.below
