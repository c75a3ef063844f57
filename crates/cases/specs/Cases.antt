-- Cases worked out by hand. Numbers are 4 bits wide where no width is said.
use Rattle.std.specs.Prelude.{◌≡◌, true, false, [], ◌∷◌, ℕ, pos, negsuc, length}
use Rattle.source.specs.declared.operator.Operator.TheVariants.{BvNeg, BvAdd, BvMul, BvUdiv, BvUrem, Extract, Concat, BvAnd, BvOr, BvXor, BvShl, BvSlt}
use Rattle.source.specs.declared.value.Value.{Value}
use Rattle.source.specs.declared.value.Value.TheVariants.{Bool, Bits}
use Rattle.source.specs.Numbers.{signed}
use Rattle.source.specs.Values.{value_of}
use Rattle.target.specs.declared.row.Sort.TheVariants.{Int}
use Rattle.target.specs.declared.row.Row.TheVariants.{Number, Add, Rem}
use Rattle.scheme.specs.SumRows.{sum_rows}
use Rattle.scheme.specs.BitwiseRows.{bitwise_rows}
use Rattle.keeper.specs.Intervals.{between}
use Rattle.keeper.specs.declared.record.IntervalRecord.{IntervalRecord}
use Rattle.rows.specs.declared.operands.Operands.{Operands}
use Rattle.rows.specs.Rows.{rows_of, and_rows}

-- the value of an operator on one, two or three numbers of 4 bits; one that it does not have is false
abbrev pub four : ℕ → Value
four n = Bits 4 n

abbrev pub none : Value
none = Bool false

-- operands that are the rows 1 and 2 of a table, of width k, whose numbers lie within these intervals
abbrev pub known : ℕ → IntervalRecord → IntervalRecord → Operands
known k r s = record {
  a = 1;
  b = 2;
  c = 0;
  k = k;
  j = k;
  sort = Int;
  left = record { least = r.lo; most = r.hi };
  right = record { least = s.lo; most = s.hi };
}

-- the interval keeper's record of a constant of 8 bits
abbrev pub constant : ℕ → IntervalRecord
constant n = between 8 n n

-- operands of 4 bits of which nothing is known
abbrev pub any : Operands
any = known 4 (between 4 0 15) (between 4 0 15)

pub record Worked : Type 0 where
  -- 12 and 10
  pub and : value_of BvAnd (four 12) (four 10) none ≡ four 8
  pub or : value_of BvOr (four 12) (four 10) none ≡ four 14
  pub xor : value_of BvXor (four 12) (four 10) none ≡ four 6
  -- signed numbers: 7, 8 and 15; and 1 at width 1
  pub seven : signed 4 7 ≡ pos 7
  pub eight : signed 4 8 ≡ negsuc 7
  pub fifteen : signed 4 15 ≡ negsuc 0
  pub lone : signed 1 1 ≡ negsuc 0
  pub below : value_of BvSlt (four 8) (four 7) none ≡ Bool true
  -- division of 9 by 0
  pub quotient : value_of BvUdiv (four 9) (four 0) none ≡ four 15
  pub remainder : value_of BvUrem (four 9) (four 0) none ≡ four 9
  -- the negative of 0
  pub negative : value_of BvNeg (four 0) none none ≡ four 0
  -- 3 moved to the left by 0, 3 and 4
  pub unmoved : value_of BvShl (four 3) (four 0) none ≡ four 3
  pub moved : value_of BvShl (four 3) (four 3) none ≡ four 8
  pub gone : value_of BvShl (four 3) (four 4) none ≡ four 0
  -- bits 2 and 1 of 13
  pub part : value_of (Extract 2 1) (four 13) none none ≡ Bits 2 2
  -- 2, of width 2, and 5
  pub joined : value_of Concat (Bits 2 2) (four 5) none ≡ Bits 6 37
  -- the largest number of 32 bits, squared
  pub squared : value_of BvMul (Bits 32 4294967295) (Bits 32 4294967295) none ≡ Bits 32 1
  -- constants of 8 bits, by intervals: 200 + 55 needs no remainder, 200 + 56 does
  pub fits : rows_of BvAdd (known 8 (constant 200) (constant 55)) 10 ≡ Add 1 2 ∷ []
  pub rolls : rows_of BvAdd (known 8 (constant 200) (constant 56)) 10 ≡ Add 1 2 ∷ Number 256 ∷ Rem 10 11 ∷ []
  -- bvand's rows, by the sum scheme and by the bitwise one
  pub by_sum : length (and_rows BvAnd any 10 (sum_rows 16 (record { k = 4; a = 1; b = 2; c = 10 }))) ≡ 54
  pub by_bits : length (and_rows BvAnd any 10 (bitwise_rows 16 (record { k = 4; a = 1; b = 2; c = 10 }))) ≡ 62
