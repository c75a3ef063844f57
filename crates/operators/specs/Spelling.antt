-- The lines that spell an operator and its operands, and what they give.
use Rattle.std.specs.Prelude.{ℕ, ◌^◌, ◌<◌, ◌≤◌, false, List, [], ◌∷◌, ◌++◌, map, length, All, ⊤, slice_index_or}
use Rattle.std.specs.Fmt.{decimal}
use Rattle.std.specs.List.{join_with_byte}
use Rattle.source.specs.declared.operator.Operator.{Operator}
use Rattle.source.specs.declared.operator.Operator.TheVariants.{Extract}
use Rattle.source.specs.declared.value.Value.{Value}
use Rattle.source.specs.declared.value.Value as values
use Rattle.source.specs.Values.{value_of}
use Rattle.source.specs.Text.{value_text}
use Rattle.operators.specs.Line.{space}
use Rattle.operators.specs.Names.{name_of}

-- the words of an operator: its name, and behind extract's its upper and its lower bit
abbrev pub bit_words : Operator → List (List ℕ)
bit_words (Extract upper lower) = decimal upper ∷ decimal lower ∷ []
bit_words op = []

abbrev pub operator_words : Operator → List (List ℕ)
operator_words op = name_of op ∷ bit_words op

-- the words of an operator and of as many operands as are written, one space between each two
abbrev pub spelling : Operator → List Value → List ℕ
spelling op operands = join_with_byte space (operator_words op ++ map value_text operands)

-- an operand that is not written counts as false
abbrev pub operand_at : List Value → ℕ → Value
operand_at operands i = slice_index_or operands i (values.TheVariants.Bool false)

-- the value of an operator at the operands that are written
abbrev pub value_at : Operator → List Value → Value
value_at op operands = value_of op (operand_at operands 0) (operand_at operands 1) (operand_at operands 2)

-- extract's bits are below 2 ^ 32
abbrev pub OperatorFits : Operator → Type 0
OperatorFits (Extract upper lower) = (upper < 2 ^ 32) × (lower < 2 ^ 32)
OperatorFits op = ⊤

-- an operand's width is below 2 ^ 32, and its number below 2 ^ 64
abbrev pub OperandFits : Value → Type 0
OperandFits (values.TheVariants.Bool b) = ⊤
OperandFits (values.TheVariants.Bits k n) = (k < 2 ^ 32) × (n < 2 ^ 64)

-- an operator and at most three operands, of numbers that are not too large
pub record IsWritable (op : Operator) (operands : List Value) : Type 0 where
  pub few : length operands ≤ 3
  pub operator : OperatorFits op
  pub each : All OperandFits operands
