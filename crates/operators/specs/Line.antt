-- The value of a line: an operator and its operands, one space between each two words.
use Rattle.std.specs.Prelude.{ℕ, Bool, false, cond, List, [], ◌∷◌, codes, Some, Option}
use Rattle.std.specs.Str.{bytes_eq}
use Rattle.source.specs.declared.operator.Operator.{Operator}
use Rattle.source.specs.declared.operator.Operator.TheVariants.{Extract}
use Rattle.source.specs.declared.value.Value.{Value}
use Rattle.source.specs.declared.value.Value as values
use Rattle.source.specs.Values.{value_of}
use Rattle.source.specs.Text.{and_then, value_in_text}
use Rattle.source.specs.Words.{before, after, number_in}
use Rattle.operators.specs.Names.{operator_named}

abbrev pub space : ℕ
space = 32

abbrev pub first_word : List ℕ → List ℕ
first_word text = before space text

-- what stands behind the first word and the space
abbrev pub rest_of : List ℕ → List ℕ
rest_of text = after space text

-- an empty word is an operand that the line does not have, and counts as false
abbrev pub operand_or_none : List ℕ → Option Value
operand_or_none [] = Some (values.TheVariants.Bool false)
operand_or_none (b ∷ bs) = value_in_text (b ∷ bs)

-- extract's upper and lower bit are the first two words behind its name
abbrev pub extract_in : List ℕ → Option Operator
extract_in text =
    and_then (number_in 32 (first_word text)) (λ upper.
    and_then (number_in 32 (first_word (rest_of text))) (λ lower.
    Some (Extract upper lower)))

-- whether a line begins with extract
abbrev pub begins_extract : List ℕ → Bool
begins_extract line = bytes_eq (first_word line) (codes "extract")

-- the operator with which a line begins
abbrev pub operator_in : List ℕ → Option Operator
operator_in line = cond (begins_extract line) (extract_in (rest_of line)) (operator_named (first_word line))

-- what stands behind it
abbrev pub operands_in : List ℕ → List ℕ
operands_in line = cond (begins_extract line) (rest_of (rest_of (rest_of line))) (rest_of line)

-- the value of an operator at the operands that a text spells: two words, and all that stands behind them
abbrev pub value_in : Operator → List ℕ → Option Value
value_in op text =
    and_then (operand_or_none (first_word text)) (λ a.
    and_then (operand_or_none (first_word (rest_of text))) (λ b.
    and_then (operand_or_none (rest_of (rest_of text))) (λ c.
    Some (value_of op a b c))))

-- the value of a line, if it has one
abbrev pub line_value : List ℕ → Option Value
line_value line = and_then (operator_in line) (λ op. value_in op (operands_in line))
