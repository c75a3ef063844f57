-- What a line gives that spells an operator and its operands.
use Rattle.std.proofs.Common.{◌≡◌, ℕ, ◌^◌, ◌<◌, ◌≤◌, true, false, List, [], ◌∷◌, ◌++◌, map, length, Some, codes, refl, ap, sym, ◌∙◌, arith}
use Rattle.std.specs.Char.{is_ascii_digit}
use Rattle.std.specs.Fmt.{decimal}
use Rattle.std.specs.List.{join_with_byte, All}
use Rattle.std.specs.Str.{all_ascii_digits, bytes_eq}
use Rattle.std.proofs.lemmas.Bool.{true≢false, and_parts, ne_eqb}
use Rattle.std.proofs.lemmas.Fmt.{decimal_nonempty}
use Rattle.source.specs.declared.operator.Operator.{Operator}
use Rattle.source.specs.declared.operator.Operator.TheVariants.{Extract}
use Rattle.source.specs.declared.value.Value.{Value}
use Rattle.source.specs.declared.value.Value as values
use Rattle.source.specs.Values.{value_of}
use Rattle.source.specs.Words.{colon}
use Rattle.source.specs.Text.{and_then, value_text, bits_in}
use Rattle.operators.specs.Names.{name_of, operator_named}
use Rattle.operators.specs.Line.{space, first_word, rest_of, operand_or_none, extract_in, operator_in, operands_in, value_in, line_value}
use Rattle.operators.specs.Spelling.{operator_words, spelling, OperatorFits, OperandFits, IsWritable, operand_at, value_at}
use Rattle.operators.proofs.Splitting.{lacks, lacks-append, before_separator, after_separator, before-join, after-join}
use Rattle.operators.proofs.Numbers.{decimal_all_digits, lacks_digits, number_in_decimal}

-- a number in decimal has neither a space nor a colon
no_space : (n : ℕ) → n < 2 ^ 64 → lacks space (decimal n) ≡ true
no_space n h = lacks_digits space (decimal n) refl (decimal_all_digits n h)

no_colon : (n : ℕ) → n < 2 ^ 64 → lacks colon (decimal n) ≡ true
no_colon n h = lacks_digits colon (decimal n) refl (decimal_all_digits n h)

-- K:N is read back
bits_back : (k n : ℕ) → k < 2 ^ 32 → n < 2 ^ 64 → bits_in (decimal k ++ (colon ∷ decimal n)) ≡ Some (values.TheVariants.Bits k n)
bits_back k n hk hn =
    let small : k < 2 ^ 64 = omega arith in
    rw (before_separator colon (decimal k) (decimal n) (no_colon k small))
    (rw (after_separator colon (decimal k) (decimal n) (no_colon k small))
    (rw (number_in_decimal 32 k hk small)
    (rw (number_in_decimal 64 n hn hn))))

-- what begins with a digit is neither true nor false
digits_first : (ds text : List ℕ) → all_ascii_digits ds ≡ true → 0 < length ds → operand_or_none (ds ++ text) ≡ bits_in (ds ++ text)
digits_first [] text h some = absurd (omega arith)
digits_first (d ∷ ds) text h some =
    let digit = (and_parts (is_ascii_digit d) (all_ascii_digits ds) h).0 in
    rw (ne_eqb d 116 (λ e. true≢false (sym digit ∙ ap is_ascii_digit e)))
    (rw (ne_eqb d 102 (λ e. true≢false (sym digit ∙ ap is_ascii_digit e))))

-- the word of an operand is read back, and has no space
operand_back : (v : Value) → OperandFits v → operand_or_none (value_text v) ≡ Some v
operand_back (values.TheVariants.Bool true) h = refl
operand_back (values.TheVariants.Bool false) h = refl
operand_back (values.TheVariants.Bits k n) (hk, hn) =
    let small : k < 2 ^ 64 = omega arith in
    digits_first (decimal k) (colon ∷ decimal n) (decimal_all_digits k small) (decimal_nonempty k small) ∙ bits_back k n hk hn

operand_no_space : (v : Value) → OperandFits v → lacks space (value_text v) ≡ true
operand_no_space (values.TheVariants.Bool true) h = refl
operand_no_space (values.TheVariants.Bool false) h = refl
operand_no_space (values.TheVariants.Bits k n) (hk, hn) =
    let small : k < 2 ^ 64 = omega arith in
    lacks-append space (decimal k) (colon ∷ decimal n) (no_space k small) (no_space n hn)

-- a line whose first word is a name other than extract
module _ (name : List ℕ) (words : List (List ℕ)) (whole : lacks space name ≡ true) (other : bytes_eq name (codes "extract") ≡ false) where
  plain_operator : operator_in (join_with_byte space (name ∷ words)) ≡ operator_named name
  plain_operator = rw (before-join space name words whole) (rw other)

  plain_operands : operands_in (join_with_byte space (name ∷ words)) ≡ join_with_byte space words
  plain_operands = rw (before-join space name words whole) (rw other (after-join space name words whole))

-- extract's two numbers
module _ (upper lower : ℕ) (words : List (List ℕ)) (hu : upper < 2 ^ 32) (hl : lower < 2 ^ 32) where
  bits_text : List ℕ
  bits_text = join_with_byte space (decimal upper ∷ decimal lower ∷ words)

  behind_upper : rest_of bits_text ≡ join_with_byte space (decimal lower ∷ words)
  unfolding bits_text
  behind_upper = after-join space (decimal upper) (decimal lower ∷ words) (no_space upper (omega arith))

  extract_back : extract_in bits_text ≡ Some (Extract upper lower)
  unfolding bits_text
  extract_back =
      rw (before-join space (decimal upper) (decimal lower ∷ words) (no_space upper (omega arith)))
      (rw behind_upper
      (rw (before-join space (decimal lower) words (no_space lower (omega arith)))
      (rw (number_in_decimal 32 upper hu (omega arith))
      (rw (number_in_decimal 32 lower hl (omega arith))))))

  behind_bits : rest_of (rest_of bits_text) ≡ join_with_byte space words
  unfolding bits_text
  behind_bits = ap rest_of behind_upper ∙ after-join space (decimal lower) words (no_space lower (omega arith))

-- the words of an operator are read back, and the words behind them are its operands
operator_back : (op : Operator) (words : List (List ℕ)) → OperatorFits op → operator_in (join_with_byte space (operator_words op ++ words)) ≡ Some op
unfolding bits_text
operator_back (Extract upper lower) words (hu, hl) = extract_back upper lower words hu hl
operator_back op words h = plain_operator (name_of op) words refl refl

operands_back : (op : Operator) (words : List (List ℕ)) → OperatorFits op → operands_in (join_with_byte space (operator_words op ++ words)) ≡ join_with_byte space words
unfolding bits_text
operands_back (Extract upper lower) words (hu, hl) = behind_bits upper lower words hu hl
operands_back op words h = plain_operands (name_of op) words refl refl

-- operands with one space between each two
abbrev pub operands_text : List Value → List ℕ
operands_text operands = join_with_byte space (map value_text operands)

-- the operand that stands first, and the text behind it
first_back : (v : Value) (others : List Value) → OperandFits v → operand_or_none (first_word (operands_text (v ∷ others))) ≡ Some v
first_back v others h = ap operand_or_none (before-join space (value_text v) (map value_text others) (operand_no_space v h)) ∙ operand_back v h

behind_first : (v : Value) (others : List Value) → OperandFits v → rest_of (operands_text (v ∷ others)) ≡ operands_text others
behind_first v others h = after-join space (value_text v) (map value_text others) (operand_no_space v h)

-- the value at operands that are read one by one
value_from : (op : Operator) (text : List ℕ) (a b c : Value) → operand_or_none (first_word text) ≡ Some a → operand_or_none (first_word (rest_of text)) ≡ Some b → operand_or_none (rest_of (rest_of text)) ≡ Some c → value_in op text ≡ Some (value_of op a b c)
value_from op text a b c first second third = rw first (rw second (rw third))

-- operands are read back, and those that are not written are false
value_back : (op : Operator) (operands : List Value) → length operands ≤ 3 → All OperandFits operands → value_in op (operands_text operands) ≡ Some (value_at op operands)
value_back op [] few fits = refl
value_back op (a ∷ []) few fits =
    let fa = fits 0 a (omega arith) in
    let past = behind_first a [] fa in
    value_from op (operands_text (a ∷ [])) a (operand_at [] 0) (operand_at [] 0) (first_back a [] fa)
    (ap (λ t. operand_or_none (first_word t)) past)
    (ap (λ t. operand_or_none (rest_of t)) past)
value_back op (a ∷ b ∷ []) few fits =
    let fa = fits 0 a (omega arith) in
    let fb = fits 1 a (omega arith) in
    let past = behind_first a (b ∷ []) fa in
    value_from op (operands_text (a ∷ b ∷ [])) a b (operand_at [] 0) (first_back a (b ∷ []) fa)
    (ap (λ t. operand_or_none (first_word t)) past ∙ first_back b [] fb)
    (ap (λ t. operand_or_none (rest_of t)) past ∙ ap operand_or_none (behind_first b [] fb))
value_back op (a ∷ b ∷ c ∷ []) few fits =
    let fa = fits 0 a (omega arith) in
    let fb = fits 1 a (omega arith) in
    let past = behind_first a (b ∷ c ∷ []) fa in
    value_from op (operands_text (a ∷ b ∷ c ∷ [])) a b c (first_back a (b ∷ c ∷ []) fa)
    (ap (λ t. operand_or_none (first_word t)) past ∙ first_back b (c ∷ []) fb)
    (ap (λ t. operand_or_none (rest_of t)) past ∙ ap operand_or_none (behind_first b (c ∷ []) fb) ∙ operand_back c (fits 2 a (omega arith)))
value_back op (a ∷ b ∷ c ∷ d ∷ operands) few fits = absurd (omega arith)

pub spelled : (op : Operator) (operands : List Value) (line : List ℕ) → IsWritable op operands → line ≡ spelling op operands → line_value line ≡ Some (value_at op operands)
spelled op operands line h e =
    let words = map value_text operands in
    ap line_value e
    ∙ ap (λ o. and_then o (λ p. value_in p (operands_in (spelling op operands)))) (operator_back op words h.operator)
    ∙ ap (value_in op) (operands_back op words h.operator)
    ∙ value_back op operands h.few h.each
