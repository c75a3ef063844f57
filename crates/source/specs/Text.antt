-- The text of a value: true, false, or K:N, the number N in K bits, both in decimal; and the value of a text.
use Rattle.std.specs.Prelude.{ℕ, true, false, cond, List, ◌∷◌, ◌++◌, codes, Some, None, Option}
use Rattle.std.specs.Str.{bytes_eq}
use Rattle.std.specs.Fmt.{decimal}
use Rattle.source.specs.Words.{colon, before, after, number_in}
use Rattle.source.specs.declared.value.Value as values
use Rattle.source.specs.declared.value.Value.{Value}

abbrev pub value_text : Value → List ℕ
value_text (values.TheVariants.Bool true) = codes "true"
value_text (values.TheVariants.Bool false) = codes "false"
value_text (values.TheVariants.Bits k n) = decimal k ++ (colon ∷ decimal n)

-- what f gives of a value, where there is one
abbrev pub and_then : {A B : Type 0} → Option A → (A → Option B) → Option B
and_then None f = None
and_then (Some a) f = f a

-- K:N, the number N in K bits. Where there is no colon, N is empty and no number.
abbrev pub bits_in : List ℕ → Option Value
bits_in word =
    and_then (number_in 32 (before colon word)) (λ k.
    and_then (number_in 64 (after colon word)) (λ n.
    Some (values.TheVariants.Bits k n)))

-- the value that a text spells
abbrev pub value_in_text : List ℕ → Option Value
value_in_text word =
    cond (bytes_eq word (codes "true")) (Some (values.TheVariants.Bool true))
    (cond (bytes_eq word (codes "false")) (Some (values.TheVariants.Bool false))
    (bits_in word))
