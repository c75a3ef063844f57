-- Numbers in decimal, and what they are read as.
use Rattle.std.proofs.Common.{◌≡◌, ◌≢◌, ℕ, ◌^◌, ◌<◌, true, false, List, [], ◌∷◌, Some, get_or, refl, ap, sym, ◌∙◌}
use Rattle.std.specs.Str.{all_ascii_digits}
use Rattle.std.specs.Char.{is_ascii_digit}
use Rattle.std.specs.Fmt.{decimal}
use Rattle.std.proofs.lemmas.Bool.{cond-true, true≢false, and_parts, ne_eqb}
use Rattle.std.proofs.lemmas.Str.Parse.{without_leading_plus_none}
use Rattle.std.proofs.lemmas.Fmt.{digits_decimal, decimal_is_IsNumeral}
use Rattle.operators.proofs.Splitting.{lacks}
use Rattle.source.specs.Words.{is_number, number_in}
use Rattle.source.proofs.Parsing.{digits_model, is_number-Decides}

-- a number in decimal: it has digits, and nothing else
pub decimal_all_digits : (n : ℕ) → n < 2 ^ 64 → all_ascii_digits (decimal n) ≡ true
decimal_all_digits n h = digits_decimal digits_model n h

-- no digit is a given byte that is none
pub lacks_digits : (c : ℕ) (ds : List ℕ) → is_ascii_digit c ≡ false → all_ascii_digits ds ≡ true → lacks c ds ≡ true
lacks_digits c [] none h = refl
lacks_digits c (d ∷ ds) none h =
    let (head, tail) = and_parts (is_ascii_digit d) (all_ascii_digits ds) h in
    rw (ne_eqb d c (λ e. true≢false (sym head ∙ ap is_ascii_digit e ∙ none))) (lacks_digits c ds none tail)

no_plus : (ds : List ℕ) → all_ascii_digits ds ≡ true → get_or ds 0 0 ≢ 43
no_plus [] h = λ e. cc
no_plus (d ∷ ds) h = λ e. true≢false (sym (and_parts (is_ascii_digit d) (all_ascii_digits ds) h).0 ∙ ap is_ascii_digit e)

pub number_in_decimal : (k n : ℕ) → n < 2 ^ k → n < 2 ^ 64 → number_in k (decimal n) ≡ Some n
number_in_decimal k n fits h =
    let (numeral, value) = decimal_is_IsNumeral n h in
    rw (without_leading_plus_none (decimal n) (no_plus (decimal n) (decimal_all_digits n h)))
    (cond-true (is_number k (decimal n)) _ _ ((is_number-Decides k (decimal n)).1 (numeral, rw value fits)) ∙ ap Some value)
