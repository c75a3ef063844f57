-- What `parse` gives at an unsigned type.
use Rattle.std.proofs.Common.{◌≡◌, ℕ, ◌^◌, ◌<◌, Bool, true, cond, List, Some, None, Ok, Err, Result, length, ap, sym, ◌∙◌}
use Rattle.std.specs.Bool.{Decides}
use Rattle.std.specs.Result.{OkIff, result_ok}
use Rattle.std.specs.Str.{all_ascii_digits}
use Rattle.std.specs.Str.Parse.{AllDigits, IsNumeral, ParsesUnsigned, digits_value, without_leading_plus}
use Rattle.std.proofs.lemmas.Bool.{cond-true, cond-false, false_from_ne_true}
use Rattle.std.proofs.lemmas.Bool.Decides.{Decides-and, Decides-ltb}
use Rattle.std.proofs.lemmas.Str.Parse.{IsNumeralModel, numerals_by_value, tells_all_ascii_digits}
use Rattle.source.specs.Words.{is_number, number_in}

-- the test of digits, in the words of `parse`
pub digits_model : IsNumeralModel (λ ds. all_ascii_digits ds ≡ true) (digits_value 10)
digits_model = numerals_by_value _ tells_all_ascii_digits

pub all_ascii_digits-Decides : (ds : List ℕ) → Decides (all_ascii_digits ds) (AllDigits 10 ds)
all_ascii_digits-Decides ds = (digits_model.to ds, digits_model.from ds)

pub is_number-Decides : (k : ℕ) (ds : List ℕ) → Decides (is_number k ds) (IsNumeral 10 ds × (digits_value 10 ds < 2 ^ k))
is_number-Decides k ds =
    Decides-and _ _ (Decides-and _ _ (Decides-ltb 0 (length ds)) (all_ascii_digits-Decides ds)) (Decides-ltb (digits_value 10 ds) (2 ^ k))

-- a value that comes just where a test is true
result_ok-OkIff : {T E : Type 0} (r : Result T E) (P : Type 0) (v : T) (b : Bool) → OkIff r P v → Decides b P → result_ok r ≡ cond b (Some v) None
result_ok-OkIff (Ok x) P v b (holds, is) (to, from) = ap Some is ∙ sym (cond-true b _ _ (from holds))
result_ok-OkIff (Err e) P v b fails (to, from) = sym (cond-false b _ _ (false_from_ne_true b (λ t. fails (to t))))

pub number_in_parse : {E : Type 0} (k : ℕ) (word : List ℕ) (r : Result ℕ E) → ParsesUnsigned k 10 word r → result_ok r ≡ number_in k word
number_in_parse k word r h = result_ok-OkIff r _ _ _ h (is_number-Decides k (without_leading_plus word))
