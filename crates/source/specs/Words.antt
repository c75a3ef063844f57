-- Words with a separator between them, and the number that a word spells.
use Rattle.std.specs.Prelude.{ℕ, ◌^◌, Bool, cond, ◌&&◌, List, length, Some, None, Option, ◌==◌, nat_lt}
use Rattle.std.specs.List.{before_first, after_first}
use Rattle.std.specs.Str.{all_ascii_digits}
use Rattle.std.specs.Str.Parse.{digits_value, without_leading_plus}

-- between a width and a number
abbrev pub colon : ℕ
colon = 58

-- what stands before the first separator, or all where there is none
abbrev pub before : ℕ → List ℕ → List ℕ
before separator text = before_first (λ b. b == separator) text

-- what stands after it, or nothing where there is none
abbrev pub after : ℕ → List ℕ → List ℕ
after separator text = after_first (λ b. b == separator) text

-- a digit or more, whose number is below 2 ^ k
abbrev pub is_number : ℕ → List ℕ → Bool
is_number k digits = (nat_lt 0 (length digits) && all_ascii_digits digits) && nat_lt (digits_value 10 digits) (2 ^ k)

-- the number that a word spells, below 2 ^ k; as `parse` has it, a plus may stand first
abbrev pub number_in : ℕ → List ℕ → Option ℕ
number_in k word =
    let digits = without_leading_plus word in
    cond (is_number k digits) (Some (digits_value 10 digits)) None
