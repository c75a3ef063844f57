-- Reading a line back: its bytes that are no digits, and its numbers.
use Rattle.std.proofs.Common.{◌≡◌, ℕ, zero, suc, ◌+◌, ◌-◌, ◌*◌, ◌<◌, Bool, true, false, cond, eqb, leb, List, [], ◌∷◌, ◌++◌, map, length, refl, ap, ◌∙◌, arith, lit<}
use Rattle.std.specs.Int.Digits.{digits_of, number_from_digits, number_from_digits_after, AllBelowBase}
use Rattle.std.proofs.lemmas.Int.Digits.{all_below_base_digits_of, number_digits_of, length-digits_of_step}
use Rattle.std.proofs.lemmas.Bool.{ne_eqb, le-leb, cond-true, cond-false}
use Rattle.text.specs.Numeral.{numeral}
use Rattle.text.proofs.Numerals.{numeral_some}

abbrev pub digit : ℕ → Bool
digit b = cond (leb 48 b) (leb b 57) false

abbrev pub marks : List ℕ → List ℕ
marks [] = []
marks (b ∷ bs) = cond (digit b) (marks bs) (b ∷ marks bs)

abbrev pub numbers : Bool → ℕ → List ℕ → List ℕ
numbers inside n [] = []
numbers inside n (b ∷ bs) = cond (digit b) (numbers true (n * 10 + (b - 48)) bs) (cond inside (n ∷ numbers false 0 bs) (numbers false 0 bs))

abbrev pub none : List ℕ → Bool
none [] = true
none (b ∷ bs) = false

-- one line break, at the end
abbrev pub ends : List ℕ → Bool
ends [] = false
ends (b ∷ bs) = cond (eqb b 10) (none bs) (ends bs)

-- the digits of a number
pub record Spelled (n : ℕ) : Type 0 where
  pub first : ℕ
  pub others : List ℕ
  pub under : AllBelowBase 10 (first ∷ others)
  pub is : numeral n ≡ map (λ d. 48 + d) (first ∷ others)
  pub worth : number_from_digits 10 (first ∷ others) ≡ n

from_digits : (n : ℕ) (ds : List ℕ) → 0 < length ds → AllBelowBase 10 ds → numeral n ≡ map (λ d. 48 + d) ds → number_from_digits 10 ds ≡ n → Spelled n
from_digits n [] h u e w = absurd (omega arith)
from_digits n (d ∷ ds) h u e w = record { first = d; others = ds; under = u; is = e; worth = w }

pub spelled : (n : ℕ) → Spelled n
unfolding numeral
spelled zero = record { first = 0; others = []; under = (lit< tt, tt); is = refl; worth = refl }
spelled (suc n) = from_digits (suc n) (digits_of 10 (suc n)) (omega (arith, length-digits_of_step 10 (suc n) (omega arith) (omega arith))) (all_below_base_digits_of 10 (suc n) (omega arith)) (numeral_some (suc n) (omega arith)) (number_digits_of 10 (suc n) (omega arith))

pub digit_in : (d : ℕ) → d < 10 → digit (48 + d) ≡ true
digit_in d h = cond-true (leb 48 (48 + d)) (leb (48 + d) 57) false (le-leb 48 (48 + d) (omega arith)) ∙ le-leb (48 + d) 57 (omega arith)

pub marks_digits : (ds rest : List ℕ) → AllBelowBase 10 ds → marks (map (λ d. 48 + d) ds ++ rest) ≡ marks rest
marks_digits [] rest u = refl
marks_digits (d ∷ ds) rest u = cond-true (digit (48 + d)) _ _ (digit_in d u.0) ∙ marks_digits ds rest u.1

pub marks_numeral : (n : ℕ) (rest : List ℕ) → marks (numeral n ++ rest) ≡ marks rest
marks_numeral n rest =
    let s : Spelled n = spelled n in
    ap (λ (t : List ℕ). marks (t ++ rest)) s.is ∙ marks_digits (s.first ∷ s.others) rest s.under

pub ends_digits : (ds rest : List ℕ) → AllBelowBase 10 ds → ends (map (λ d. 48 + d) ds ++ rest) ≡ ends rest
ends_digits [] rest u = refl
ends_digits (d ∷ ds) rest u = cond-false (eqb (48 + d) 10) _ _ (ne_eqb (48 + d) 10 (λ e. omega arith)) ∙ ends_digits ds rest u.1

pub ends_numeral : (n : ℕ) (rest : List ℕ) → ends (numeral n ++ rest) ≡ ends rest
ends_numeral n rest =
    let s : Spelled n = spelled n in
    ap (λ (t : List ℕ). ends (t ++ rest)) s.is ∙ ends_digits (s.first ∷ s.others) rest s.under

-- digits up to a byte that is none
pub numbers_digits : (n : ℕ) (ds : List ℕ) (c : ℕ) (rest : List ℕ) → digit c ≡ false → AllBelowBase 10 ds → numbers true n (map (λ d. 48 + d) ds ++ (c ∷ rest)) ≡ number_from_digits_after 10 n ds ∷ numbers false 0 rest
numbers_digits n [] c rest h u = cond-false (digit c) _ _ h
numbers_digits n (d ∷ ds) c rest h u =
    let e : n * 10 + (48 + d - 48) ≡ n * 10 + d = omega arith in
    cond-true (digit (48 + d)) _ _ (digit_in d u.0)
    ∙ ap (λ (m : ℕ). numbers true m (map (λ d. 48 + d) ds ++ (c ∷ rest))) e
    ∙ numbers_digits (n * 10 + d) ds c rest h u.1

numbers_numeral : (n c : ℕ) (rest : List ℕ) → digit c ≡ false → numbers false 0 (numeral n ++ (c ∷ rest)) ≡ n ∷ numbers false 0 rest
numbers_numeral n c rest h =
    let s : Spelled n = spelled n in
    let e : 48 + s.first - 48 ≡ s.first = omega arith in
    ap (λ (t : List ℕ). numbers false 0 (t ++ (c ∷ rest))) s.is
    ∙ cond-true (digit (48 + s.first)) _ _ (digit_in s.first s.under.0)
    ∙ ap (λ (m : ℕ). numbers true m (map (λ d. 48 + d) s.others ++ (c ∷ rest))) (omega arith)
    ∙ numbers_digits (0 * 10 + s.first) s.others c rest h s.under.1
    ∙ ap (λ (m : ℕ). m ∷ numbers false 0 rest) s.worth

pub numbers_space : (n : ℕ) (rest : List ℕ) → numbers false 0 (numeral n ++ (32 ∷ rest)) ≡ n ∷ numbers false 0 rest
numbers_space n rest = numbers_numeral n 32 rest refl

pub numbers_paren : (n : ℕ) (rest : List ℕ) → numbers false 0 (numeral n ++ (41 ∷ rest)) ≡ n ∷ numbers false 0 rest
numbers_paren n rest = numbers_numeral n 41 rest refl
