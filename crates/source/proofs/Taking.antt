-- What follows where an operator takes its operands.
use Rattle.std.proofs.Common.{◌≡◌, ℕ, ◌^◌, ◌<◌, ◌≤◌, true, sym, refl, ap, ◌∙◌, arith}
use Rattle.std.proofs.lemmas.Bool.{and_parts, and_from, eqb-true, le-leb, lt-ltb}
use Rattle.std.proofs.lemmas.Bool.Decides.{nat_tests}
use Rattle.source.specs.Sorts.{shape_of, count_of, is_bits, width_of, alike, fits, in_bounds}
use Rattle.source.specs.Values.{sort_of, is_value, bits_of, are_values, taken}
use Rattle.source.specs.Operands.{Number, Pair, IsOf}
use Rattle.source.specs.declared.operator.Operator.{Operator}
use Rattle.source.specs.declared.order.Sort as sorts
use Rattle.source.specs.declared.order.Sort.{Sort}
use Rattle.source.specs.declared.value.Value as values
use Rattle.source.specs.declared.value.Value.{Value}

-- the parts of the test
pub record Taken (op : Operator) (a b c : Value) : Type 0 where
  pub values : are_values (count_of (shape_of op)) a b c ≡ true
  pub sorts : fits (shape_of op) (sort_of a) (sort_of b) (sort_of c) ≡ true
  pub bounds : in_bounds op (sort_of a) (sort_of b) ≡ true

pub parts : (op : Operator) (a b c : Value) → taken op a b c ≡ true → Taken op a b c
parts op a b c h =
    let p = and_parts (are_values (count_of (shape_of op)) a b c) _ h in
    let q = and_parts (fits (shape_of op) (sort_of a) (sort_of b) (sort_of c)) (in_bounds op (sort_of a) (sort_of b)) p.1 in
    record { values = p.0; sorts = q.0; bounds = q.1 }

-- a value of bits is a number of its width, and the other way round
pub number : (a : Value) → is_value a ≡ true → is_bits (sort_of a) ≡ true → Number a
number (values.TheVariants.Bool b) h s = absurd (let z : ◌≡◌ {A = ℕ} 0 1 = cc in omega arith)
number (values.TheVariants.Bits k n) h s = record { least = grind (arith, nat_tests); most = grind (arith, nat_tests); below = grind (arith, nat_tests) }

pub is_number : (k n : ℕ) → 1 ≤ k → k ≤ 32 → n < 2 ^ k → IsOf (values.TheVariants.Bits k n) (sorts.TheVariants.Bits k)
is_number k n least most below = record { stands = and_from _ _ (and_from _ _ (le-leb 1 k least) (le-leb k 32 most)) (lt-ltb n (2 ^ k) below); sorted = refl }

pub bits_sort : (a : Value) → is_bits (sort_of a) ≡ true → sorts.TheVariants.Bits (bits_of a) ≡ sort_of a
bits_sort (values.TheVariants.Bool b) s = absurd (let z : ◌≡◌ {A = ℕ} 0 1 = cc in omega arith)
bits_sort (values.TheVariants.Bits k n) s = refl

pub width_is : (a : Value) → width_of (sort_of a) ≡ bits_of a
width_is (values.TheVariants.Bool b) = refl
width_is (values.TheVariants.Bits k n) = refl

pub alike_same : (s t : Sort) → alike s t ≡ true → s ≡ t
alike_same sorts.TheVariants.Bool sorts.TheVariants.Bool h = refl
alike_same sorts.TheVariants.Bool (sorts.TheVariants.Bits j) h = absurd (let z : ◌≡◌ {A = ℕ} 0 1 = cc in omega arith)
alike_same (sorts.TheVariants.Bits k) sorts.TheVariants.Bool h = absurd (let z : ◌≡◌ {A = ℕ} 0 1 = cc in omega arith)
alike_same (sorts.TheVariants.Bits k) (sorts.TheVariants.Bits j) h = ap sorts.TheVariants.Bits (eqb-true k j h)

-- two values of bits, of one width
pub pair : (a b : Value) → is_value a ≡ true → is_value b ≡ true → is_bits (sort_of a) ≡ true → alike (sort_of a) (sort_of b) ≡ true → Pair a b
pair a b ha hb s t =
    let same : sort_of a ≡ sort_of b = alike_same (sort_of a) (sort_of b) t in
    let wide : bits_of a ≡ bits_of b = sym (width_is a) ∙ ap width_of same ∙ width_is b in
    let other : Number b = number b hb (rw (sym same) s) in
    record { first = number a ha s; second = rw wide other.below }
